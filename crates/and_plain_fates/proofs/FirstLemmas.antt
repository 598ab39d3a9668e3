-- No enabled actor comes before: post by post.
use Rattle.std.specs.Prelude.{◌↔◌, IsTrue}
use Rattle.std.proofs.Common.{◌≡◌, ℕ, ◌<◌, Bool, subst}
use Rattle.and_events.specs.declared.event.Actor.{Actor}
use Rattle.and_events.specs.declared.event.Actor.TheVariants.{HostInstall, GateInstall, Worker, Coproc, Gateway, Controller, Driver}
use Rattle.and_events.specs.declared.plan.Plan.{Plan}
use Rattle.and_events.specs.Ordered.{IsFirst}
use Rattle.and_events.specs.Places.{IsActor}
use Rattle.and_events.specs.State.{State}
use Rattle.and_plain_fates.specs.First.{IsNotBefore}

record Waits (plan : Plan) (s : State) (a : Actor) : Type 0 where
  hosts : (n : ℕ) → n < plan.settings.hosts → IsNotBefore plan s a (HostInstall n)
  gates : (n : ℕ) → n < plan.settings.gateways → IsNotBefore plan s a (GateInstall n)
  workers : (i : ℕ) → i < plan.settings.workers → (h : ℕ) → h < plan.settings.hosts → IsNotBefore plan s a (Worker h i)
  coprocs : (n : ℕ) → n < plan.settings.hosts → IsNotBefore plan s a (Coproc n)
  gateways : (n : ℕ) → n < plan.settings.gateways → IsNotBefore plan s a (Gateway n)
  single : IsNotBefore plan s a Controller × IsNotBefore plan s a Driver

for_each : (plan : Plan) (s : State) (a : Actor) → Waits plan s a → (b : Actor) → IsActor plan.settings b → IsNotBefore plan s a b
for_each plan s a w (HostInstall n) is = w.hosts n is
for_each plan s a w (GateInstall n) is = w.gates n is
for_each plan s a w (Worker h i) is = w.workers i is.1 h is.0
for_each plan s a w (Coproc n) is = w.coprocs n is
for_each plan s a w (Gateway n) is = w.gateways n is
for_each plan s a w Controller is = w.single.0
for_each plan s a w Driver is = w.single.1

pub first_of : (plan : Plan) (s : State) (a : Actor) (r h g w c q x : Bool)
    → (IsTrue r ↔ (IsTrue h × IsTrue g × IsTrue w × IsTrue c × IsTrue q × IsTrue x))
    → (IsTrue h ↔ ((n : ℕ) → n < plan.settings.hosts → IsNotBefore plan s a (HostInstall n)))
    → (IsTrue g ↔ ((n : ℕ) → n < plan.settings.gateways → IsNotBefore plan s a (GateInstall n)))
    → (IsTrue w ↔ ((i : ℕ) → i < plan.settings.workers → (h : ℕ) → h < plan.settings.hosts → IsNotBefore plan s a (Worker h i)))
    → (IsTrue c ↔ ((n : ℕ) → n < plan.settings.hosts → IsNotBefore plan s a (Coproc n)))
    → (IsTrue q ↔ ((n : ℕ) → n < plan.settings.gateways → IsNotBefore plan s a (Gateway n)))
    → (IsTrue x ↔ (IsNotBefore plan s a Controller × IsNotBefore plan s a Driver))
    → (IsTrue r ↔ IsFirst plan s a)
first_of plan s a r h g w c q x er eh eg ew ec eq ex = (
  (λ t b is enabled.
      let waits : Waits plan s a = record {
        hosts = eh.0 (er.0 t).0;
        gates = eg.0 (er.0 t).1;
        workers = ew.0 (er.0 t).2;
        coprocs = ec.0 (er.0 t).3;
        gateways = eq.0 (er.0 t).4;
        single = ex.0 (er.0 t).5;
      } in for_each plan s a waits b is enabled),
  (λ (all : IsFirst plan s a). er.1 (
    eh.1 (λ n less enabled. all (HostInstall n) less enabled),
    eg.1 (λ n less enabled. all (GateInstall n) less enabled),
    ew.1 (λ i within host less enabled. all (Worker host i) (less, within) enabled),
    ec.1 (λ n less enabled. all (Coproc n) less enabled),
    eq.1 (λ n less enabled. all (Gateway n) less enabled),
    ex.1 ((λ enabled. all Controller tt enabled), (λ enabled. all Driver tt enabled)),
  )),
)

pub implied : {A B : Type 0} (r a b : Bool) → (IsTrue r ↔ (IsTrue a → IsTrue b)) → (IsTrue a ↔ A) → (IsTrue b ↔ B) → (IsTrue r ↔ (A → B))
implied r a b e ea eb = ((λ t x. eb.0 (e.0 t (ea.1 x))), (λ f. e.1 (λ t. eb.1 (f (ea.0 t)))))

-- a test of a fact of one thing, where another is the same
pub along : {X : Type 0} (P : X → Type 0) (x y : X) (r : Bool) → x ≡ y → (IsTrue r ↔ P x) → (IsTrue r ↔ P y)
along P x y r is e = subst (λ z. IsTrue r ↔ P z) is e
