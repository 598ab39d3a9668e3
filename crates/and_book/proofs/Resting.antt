-- The system is at rest where no installer may act and no hand has work, whatever is held; and it is over so where nothing is held.
use Rattle.std.proofs.Common.{◌≡◌, ◌≢◌, ℕ, zero, suc, ◌+◌, ◌-◌, ◌<◌, ◌≤◌, ◌⊎◌, Bool, true, false, List, [], ◌∷◌, length, refl, sym, ap, ◌∙◌, subst, arith, inl, inr, ⊎_elim, Option, Some, None}
use Rattle.std.specs.Prelude.{◌==◌, ◌↔◌, nat_lt, if◌then◌else◌, IsTrue}
use Rattle.std.proofs.lemmas.Bool.{cases_eq, cases_lt, eqb-true, eq-eqb}
use Rattle.std.proofs.lemmas.Grind.{common_steps}
use Rattle.std.proofs.lemmas.List.{get_or_default, get_or_past}
use Rattle.and_events.specs.declared.event.Actor.{Actor}
use Rattle.and_events.specs.declared.event.Actor.TheVariants.{HostInstall, GateInstall, Worker, Coproc, Gateway, Controller, Driver}
use Rattle.and_events.specs.declared.event.Event.{Event}
use Rattle.and_events.specs.declared.event.Held.{Held}
use Rattle.and_events.specs.declared.event.Node.{Node}
use Rattle.and_events.specs.declared.event.Node.TheVariants.{Host, Gate}
use Rattle.and_events.specs.declared.event.Queue.{Queue}
use Rattle.and_events.specs.declared.event.Queue.TheVariants.{Out, Wire, Seal}
use Rattle.and_events.specs.declared.plan.Plan.{Plan}
use Rattle.and_events.specs.declared.plan.Settings.{Settings}
use Rattle.and_events.specs.Places.{node_count, node_place, queue_place, hand_count, hand_place, node_of, IsActor, IsNode, HasQueue, Handles}
use Rattle.and_events.specs.Flow.{Flow, queue_at, hand_at}
use Rattle.and_events.specs.Ports.{port_at, IsHairpin}
use Rattle.and_events.specs.Programming.{Programmes}
use Rattle.and_events.specs.State.{State, NodeHolds, state, installed_of, announced_of, programme_of}
use Rattle.and_events.specs.Legal.{CanAnnounce, CanInstall, IsAtRest, IsOver, install_held, forward_held}
use Rattle.and_events.specs.Run.{Run}
use Rattle.and_events.specs.Sound.{IsSound}
use Rattle.and_laws.specs.Stages.{Takes}
use Rattle.and_laws.proofs.Enabling.{hand_of}
use Rattle.and_laws.proofs.GoingOn.{AreFree, queue_of}
use Rattle.and_laws.proofs.Programmed.{programmed}
use Rattle.and_laws.proofs.Quieted.{held_is_quiet}
use Rattle.and_laws.proofs.Sizes.{sizes, nodes as nodes_of}
use Rattle.and_kept.specs.Busy.{is_busy}
use Rattle.and_kept.specs.Moves.{IsBusy, source_in}
use Rattle.and_kept.specs.Nodes.{is_ready}
use Rattle.and_kept.specs.Numbers.{count_below, one_if}
use Rattle.and_kept.proofs.BusyActors.{busy_is}
use Rattle.and_kept.proofs.MovesLemmas.{actor_node}
use Rattle.and_book.specs.Enabling.{IsStill}
use Rattle.and_book.proofs.Enabled.{installer_may, installer_was}
use Rattle.and_book.proofs.Taking.{hand_there}

-- ---- counts

not_one : (b : Bool) → one_if b ≡ 0 → b ≡ false
not_one true e = absurd (omega (arith, e))
not_one false e = refl

none_below : (p : ℕ → Bool) (n : ℕ) → count_below p n ≡ 0 → (k : ℕ) → k < n → p k ≡ false
unfolding count_below
none_below p zero e k l = absurd (omega (arith, l))
none_below p (suc n) e k l =
    ⊎_elim (λ (same : k ≡ n). subst (λ x. p x ≡ false) (sym same) (not_one (p n) (omega (arith, e))))
    (λ (other : k ≢ n). none_below p n (omega (arith, e)) k (omega (arith, l, other))) (cases_eq k n)

none_counted : (p : ℕ → Bool) (n : ℕ) → ((k : ℕ) → k < n → p k ≡ false) → count_below p n ≡ 0
unfolding count_below
none_counted p zero none = refl
none_counted p (suc n) none =
    let last : one_if (p n) ≡ 0 = ap one_if (none n (omega arith)) in omega (arith, last, none_counted p n (λ k l. none k (omega (arith, l))))

-- by the two counts
pub still_by : (v : Settings) (p : Programmes) (m : NodeHolds) (f : Flow) (ready busy : ℕ) → ready ≡ count_below (is_ready p m.install) (length p.ops) → busy ≡ count_below (is_busy v f.queues f.hands m.forward) (hand_count v)
    → IsTrue (ready + busy == 0) ↔ IsStill v p m f
still_by v p m f ready busy r b = (
  (λ t.
      let none : ready + busy ≡ 0 = eqb-true (ready + busy) 0 t in
      record {
        ready = none_below (is_ready p m.install) (length p.ops) (omega (arith, none, r));
        busy = none_below (is_busy v f.queues f.hands m.forward) (hand_count v) (omega (arith, none, b));
      }),
  (λ still.
      eq-eqb (ready + busy) 0
      (omega (arith, r, b, none_counted (is_ready p m.install) (length p.ops) still.ready, none_counted (is_busy v f.queues f.hands m.forward) (hand_count v) still.busy))),
)

-- ---- places

takes_handles : (a : Actor) → Takes a → Handles a
takes_handles (Worker h w) t = tt
takes_handles (Coproc h) t = tt
takes_handles (Gateway g) t = tt
takes_handles (HostInstall h) t = absurd t
takes_handles (GateInstall g) t = absurd t
takes_handles Controller t = absurd t
takes_handles Driver t = absurd t

place_within : (v : Settings) (node : Node) → IsNode v node → node_place v node < node_count v
place_within v (Host h) is = omega (arith, is)
place_within v (Gate g) is = omega (arith, is)

source_there : (v : Settings) (f : Flow) (a : Actor) → Handles a → HasQueue (node_of a) (source_in v f a)
source_there v f (Worker h w) t = tt
source_there v f (Coproc h) t = tt
source_there v f (Gateway g) t = tt
source_there v f (HostInstall h) t = absurd t
source_there v f (GateInstall g) t = absurd t
source_there v f Controller t = absurd t
source_there v f Driver t = absurd t

longer : (xs : List ℕ) (i : ℕ) (rest : List ℕ) → xs ≡ i ∷ rest → nat_lt 0 (length xs) ≡ true
longer xs i rest e = let more : 0 < length xs = omega (arith, ap length e) in grind (arith, common_steps, more)

-- ---- in a run

module _ (plan : Plan) (h : List Event) (sound : IsSound plan) (r : Run plan h) where
  abbrev s : State
  s = state plan h

  abbrev Still : Type 0
  Still = IsStill plan.settings s.programmes s.node_holds s.flow

  abbrev IsInstalledAt : Node → Type 0
  IsInstalledAt node = installed_of plan s node ≡ length (programme_of plan s node)

  abbrev queue_of_node : Node → Queue → List ℕ
  queue_of_node node q = queue_at s.flow.queues (queue_place plan.settings node q)

  not_ready : Still → (node : Node) → IsNode plan.settings node → CanAnnounce plan s node ⊎ CanInstall plan s node → ⊥
  not_ready still node is can =
      let there : node_place plan.settings node < length s.programmes.ops = omega (arith, place_within plan.settings node is, (nodes_of plan h).ops) in
      let clash : true ≡ false = sym (installer_was plan s node can).1 ∙ still.ready (node_place plan.settings node) there in absurd (cc)

  idle : Still → (a : Actor) → IsActor plan.settings a → Handles a → IsBusy plan.settings s.flow s.node_holds.forward a → ⊥
  idle still a is t busy =
      let clash : true ≡ false = sym ((busy_is plan.settings s.flow s.node_holds.forward a is t).1 busy) ∙ still.busy (hand_place plan.settings a) (hand_there plan.settings a is t) in absurd (cc)

  -- where no installs are held, all is installed
  all_installed : Still → (node : Node) → IsNode plan.settings node → install_held plan s node ≡ false → IsInstalledAt node
  all_installed still node is free =
      let p = programmed plan h r node is in
      ⊎_elim (λ (l : installed_of plan s node < announced_of plan s node). absurd (not_ready still node is (inr (is, l))))
      (λ (l : announced_of plan s node ≤ installed_of plan s node).
      let same : announced_of plan s node ≡ installed_of plan s node = omega (arith, l, p.installed) in
      ⊎_elim (λ (m : announced_of plan s node < length (programme_of plan s node)). absurd (not_ready still node is (inl (is, free, same, m))))
      (λ (m : length (programme_of plan s node) ≤ announced_of plan s node). omega (arith, same, m, p.announced))
      (cases_lt (announced_of plan s node) (length (programme_of plan s node))))
      (cases_lt (installed_of plan s node) (announced_of plan s node))

  no_hand : Still → (k : ℕ) → k < hand_count plan.settings → (o : Option Held) → hand_at s.flow.hands k ≡ o → o ≡ None
  no_hand still k l None e = refl
  no_hand still k l (Some g) e =
      let a = hand_of plan.settings k l in
      absurd (idle still a.actor a.is (takes_handles a.actor a.takes) (inl (g, subst (λ x. hand_at s.flow.hands x ≡ Some g) (sym a.place) e)))

  -- a queue from which an idle actor takes is empty
  drained : Still → (a : Actor) → IsActor plan.settings a → Handles a → forward_held plan s (node_of a) ≡ false → (q : Queue) → source_in plan.settings s.flow a ≡ q
      → (xs : List ℕ) → queue_of_node (node_of a) q ≡ xs → xs ≡ []
  drained still a is t free q from [] e = refl
  drained still a is t free q from (i ∷ rest) e =
      absurd (idle still a is t (inr (free, λ none. let no_way : i ∷ rest ≡ [] = sym e ∙ (sym (ap (queue_of_node (node_of a)) from) ∙ none) in absurd (cc))))

  wire_drained : Still → (k : ℕ) → k < plan.settings.hosts → forward_held plan s (Host k) ≡ false → (xs : List ℕ) → queue_of_node (Host k) Wire ≡ xs → xs ≡ []
  wire_drained still k is free [] e = refl
  wire_drained still k is free (i ∷ rest) e =
      drained still (Worker k 0) (is, omega (arith, sound.settings.workers.0)) tt free Wire (ap (λ b. if b then Wire else Out) (longer (queue_of_node (Host k) Wire) i rest e)) (i ∷ rest) e

  all_drained : Still → (node : Node) (q : Queue) → IsNode plan.settings node → HasQueue node q → forward_held plan s node ≡ false → queue_of_node node q ≡ []
  all_drained still (Host k) Wire is has free = wire_drained still k is free _ refl
  all_drained still (Host k) Out is has free =
      drained still (Worker k 0) (is, omega (arith, sound.settings.workers.0)) tt free Out (ap (λ xs. if nat_lt 0 (length xs) then Wire else Out) (wire_drained still k is free _ refl)) _ refl
  all_drained still (Host k) Seal is has free = drained still (Coproc k) is tt free Seal refl _ refl
  all_drained still (Gate g) Wire is has free = drained still (Gateway g) is tt free Wire refl _ refl
  all_drained still (Gate g) Out is has free = absurd has
  all_drained still (Gate g) Seal is has free = absurd has

  pub rests : Still → IsAtRest plan s
  rests still =
      record {
        installed = all_installed still;
        hands = λ k d l. get_or_default s.flow.hands k d None l ∙ no_hand still k (omega (arith, l, (sizes plan h).hands)) _ refl;
        queues = all_drained still;
      }

  -- ---- and where it is at rest nobody of these acts

  none_ready : IsAtRest plan s → (node : Node) → IsNode plan.settings node → CanAnnounce plan s node ⊎ CanInstall plan s node → ⊥
  none_ready rest node is (inl can) = omega (arith, rest.installed node is can.1, can.2, can.3)
  none_ready rest node is (inr can) = by_held (install_held plan s node) refl
    where
      by_held : (b : Bool) → install_held plan s node ≡ b → ⊥
      by_held true held = omega (arith, held_is_quiet plan h r (node_place plan.settings node) held, can.1)
      by_held false free = omega (arith, rest.installed node is free, (programmed plan h r node is).announced, can.1)

  not_ready_at : IsAtRest plan s → (node : Node) → IsNode plan.settings node → (b : Bool) → is_ready s.programmes s.node_holds.install (node_place plan.settings node) ≡ b → b ≡ false
  not_ready_at rest node is false e = refl
  not_ready_at rest node is true e = absurd (none_ready rest node is (installer_may plan s node is e))

  not_ready_place : IsAtRest plan s → (n : ℕ) → n < node_count plan.settings → is_ready s.programmes s.node_holds.install n ≡ false
  not_ready_place rest n l =
      ⊎_elim
      (λ (m : n < plan.settings.hosts). not_ready_at rest (Host n) m _ refl)
      (λ (m : plan.settings.hosts ≤ n).
      let same : plan.settings.hosts + (n - plan.settings.hosts) ≡ n = omega (arith, m) in
      subst (λ k. is_ready s.programmes s.node_holds.install k ≡ false) same (not_ready_at rest (Gate (n - plan.settings.hosts)) (omega (arith, l, m)) _ refl))
      (cases_lt n plan.settings.hosts)

  none_busy : IsAtRest plan s → (a : Actor) → IsActor plan.settings a → Handles a → IsBusy plan.settings s.flow s.node_holds.forward a → ⊥
  none_busy rest a is t (inl (g, has)) =
      let within : hand_place plan.settings a < length s.flow.hands = omega (arith, hand_there plan.settings a is t, (sizes plan h).hands) in
      let clash : Some g ≡ None = sym has ∙ rest.hands (hand_place plan.settings a) None within in absurd (cc)
  none_busy rest a is t (inr (free, some)) =
      some (rest.queues (node_of a) (source_in plan.settings s.flow a) (actor_node plan.settings a is t) (source_there plan.settings s.flow a t) free)

  not_busy_at : IsAtRest plan s → (k : ℕ) → k < hand_count plan.settings → (b : Bool) → is_busy plan.settings s.flow.queues s.flow.hands s.node_holds.forward k ≡ b → b ≡ false
  not_busy_at rest k l false e = refl
  not_busy_at rest k l true e =
      let a = hand_of plan.settings k l in
      let t = takes_handles a.actor a.takes in
      let there : is_busy plan.settings s.flow.queues s.flow.hands s.node_holds.forward (hand_place plan.settings a.actor) ≡ true =
      subst (λ x. is_busy plan.settings s.flow.queues s.flow.hands s.node_holds.forward x ≡ true) (sym a.place) e in
      absurd (none_busy rest a.actor a.is t ((busy_is plan.settings s.flow s.node_holds.forward a.actor a.is t).0 there))

  pub rested : IsAtRest plan s → Still
  rested rest = record { ready = λ n l. not_ready_place rest n (omega (arith, l, (nodes_of plan h).ops)); busy = λ k l. not_busy_at rest k l _ refl }

  -- ---- at the end

  pub ends : AreFree plan s → ((host vm : ℕ) → IsHairpin (port_at s.ports host vm) → ⊥) → Still → IsOver plan s
  ends free none still =
      record {
        queues = λ k d l.
            let nothing : List ℕ = [] in
            let q = queue_of plan.settings k (omega (arith, l, (sizes plan h).queues)) in
            get_or_default s.flow.queues k d nothing l
            ∙ subst (λ p. queue_at s.flow.queues p ≡ []) q.place (all_drained still q.node q.queue q.is q.has (free.forward q.node q.is));
        hands = (rests still).hands;
        installed = λ node is. all_installed still node is (free.install node is);
        hairpins = none;
      }

  emptied : IsOver plan s → (q : ℕ) → queue_at s.flow.queues q ≡ []
  emptied over q =
      ⊎_elim
      (λ (l : q < length s.flow.queues). over.queues q [] l)
      (λ (l : length s.flow.queues ≤ q). get_or_past s.flow.queues q [] l)
      (cases_lt q (length s.flow.queues))

  pub ended : IsOver plan s → Still
  ended over =
      rested
      (record {
        installed = λ node is unheld. over.installed node is;
        hands = over.hands;
        queues = λ node q is has unheld. emptied over (queue_place plan.settings node q);
      })
