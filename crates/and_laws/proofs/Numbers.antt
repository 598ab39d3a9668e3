-- No VM number is given twice, so every prefix of a plan's log knows the network of each VM; and a run's log is such a prefix.
use Rattle.std.proofs.Common.{◌≡◌, ℕ, zero, suc, true, false, List, [], ◌∷◌, ◌++◌, take, refl, sym, ap, ◌∙◌, subst, arith, append_assoc, append-nil, Some}
use Rattle.std.specs.Prelude.{◌==◌}
use Rattle.std.specs.List.{list_any}
use Rattle.std.proofs.lemmas.Bool.{or_parts}
use Rattle.std.proofs.lemmas.Grind.{common_steps}
use Rattle.and_policy.specs.declared.entry.Entry.{Entry}
use Rattle.and_policy.specs.declared.entry.Entry.TheVariants.{AddNet, AddVm, RemoveVm, Place, AddRule, DelRule, AddRoute, DelRoute, Tick}
use Rattle.and_policy.specs.Logs.{Vm, added}
use Rattle.and_policy.specs.Programmes.{net_of_vm}
use Rattle.and_policy.proofs.Appends.{added-append}
use Rattle.and_events.specs.declared.event.Event.{Event}
use Rattle.and_events.specs.declared.plan.Step.{Step}
use Rattle.and_events.specs.declared.plan.Step.TheVariants as steps
use Rattle.and_events.specs.declared.plan.Plan.{Plan}
use Rattle.and_events.specs.Script.{Script, at_start}
use Rattle.and_events.specs.Sound.{IsSound, StepsFit, StepFits, after_step, sent_after}
use Rattle.and_events.specs.State.{state}
use Rattle.and_events.specs.Run.{Run}
use Rattle.and_laws.specs.Scripted.{script_after_steps}
use Rattle.and_laws.proofs.Apart.{Knows}
use Rattle.and_laws.proofs.StepFacts.{never_added}
use Rattle.and_laws.proofs.Following.{follows_steps}

-- no later entry adds a VM again
abbrev pub AreDistinct : List Entry → Type 0
AreDistinct [] = Unit {0}
AreDistinct (AddVm vm net mac ip host ∷ later) = (list_any (λ v. v.number == vm) (added later) ≡ false) × AreDistinct later
AreDistinct (_ ∷ later) = AreDistinct later

-- ---- a log knows the networks of its own VMs

-- the entries add no VM that the entry adds
abbrev IsNotAgain : Entry → List Entry → Type 0
IsNotAgain (AddVm vm net mac ip host) k = list_any (λ v. v.number == vm) (added k) ≡ false
IsNotAgain _ k = Unit {0}

flip : (a b : ℕ) → (a == b) ≡ false → (b == a) ≡ false
flip a b e = grind (arith, common_steps)

same : (a : ℕ) → (a == a) ≡ true
same a = grind arith

-- an entry before the others changes no network of a VM that it does not add
skipped : (e : Entry) (t k : List Entry) (vm net mac ip host n : ℕ) → IsNotAgain e (AddVm vm net mac ip host ∷ k) → net_of_vm t vm ≡ Some n → net_of_vm (e ∷ t) vm ≡ Some n
skipped (AddVm w m c i h) t k vm net mac ip host n again is =
    let parts = or_parts (vm == w) (list_any (λ v. v.number == w) (added k)) again in
    let differs = flip vm w parts.0 in
    rw differs is
skipped (AddNet m) t k vm net mac ip host n again is = is
skipped (RemoveVm u) t k vm net mac ip host n again is = is
skipped (Place u h) t k vm net mac ip host n again is = is
skipped (AddRule m rule) t k vm net mac ip host n again is = is
skipped (DelRule m number) t k vm net mac ip host n again is = is
skipped (AddRoute m route) t k vm net mac ip host n again is = is
skipped (DelRoute m number) t k vm net mac ip host n again is = is
skipped Tick t k vm net mac ip host n again is = is

not_again_later : (e : Entry) (k : List Entry) (vm net mac ip host : ℕ) → IsNotAgain e (AddVm vm net mac ip host ∷ k) → IsNotAgain e k
not_again_later (AddVm w m c i h) k vm net mac ip host again = (or_parts (vm == w) (list_any (λ v. v.number == w) (added k)) again).1
not_again_later e k vm net mac ip host again = tt

not_again_same : (e x : Entry) (k : List Entry) → added (x ∷ k) ≡ added k → IsNotAgain e (x ∷ k) → IsNotAgain e k
not_again_same (AddVm w m c i h) x k is again = subst (λ vs. list_any (λ (v : Vm). v.number == w) vs ≡ false) is again
not_again_same e x k is again = tt

knows_more : (e : Entry) (t k : List Entry) → Knows t k → IsNotAgain e k → Knows (e ∷ t) k
knows_more e t [] knows again = tt
knows_more e t (AddVm vm net mac ip host ∷ k) knows again =
    (skipped e t k vm net mac ip host net again knows.0, knows_more e t k knows.1 (not_again_later e k vm net mac ip host again))
knows_more e t (x ∷ k) knows again = knows_more e t k knows (not_again_same e x k refl again)

pub knows_itself : (t : List Entry) → AreDistinct t → Knows t t
knows_itself [] d = tt
knows_itself (AddVm vm net mac ip host ∷ t) d =
    (let is = same vm in rw is, knows_more (AddVm vm net mac ip host) t t (knows_itself t d.1) d.0)
knows_itself (e ∷ t) d = knows_more e t t (knows_itself t d) tt

-- ---- logs that grow

any_front : (n : ℕ) (xs ys : List Entry) → list_any (λ v. v.number == n) (added (xs ++ ys)) ≡ false → list_any (λ v. v.number == n) (added xs) ≡ false
any_front n [] ys e = refl
any_front n (AddVm vm net mac ip host ∷ xs) ys e =
    let parts = or_parts (vm == n) (list_any (λ v. v.number == n) (added (xs ++ ys))) e in
    let first = parts.0 in
    rw first (any_front n xs ys parts.1)
any_front n (x ∷ xs) ys e = any_front n xs ys e

pub distinct_front : (xs ys : List Entry) → AreDistinct (xs ++ ys) → AreDistinct xs
distinct_front [] ys d = tt
distinct_front (AddVm vm net mac ip host ∷ xs) ys d = (any_front vm xs ys d.0, distinct_front xs ys d.1)
distinct_front (x ∷ xs) ys d = distinct_front xs ys d

any_one_more : (w vm : ℕ) (xs : List Vm) (v : Vm) → v.number ≡ vm → list_any (λ x. x.number == w) xs ≡ false → (vm == w) ≡ false → list_any (λ x. x.number == w) (xs ++ v ∷ []) ≡ false
any_one_more w vm [] v is none differs = rw (is, differs)
any_one_more w vm (x ∷ xs) v is none differs =
    let parts = or_parts (x.number == w) (list_any (λ x. x.number == w) xs) none in
    let first = parts.0 in
    rw first (any_one_more w vm xs v is parts.1 differs)

-- the VM of the entry was not added before
abbrev IsAnew : List Entry → Entry → Type 0
IsAnew k (AddVm vm net mac ip host) = list_any (λ v. v.number == vm) (added k) ≡ false
IsAnew k _ = Unit {0}

first_distinct : (e : Entry) → AreDistinct (e ∷ [])
first_distinct (AddVm vm net mac ip host) = (refl, tt)
first_distinct e = tt

-- one entry more adds no VM that an earlier one added
still_once : (w : ℕ) (k : List Entry) (e : Entry) (n m c i : ℕ) → IsAnew (AddVm w n m c i ∷ k) e → list_any (λ v. v.number == w) (added k) ≡ false → list_any (λ v. v.number == w) (added (k ++ e ∷ [])) ≡ false
still_once w k (AddVm vm net mac ip host) n m c i anew none =
    let parts = or_parts (w == vm) (list_any (λ v. v.number == vm) (added k)) anew in
    let v : Vm = record { number = vm; net = net; mac = mac; ip = ip; host = host } in
    ap (list_any (λ (v : Vm). v.number == w)) (added-append k (AddVm vm net mac ip host)) ∙ any_one_more w vm (added k) v refl none (flip w vm parts.0)
still_once w k e n m c i anew none = ap (list_any (λ (v : Vm). v.number == w)) (added-append k e ∙ append-nil (added k)) ∙ none

anew_later : (w n m c i : ℕ) (k : List Entry) (e : Entry) → IsAnew (AddVm w n m c i ∷ k) e → IsAnew k e
anew_later w n m c i k (AddVm vm net mac ip host) anew = (or_parts (w == vm) (list_any (λ v. v.number == vm) (added k)) anew).1
anew_later w n m c i k e anew = tt

anew_same : (x : Entry) (k : List Entry) (e : Entry) → added (x ∷ k) ≡ added k → IsAnew (x ∷ k) e → IsAnew k e
anew_same x k (AddVm vm net mac ip host) is anew = subst (λ vs. list_any (λ (v : Vm). v.number == vm) vs ≡ false) is anew
anew_same x k e is anew = tt

distinct_more : (k : List Entry) (e : Entry) → AreDistinct k → IsAnew k e → AreDistinct (k ++ e ∷ [])
distinct_more [] e d anew = first_distinct e
distinct_more (AddVm w n m c i ∷ k) e d anew = (still_once w k e n m c i anew d.0, distinct_more k e d.1 (anew_later w n m c i k e anew))
distinct_more (x ∷ k) e d anew = distinct_more k e d (anew_same x k e refl anew)

-- ---- the log of a sound plan

-- the plain state's log is a prefix of the plan's, which adds no VM twice
pub record IsPrefixOf (plan : Plan) (k : List Entry) : Type 0 where
  pub rest : List Entry
  pub whole : k ++ rest ≡ plan.log
  pub distinct : AreDistinct plan.log

anew_by : (plan : Plan) (p : Script) (sent : ℕ) (e : Entry) → StepFits plan p sent (steps.Append e) → IsAnew p.log e
anew_by plan p sent (AddVm vm net mac ip host) f = never_added plan p vm net mac ip host f.0
anew_by plan p sent e f = tt

step_distinct : (plan : Plan) (p : Script) (sent : ℕ) (step : Step) → StepFits plan p sent step → AreDistinct p.log → AreDistinct (after_step p step).log
step_distinct plan p sent (steps.Append e) f d = distinct_more p.log e d (anew_by plan p sent e f)
step_distinct plan p sent (steps.Resume vm) f d = distinct_more p.log (Place vm _) d tt
step_distinct plan p sent step f d = d

step_log : (p : Script) (step : Step) → (more : List Entry) × ((after_step p step).log ≡ p.log ++ more)
step_log p (steps.Append e) = (e ∷ [], refl)
step_log p (steps.Resume vm) = (_, refl)
step_log p step = ([], sym (append-nil p.log))

whole_log : (plan : Plan) (p : Script) (sent : ℕ) (ss : List Step) → StepsFit plan p sent ss → AreDistinct p.log → IsPrefixOf plan p.log
whole_log plan p sent [] f d = absurd f
whole_log plan p sent (steps.Finish ∷ []) f d = record { rest = []; whole = append-nil p.log ∙ f.log; distinct = subst AreDistinct f.log d }
whole_log plan p sent (steps.Finish ∷ other ∷ later) f d = absurd f.0
whole_log plan p sent (step ∷ later) f d =
    let next = whole_log plan (after_step p step) (sent_after sent step) later f.1 (step_distinct plan p sent step f.0 d) in
    let more = step_log p step in
    record {
      rest = more.0 ++ next.rest;
      whole = sym (append_assoc p.log more.0 next.rest) ∙ ap (λ k. k ++ next.rest) (sym more.1) ∙ next.whole;
      distinct = next.distinct;
    }

log_after : (plan : Plan) (p : Script) (sent : ℕ) (ss : List Step) (n : ℕ) → StepsFit plan p sent ss → AreDistinct p.log → IsPrefixOf plan (script_after_steps p (take n ss)).log
log_after plan p sent ss zero f d = whole_log plan p sent ss f d
log_after plan p sent [] (suc n) f d = absurd f
log_after plan p sent (steps.Finish ∷ []) (suc zero) f d = whole_log plan p sent (steps.Finish ∷ []) f d
log_after plan p sent (steps.Finish ∷ []) (suc (suc n)) f d = whole_log plan p sent (steps.Finish ∷ []) f d
log_after plan p sent (steps.Finish ∷ other ∷ later) (suc n) f d = absurd f.0
log_after plan p sent (step ∷ later) (suc n) f d =
    log_after plan (after_step p step) (sent_after sent step) later n f.1 (step_distinct plan p sent step f.0 d)

pub log_is_prefix : (plan : Plan) (h : List Event) → IsSound plan → Run plan h → IsPrefixOf plan (state plan h).programmes.log
log_is_prefix plan h sound r =
    subst (IsPrefixOf plan) (sym (follows_steps plan h sound r).log) (log_after plan at_start 0 plan.steps (state plan h).next sound.steps tt)
