-- What is held at a node is held in the plain state of the script.
use Rattle.std.proofs.Common.{◌≡◌, ◌≢◌, ℕ, ◌<◌, Bool, true, false, ◌&&◌, ◌||◌, not, List, [], ◌∷◌, ◌++◌, get_or, take, refl, sym, ap, ◌∙◌, subst, arith, ⊎_elim, inl, inr, ◌⊎◌}
use Rattle.std.specs.List.{list_any, filter}
use Rattle.std.proofs.lemmas.Bool.{cases_eq}
use Rattle.std.proofs.lemmas.Grind.{common_steps}
use Rattle.std.proofs.lemmas.List.{get_or-set_same}
use Rattle.std.proofs.lemmas.List.Folds.{list_any-append}
use Rattle.std.proofs.lemmas.Map.Views.{any-filter_same}
use Rattle.and_events.specs.declared.event.Event.{Event}
use Rattle.and_events.specs.declared.event.Event.TheVariants.{Append, Review, Hold, Free, Wait, Inject, Blackout, Resume, Finish}
use Rattle.and_events.specs.declared.event.Node.{Node}
use Rattle.and_events.specs.declared.event.Node.TheVariants.{Host, Gate}
use Rattle.and_events.specs.declared.plan.What.{What}
use Rattle.and_events.specs.declared.plan.What.TheVariants.{Install, Forward}
use Rattle.and_events.specs.declared.plan.Step.{Step}
use Rattle.and_events.specs.declared.plan.Step.TheVariants as steps
use Rattle.and_events.specs.declared.plan.Settings.{Settings}
use Rattle.and_events.specs.declared.plan.Plan.{Plan}
use Rattle.and_events.specs.Places.{node_place, node_count, IsNode}
use Rattle.and_events.specs.Script.{Script, HeldAt, at_start, same_node, same_what, is_hold, holds_at}
use Rattle.and_events.specs.Sound.{IsSound, after_step}
use Rattle.and_events.specs.State.{NodeHolds, state, start, after, step_of, holds_after, with_hold, holds_by}
use Rattle.and_events.specs.Legal.{Legal}
use Rattle.and_events.specs.Run.{Run}
use Rattle.and_laws.specs.Scripted.{script_after_steps, script_at}
use Rattle.and_laws.specs.Sizes.{HasNodeHolds}
use Rattle.and_laws.proofs.Rows.{set_at, replicate_at}
use Rattle.and_laws.proofs.Sizes.{node_holds}
use Rattle.and_laws.proofs.StepFacts.{held_there, freed_there}
use Rattle.and_laws.proofs.Steps.{Does, does}

-- ---- nodes by their places

-- two nodes of the plan at one place are one
pub same_place : (s : Settings) (a b : Node) → IsNode s a → IsNode s b → node_place s a ≡ node_place s b → a ≡ b
same_place s (Host a) (Host b) x y e = ap Host e
same_place s (Gate a) (Gate b) x y e = ap Gate (omega (arith, e))
same_place s (Host a) (Gate b) x y e = absurd (omega (arith, x, e))
same_place s (Gate a) (Host b) x y e = absurd (omega (arith, y, e))

node_is : (a b : Node) → same_node a b ≡ true → a ≡ b
node_is (Host a) (Host b) e = ap Host (grind (arith, common_steps))
node_is (Gate a) (Gate b) e = ap Gate (grind (arith, common_steps))
node_is (Host a) (Gate b) e = absurd (cc)
node_is (Gate a) (Host b) e = absurd (cc)

node_same : (a : Node) → same_node a a ≡ true
node_same (Host a) = grind arith
node_same (Gate a) = grind arith

what_same : (w : What) → same_what w w ≡ true
what_same Install = refl
what_same Forward = refl

-- two holds are of one node and kind, or no entry is of both
data Pair (a b : Node) (v w : What) : Type 0 where
  Same : a ≡ b → v ≡ w → Pair a b v w
  Apart : ((x : HeldAt) → is_hold a v x ≡ true → is_hold b w x ≡ false) → Pair a b v w

both : (p q : Bool) → (p && q) ≡ true → (p ≡ true) × (q ≡ true)
both true q e = (refl, e)
both false q e = absurd (cc)

what_differs : (x : What) → same_what x Install ≡ true → same_what x Forward ≡ false
what_differs Install e = refl
what_differs Forward e = absurd (cc)

what_differs_too : (x : What) → same_what x Forward ≡ true → same_what x Install ≡ false
what_differs_too Forward e = refl
what_differs_too Install e = absurd (cc)

never : (b : Bool) → (b && false) ≡ false
never true = refl
never false = refl

node_differs : (a b x : Node) → a ≢ b → (c : Bool) → same_node x b ≡ c → same_node x a ≡ true → c ≡ false
node_differs a b x n true e f = absurd (n (sym (node_is x a f) ∙ node_is x b e))
node_differs a b x n false e f = refl

apart_nodes : (a b : Node) (v w : What) → a ≢ b → Pair a b v w
apart_nodes a b v w n =
    Apart (λ x is. let no : same_node x.node b ≡ false = node_differs a b x.node n _ refl (both _ _ is).0 in ap (λ c. c && same_what x.what w) no)

pair : (a b : Node) (v w : What) → (a ≡ b) ⊎ (a ≢ b) → Pair a b v w
pair a b Install Install (inl e) = Same e refl
pair a b Forward Forward (inl e) = Same e refl
pair a b Install Forward (inl e) = Apart (λ x is. ap (λ c. same_node x.node b && c) (what_differs x.what (both _ _ is).1) ∙ never (same_node x.node b))
pair a b Forward Install (inl e) = Apart (λ x is. ap (λ c. same_node x.node b && c) (what_differs_too x.what (both _ _ is).1) ∙ never (same_node x.node b))
pair a b v w (inr n) = apart_nodes a b v w n

one_or_other : (s : Settings) (a b : Node) → IsNode s a → IsNode s b → (a ≡ b) ⊎ (a ≢ b)
one_or_other s a b x y =
    ⊎_elim (λ (e : node_place s a ≡ node_place s b). inl (same_place s a b x y e)) (λ (n : node_place s a ≢ node_place s b). inr (λ e. n (ap (node_place s) e)))
    (cases_eq (node_place s a) (node_place s b))

-- ---- what is held at a place

abbrev pub hold_of : NodeHolds → ℕ → What → Bool
hold_of holds n Install = get_or holds.install n false
hold_of holds n Forward = get_or holds.forward n false

hold_set : (holds : NodeHolds) (k n : ℕ) (v w : What) (b : Bool) (P : Bool → Type 0) → P (hold_of holds n w) → (k ≡ n → v ≡ w → P b) → P (hold_of (with_hold holds k v b) n w)
hold_set holds k n Install Install b P old new = set_at holds.install k n b false P old (λ e. new e refl)
hold_set holds k n Forward Forward b P old new = set_at holds.forward k n b false P old (λ e. new e refl)
hold_set holds k n Install Forward b P old new = old
hold_set holds k n Forward Install b P old new = old

-- what was freed is free
freed : (plan : Plan) (holds : NodeHolds) (k : ℕ) (w : What) → HasNodeHolds plan holds → k < node_count plan.settings → hold_of (with_hold holds k w false) k w ≡ false
freed plan holds k Install sizes within = get_or-set_same holds.install k false false (subst (λ n. k < n) (sym sizes.install) within)
freed plan holds k Forward sizes within = get_or-set_same holds.forward k false false (subst (λ n. k < n) (sym sizes.forward) within)

node_there : (s : Settings) (node : Node) → IsNode s node → node_place s node < node_count s
node_there s (Host h) is = omega arith
node_there s (Gate g) is = omega arith

-- ---- the script

abbrev HeldIn : Script → Bool → Node → What → Type 0
HeldIn p held node what = held ≡ true → holds_at p node what ≡ true

or_first : (a b : Bool) → a ≡ true → (a || b) ≡ true
or_first true b e = refl
or_first false b e = absurd (cc)

or_last : (a b : Bool) → b ≡ true → (a || b) ≡ true
or_last true b e = refl
or_last false b e = e

held_more : (xs : List HeldAt) (x : HeldAt) (node : Node) (what : What) → list_any (is_hold node what) xs ≡ true → list_any (is_hold node what) (xs ++ x ∷ []) ≡ true
held_more xs x node what e = list_any-append (is_hold node what) xs (x ∷ []) ∙ or_first _ _ e

held_new : (xs : List HeldAt) (node : Node) (what : What) → list_any (is_hold node what) (xs ++ record { node = node; what = what } ∷ []) ≡ true
held_new xs node what =
    let new : HeldAt = record { node = node; what = what } in
    let is : is_hold node what new ≡ true = let n = node_same node in let w = what_same what in rw (n, w) refl in
    list_any-append (is_hold node what) xs (new ∷ []) ∙ or_last _ _ (or_first _ _ is)

by_true : (b : Bool) → b ≡ true → not (not b) ≡ true
by_true b e = rw e refl

held_still : (p : Script) (a b : Node) (v w : What) → ((x : HeldAt) → is_hold a v x ≡ true → is_hold b w x ≡ false) → holds_at p a v ≡ true
    → list_any (is_hold a v) (filter (λ h. not (is_hold b w h)) p.holds) ≡ true
held_still p a b v w apart held =
    any-filter_same (is_hold a v) (λ h. not (is_hold b w h)) true (λ x is. ap not (apart x is)) p.holds ∙ held

module _ (plan : Plan) where
  -- a step that changes no holds
  quiet : (h : List Event) (step : Step) (next : ℕ) (node : Node) (what : What) → Does plan h step next → (after_step (script_at plan h) step).holds ≡ (script_at plan h).holds
      → holds_at (script_at plan h) node what ≡ true → holds_at (script_after_steps at_start (take next plan.steps)) node what ≡ true
  quiet h step next node what d same held = ap (λ p. holds_at p node what) d.script ∙ ap (list_any (is_hold node what)) same ∙ held

  after_hold : (h : List Event) (n : ℕ) (a node : Node) (v what : What) → IsSound plan → IsNode plan.settings a → IsNode plan.settings node
      → HeldIn (script_at plan h) (hold_of (state plan h).node_holds (node_place plan.settings node) what) node what
      → HeldIn (after_step (script_at plan h) (steps.Hold a v)) (hold_of (with_hold (state plan h).node_holds (node_place plan.settings a) v true) (node_place plan.settings node) what) node what
  after_hold h n a node v what sound is_a is old =
      let p = script_at plan h in
      hold_set (state plan h).node_holds (node_place plan.settings a) (node_place plan.settings node) v what true
      (λ b. b ≡ true → holds_at (after_step p (steps.Hold a v)) node what ≡ true) (λ held. held_more p.holds _ node what (old held))
      (λ there kind held.
      subst (λ m. holds_at (after_step p (steps.Hold m v)) node what ≡ true) (sym (same_place plan.settings a node is_a is there))
      (subst (λ m. holds_at (after_step p (steps.Hold node m)) node what ≡ true) (sym kind) (held_new p.holds node what)))

  after_free : (h : List Event) (a node : Node) (v what : What) → IsNode plan.settings a → IsNode plan.settings node → HasNodeHolds plan (state plan h).node_holds
      → HeldIn (script_at plan h) (hold_of (state plan h).node_holds (node_place plan.settings node) what) node what
      → HeldIn (after_step (script_at plan h) (steps.Free a v)) (hold_of (with_hold (state plan h).node_holds (node_place plan.settings a) v false) (node_place plan.settings node) what) node what
  after_free h a node v what is_a is sizes old = by_pair (pair node a what v (one_or_other plan.settings node a is is_a))
    where
      holds : NodeHolds
      holds = (state plan h).node_holds

      by_pair : Pair node a what v → HeldIn (after_step (script_at plan h) (steps.Free a v)) (hold_of (with_hold holds (node_place plan.settings a) v false) (node_place plan.settings node) what) node what
      by_pair (Same there kind) held =
          let none : hold_of (with_hold holds (node_place plan.settings a) v false) (node_place plan.settings node) what ≡ false =
          subst (λ m. hold_of (with_hold holds (node_place plan.settings a) v false) (node_place plan.settings m) what ≡ false) (sym there)
          (subst (λ m. hold_of (with_hold holds (node_place plan.settings a) v false) (node_place plan.settings a) m ≡ false) (sym kind)
          (freed plan holds (node_place plan.settings a) v sizes (node_there plan.settings a is_a))) in
          absurd (let no_way : false ≡ true = sym none ∙ held in cc)
      by_pair (Apart apart) held =
          let before : hold_of holds (node_place plan.settings node) what ≡ true =
          hold_set holds (node_place plan.settings a) (node_place plan.settings node) v what false (λ b. b ≡ true → hold_of holds (node_place plan.settings node) what ≡ true) (λ e. e)
          (λ there kind e. absurd (cc)) held in
          held_still (script_at plan h) node a what v apart (old before)

-- ---- a run

-- what is held at a node of the plan is held in the plain state
pub holding : (plan : Plan) (h : List Event) → IsSound plan → Run plan h → (node : Node) (what : What) → IsNode plan.settings node
    → hold_of (state plan h).node_holds (node_place plan.settings node) what ≡ true → holds_at (script_at plan h) node what ≡ true
unfolding Run Legal state start after step_of holds_after
holding plan [] sound r node Install is e = absurd (let no_way : false ≡ true = sym (replicate_at (node_count plan.settings) (node_place plan.settings node) false) ∙ e in cc)
holding plan [] sound r node Forward is e = absurd (let no_way : false ≡ true = sym (replicate_at (node_count plan.settings) (node_place plan.settings node) false) ∙ e in cc)
holding plan (Append n ∷ h) sound r node what is e =
    quiet plan h _ _ node what (does plan h n (steps.Append r.1.0) sound r.1.1.0 r.1.1.1) refl (holding plan h sound r.0 node what is e)
holding plan (Review n ∷ h) sound r node what is e =
    quiet plan h _ _ node what (does plan h n steps.Review sound r.1.0 r.1.1) refl (holding plan h sound r.0 node what is e)
holding plan (Hold n ∷ h) sound r node what is e =
    let d = does plan h n (steps.Hold r.1.0 r.1.1) sound r.1.2.0 r.1.2.1 in
    subst (λ p. holds_at p node what ≡ true) (sym d.script)
    (after_hold plan h n r.1.0 node r.1.1 what sound (held_there plan (script_at plan h) r.1.0 r.1.1 d.fits) is (holding plan h sound r.0 node what is)
    (subst (λ o. hold_of (holds_by plan.settings (state plan h).node_holds o) (node_place plan.settings node) what ≡ true) r.1.2.1 e))
holding plan (Free n ∷ h) sound r node what is e =
    let d = does plan h n (steps.Free r.1.0 r.1.1) sound r.1.2.0 r.1.2.1 in
    subst (λ p. holds_at p node what ≡ true) (sym d.script)
    (after_free plan h r.1.0 node r.1.1 what (freed_there plan (script_at plan h) r.1.0 r.1.1 d.fits) is (node_holds plan h) (holding plan h sound r.0 node what is)
    (subst (λ o. hold_of (holds_by plan.settings (state plan h).node_holds o) (node_place plan.settings node) what ≡ true) r.1.2.1 e))
holding plan (Wait n ∷ h) sound r node what is e =
    quiet plan h _ _ node what (does plan h n steps.Wait sound r.1.0 r.1.1) refl (holding plan h sound r.0 node what is e)
holding plan (Inject n i full ∷ h) sound r node what is e =
    quiet plan h _ _ node what (does plan h n (steps.Inject i) sound r.1.0.0 r.1.0.1) refl (holding plan h sound r.0 node what is e)
holding plan (Blackout n ∷ h) sound r node what is e =
    quiet plan h _ _ node what (does plan h n (steps.Blackout r.1.0 r.1.1) sound r.1.2.0 r.1.2.1) refl (holding plan h sound r.0 node what is e)
holding plan (Resume n ∷ h) sound r node what is e =
    quiet plan h _ _ node what (does plan h n (steps.Resume r.1.0) sound r.1.1.0 r.1.1.1) refl (holding plan h sound r.0 node what is e)
holding plan (Finish n ∷ h) sound r node what is e =
    quiet plan h _ _ node what (does plan h n steps.Finish sound r.1.0 r.1.1) refl (holding plan h sound r.0 node what is e)
holding plan (e ∷ h) sound r node what is held = holding plan h sound r.0 node what is held
