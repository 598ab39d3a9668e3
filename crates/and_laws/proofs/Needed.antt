-- What is installed stays installed, so what an actor needs for what it has in hand is installed.
use Rattle.std.proofs.Common.{◌≡◌, ℕ, ◌<◌, ◌≤◌, List, [], ◌∷◌, length, sym, ap, ◌∙◌, arith, Option, Some, None, ⊎_elim}
use Rattle.std.specs.Prelude.{slice_get}
use Rattle.std.proofs.lemmas.Bool.{cases_eq}
use Rattle.and_events.specs.declared.event.Actor.{Actor}
use Rattle.and_events.specs.declared.event.Event.{Event}
use Rattle.and_events.specs.declared.event.Event.TheVariants.{Append, Review, Resume, Announce, Installed, Take}
use Rattle.and_events.specs.declared.event.Held.{Held}
use Rattle.and_events.specs.declared.plan.Plan.{Plan}
use Rattle.and_events.specs.declared.plan.Step.{Step}
use Rattle.and_events.specs.declared.plan.Step.TheVariants as steps
use Rattle.and_events.specs.Flow.{hand_at, flow_after}
use Rattle.and_events.specs.Legal.{Legal}
use Rattle.and_events.specs.Places.{node_place, hand_place, node_of, IsActor}
use Rattle.and_events.specs.Programming.{Programmes, Word, Quiet, Logs, Orders, Announces, Installs, programmes_after, installed_at}
use Rattle.and_events.specs.Run.{Run}
use Rattle.and_events.specs.State.{State, state, after, move_of, word_of, word_of_step, installed_of}
use Rattle.and_laws.specs.Stages.{Takes}
use Rattle.and_laws.proofs.Actors.{same_node, takes_at}
use Rattle.and_laws.proofs.Needs.{nothing_held, held_before, no_grab, taken_same, taken_other, take_within}
use Rattle.and_laws.proofs.Rows.{set_at}
use Rattle.and_laws.proofs.Sizes.{sizes}

-- ---- what is installed stays installed

abbrev pub Raises : Programmes → Word → Type 0
Raises p (Installs k upto) = installed_at p k ≤ upto
Raises p _ = Unit {0}

raised : (p : Programmes) (w : Word) (n : ℕ) → Raises p w → installed_at p n ≤ installed_at (programmes_after p w) n
unfolding programmes_after
raised p Quiet n up = omega arith
raised p (Logs e) n up = omega arith
raised p (Orders os) n up = omega arith
raised p (Announces k upto) n up = omega arith
raised p (Installs k upto) n up =
    set_at p.installed k n upto 0 (λ x. installed_at p n ≤ x) (omega arith) (λ e. omega (arith, up, ap (installed_at p) e))

step_raises : (plan : Plan) (s : State) (o : Option Step) → Raises s.programmes (word_of_step plan s o)
step_raises plan s (Some (steps.Append e)) = tt
step_raises plan s (Some steps.Review) = tt
step_raises plan s (Some (steps.Resume vm)) = tt
step_raises plan s (Some step) = tt
step_raises plan s None = tt

pub raises : (plan : Plan) (s : State) (e : Event) → Legal plan s e → Raises s.programmes (word_of plan s e)
unfolding Legal word_of
raises plan s (Append n) l = step_raises plan s (slice_get plan.steps n)
raises plan s (Review n) l = step_raises plan s (slice_get plan.steps n)
raises plan s (Resume n) l = step_raises plan s (slice_get plan.steps n)
raises plan s (Announce node upto) l = tt
raises plan s (Installed node upto) l = omega (arith, l.0.1, l.1)
raises plan s e l = tt

-- ---- what is needed is installed

pub needed_installed : (plan : Plan) (h : List Event) → Run plan h → (a : Actor) (g : Held) → IsActor plan.settings a → Takes a → hand_at (state plan h).flow.hands (hand_place plan.settings a) ≡ Some g
    → g.need ≤ installed_of plan (state plan h) (node_of a)
unfolding Run Legal state after flow_after move_of
needed_installed plan [] r a g is t e = absurd (nothing_held plan (hand_place plan.settings a) g e)
needed_installed plan (Take b q j ∷ h) r a g is t has =
    let s = state plan h in
    let x = hand_place plan.settings b in
    let y = hand_place plan.settings a in
    let new : Held = record { packet = j; need = installed_of plan s (node_of b); queue = q } in
    let there : x < length s.flow.hands = take_within plan s (sizes plan h) b q j r.1 in
    let tb = (takes_at plan s b q r.1.actor r.1.queue).takes in
    let stays = raised s.programmes (word_of plan s (Take b q j)) (node_place plan.settings (node_of a)) (raises plan s (Take b q j) r.1) in
    ⊎_elim
    (λ (e : x ≡ y).
    let it : new ≡ g = taken_same s.flow.hands x y new g there e has in
    let node = same_node plan.settings b a r.1.actor is tb t e in
    let need : installed_of plan s (node_of a) ≡ g.need = ap (installed_of plan s) (sym node) ∙ ap (λ (z : Held). z.need) it in
    omega (arith, need, stays))
    (λ (e : x ≡ y → ⊥). omega (arith, stays, needed_installed plan h r.0 a g is t (taken_other s.flow.hands x y new g e has)))
    (cases_eq x y)
needed_installed plan (e ∷ h) r a g is t has =
    let s = state plan h in
    omega (
      arith,
      needed_installed plan h r.0 a g is t (held_before s.flow (move_of plan s e) (hand_place plan.settings a) g (no_grab plan s e tt) has),
      raised s.programmes (word_of plan s e) (node_place plan.settings (node_of a)) (raises plan s e r.1),
    )
