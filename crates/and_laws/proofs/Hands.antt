-- What an actor has in hand it took from a queue of its kind.
use Rattle.std.proofs.Common.{◌≡◌, ◌<◌, List, [], ◌∷◌, length, subst, ⊎_elim}
use Rattle.std.proofs.lemmas.Bool.{cases_eq}
use Rattle.and_events.specs.declared.event.Event.{Event}
use Rattle.and_events.specs.declared.event.Event.TheVariants.{Take}
use Rattle.and_events.specs.declared.event.Held.{Held}
use Rattle.and_events.specs.declared.plan.Plan.{Plan}
use Rattle.and_events.specs.Places.{hand_place, node_of}
use Rattle.and_events.specs.Flow.{flow_after}
use Rattle.and_events.specs.State.{state, after, move_of, installed_of}
use Rattle.and_events.specs.Legal.{Legal}
use Rattle.and_events.specs.Run.{Run}
use Rattle.and_laws.specs.Stages.{MayTake, HaveRightHands}
use Rattle.and_laws.proofs.Sizes.{sizes}
use Rattle.and_laws.proofs.Actors.{takes_at, may_take, same_kind}
use Rattle.and_laws.proofs.Needs.{nothing_held, take_within, taken_same, taken_other, held_before, no_grab}

pub right_hands : (plan : Plan) (h : List Event) → Run plan h → HaveRightHands plan h
unfolding Run Legal state after flow_after move_of
right_hands plan [] r a g is t has = absurd (nothing_held plan (hand_place plan.settings a) g has)
right_hands plan (Take b q j ∷ h) r a g is t has =
    let s = state plan h in
    let x = hand_place plan.settings b in
    let y = hand_place plan.settings a in
    let new : Held = record { packet = j; need = installed_of plan s (node_of b); queue = q } in
    let there : x < length s.flow.hands = take_within plan s (sizes plan h) b q j r.1 in
    ⊎_elim
    (λ (e : x ≡ y).
    let it : new ≡ g = taken_same s.flow.hands x y new g there e has in
    subst (λ (z : Held). MayTake a z.queue) it
    (same_kind plan.settings b a q r.1.actor is (takes_at plan s b q r.1.actor r.1.queue).takes t e (may_take plan s b q r.1.queue)))
    (λ (e : x ≡ y → ⊥). right_hands plan h r.0 a g is t (taken_other s.flow.hands x y new g e has)) (cases_eq x y)
right_hands plan (e ∷ h) r a g is t has =
    right_hands plan h r.0 a g is t (held_before (state plan h).flow (move_of plan (state plan h) e) (hand_place plan.settings a) g (no_grab plan (state plan h) e tt) has)
