-- A packet that is decided of is in hand, so it had no fate before.
use Rattle.std.proofs.Common.{◌≡◌, ℕ, ◌≤◌, List, [], ◌∷◌, length, refl, arith}
use Rattle.and_events.specs.declared.event.Actor.{Actor}
use Rattle.and_events.specs.declared.event.Event.{Event}
use Rattle.and_events.specs.declared.event.Event.TheVariants.{Egress, Route, Redirect, Ingress}
use Rattle.and_events.specs.declared.event.Held.{Held}
use Rattle.and_events.specs.declared.event.Queue.{Queue}
use Rattle.and_events.specs.declared.event.Queue.TheVariants.{Out, Wire}
use Rattle.and_events.specs.declared.plan.Plan.{Plan}
use Rattle.and_events.specs.Fresh.{decision_of}
use Rattle.and_events.specs.Legal.{Legal, Decides}
use Rattle.and_events.specs.Places.{hand_place}
use Rattle.and_events.specs.Run.{Run, fates}
use Rattle.and_events.specs.Sound.{IsSound}
use Rattle.and_events.specs.State.{state}
use Rattle.and_laws.specs.Decided.{IsBeforeFate}
use Rattle.and_laws.proofs.Fates.{each_has_one}
use Rattle.and_laws.proofs.Injected.{injected_once}
use Rattle.and_laws.proofs.Unique.{hand_counts}

none_of : {X : Type 0} (xs : List X) → length xs ≤ 0 → xs ≡ []
none_of [] l = refl
none_of (x ∷ xs) l = absurd (omega (arith, l))

no_fate : (plan : Plan) (h : List Event) (a : Actor) (i at : ℕ) (q : Queue) → IsSound plan → Run plan h → Decides plan (state plan h) a i q at → fates h i ≡ []
no_fate plan h a i at q sound r d =
    let held : Held = record { packet = i; need = d.need; queue = q } in
    let one = hand_counts i (hand_place plan.settings a) held (state plan h).flow.hands d.holds refl in
    none_of (fates h i) (omega (arith, one, each_has_one plan h r i, (injected_once plan h sound r).once i))

before_fate : (plan : Plan) (e : Event) (h : List Event) → IsSound plan → Run plan h → Legal plan (state plan h) e → IsBeforeFate h (decision_of e)
unfolding Legal
before_fate plan (Egress a i at way d) h sound r l = no_fate plan h a i at Out sound r l.0
before_fate plan (Route a i at p) h sound r l = no_fate plan h a i at Wire sound r l.0
before_fate plan (Redirect a i at back) h sound r l = no_fate plan h a i at Wire sound r l.0
before_fate plan (Ingress a i at way arrival) h sound r l = no_fate plan h a i at Wire sound r l.0
before_fate plan e h sound r l = tt

pub decides_before_fate : (plan : Plan) (e : Event) (h : List Event) → IsSound plan → Run plan (e ∷ h) → IsBeforeFate h (decision_of e)
unfolding Run
decides_before_fate plan e h sound r = before_fate plan e h sound r.0 r.1
