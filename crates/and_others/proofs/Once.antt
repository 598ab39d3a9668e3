-- A plan has one complete run in the plain order whose ways are those of the caches.
use Rattle.std.proofs.Common.{◌≡◌, ℕ, List, [], ◌∷◌, Some, refl, sym, ap, ◌∙◌}
use Rattle.and_policy.specs.declared.decision.Way.TheVariants.{Slow}
use Rattle.and_events.specs.declared.event.Actor.{Actor}
use Rattle.and_events.specs.declared.event.Actor.TheVariants.{HostInstall, GateInstall, Worker, Coproc, Gateway, Controller, Driver}
use Rattle.and_events.specs.declared.event.Event.{Event}
use Rattle.and_events.specs.declared.event.Event.TheVariants.{Egress, Route, Redirect, Ingress}
use Rattle.and_events.specs.declared.event.Held.{Held}
use Rattle.and_events.specs.declared.event.Queue.TheVariants.{Out, Wire}
use Rattle.and_events.specs.declared.plan.Plan.{Plan}
use Rattle.and_events.specs.Complete.{IsComplete}
use Rattle.and_events.specs.Flow.{hand_at}
use Rattle.and_events.specs.Legal.{Legal}
use Rattle.and_events.specs.Ordered.{IsInPlainOrder}
use Rattle.and_events.specs.Places.{actor_of, hand_place, IsWorker, IsGatewayWorker}
use Rattle.and_events.specs.Run.{Run}
use Rattle.and_events.specs.Sound.{IsSound}
use Rattle.and_events.specs.State.{state}
use Rattle.and_laws.specs.Choices.{GoesBy, FollowRule, choice_of}
use Rattle.and_laws.proofs.SameRuns.{one_run}
use Rattle.and_others.specs.Ways.{asked, IsWay, Ways, way_by_hand, way_rule}

-- the rule of a worker with this packet in hand is what its cache gives
of_worker : (plan : Plan) (h : List Event) (a : Actor) (at : ℕ) (g : Held) → IsWorker a → hand_at (state plan h).flow.hands (hand_place plan.settings a) ≡ Some g
    → way_rule plan h a at ≡ way_by_hand plan h a at (Some g)
unfolding way_rule
of_worker plan h (Worker host index) at g is holds = ap (way_by_hand plan h (Worker host index) at) holds
of_worker plan h (HostInstall k) at g is holds = absurd is
of_worker plan h (GateInstall k) at g is holds = absurd is
of_worker plan h (Coproc k) at g is holds = absurd is
of_worker plan h (Gateway k) at g is holds = absurd is
of_worker plan h Controller at g is holds = absurd is
of_worker plan h Driver at g is holds = absurd is

-- a gateway has no cache
of_gateway : (plan : Plan) (h : List Event) (a : Actor) (at : ℕ) → IsGatewayWorker a → Slow ≡ way_rule plan h a at
unfolding way_rule
of_gateway plan h (Gateway k) at is = refl
of_gateway plan h (Worker host index) at is = absurd is
of_gateway plan h (HostInstall k) at is = absurd is
of_gateway plan h (GateInstall k) at is = absurd is
of_gateway plan h (Coproc k) at is = absurd is
of_gateway plan h Controller at is = absurd is
of_gateway plan h Driver at is = absurd is

goes_by : (plan : Plan) (h : List Event) (e : Event) → Legal plan (state plan h) e → IsWay plan h (asked plan (state plan h) e) → GoesBy (way_rule plan) h (actor_of e) (choice_of e)
unfolding Legal
goes_by plan h (Egress a i at way d) l w = w ∙ sym (of_worker plan h a at (record { packet = i; need = l.0.need; queue = Out }) l.1 l.0.holds)
goes_by plan h (Ingress a i at way arrival) l w = w ∙ sym (of_worker plan h a at (record { packet = i; need = l.0.need; queue = Wire }) l.1 l.0.holds)
goes_by plan h (Route a i at p) l w = of_gateway plan h a at l.1
goes_by plan h (Redirect a i at back) l w = of_gateway plan h a at l.1
goes_by plan h e l w = tt

-- what a run's caches give is the rule that it follows
pub ways_follow : (plan : Plan) (h : List Event) → IsSound plan → Run plan h → Ways plan h → FollowRule (way_rule plan) h
unfolding Run Ways FollowRule
ways_follow plan [] sound r ways = tt
ways_follow plan (e ∷ h) sound r ways = (ways_follow plan h sound r.0 ways.0, goes_by plan h e r.1 ways.1)

pub one_way_run : (plan : Plan) (h k : List Event) → IsSound plan → Run plan h → IsComplete plan h → IsInPlainOrder plan h → Ways plan h → Run plan k → IsComplete plan k → IsInPlainOrder plan k → Ways plan k → k ≡ h
one_way_run plan h k sound run complete ordered ways run' complete' ordered' ways' =
    one_run plan sound (way_rule plan) k h (record { run = run'; ordered = ordered'; ways = ways_follow plan k sound run' ways'; complete = complete' })
    (record { run = run; ordered = ordered; ways = ways_follow plan h sound run ways; complete = complete })
