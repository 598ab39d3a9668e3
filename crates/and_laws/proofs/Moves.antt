-- A fate is where a move takes the packet out, and an injection where a move brings it in.
use Rattle.std.proofs.Common.{◌≡◌, ℕ, ◌+◌, true, false, refl, arith, Option, Some, None}
use Rattle.and_events.specs.declared.event.End.TheVariants.{Queued, Full, Hops}
use Rattle.and_events.specs.declared.event.Departure.TheVariants.{NoVm, Spoofed, Denied, Allowed}
use Rattle.and_events.specs.declared.event.Passage.TheVariants as passages
use Rattle.and_events.specs.declared.event.Return.TheVariants as returns
use Rattle.and_events.specs.declared.event.Arrival.TheVariants as arrivals
use Rattle.and_events.specs.declared.event.Event.{Event}
use Rattle.and_events.specs.declared.event.Event.TheVariants.{Inject, Egress, Sealed, Route, Redirect, Ingress}
use Rattle.and_events.specs.declared.plan.Plan.{Plan}
use Rattle.and_events.specs.State.{State, move_of}
use Rattle.and_events.specs.Run.{fate_of, injected_by}
use Rattle.and_laws.proofs.Places.{brought, taken_out}

-- the weight of the packet, where there is one
abbrev pub weigh : (ℕ → ℕ) → Option ℕ → ℕ
weigh w None = 0
weigh w (Some i) = w i

pub balance : (plan : Plan) (s : State) (w : ℕ → ℕ) (e : Event) → weigh w (fate_of e) + brought w (move_of plan s e) ≡ weigh w (injected_by e) + taken_out w (move_of plan s e)
unfolding fate_of injected_by move_of brought taken_out
balance plan s w (Inject n j true) = omega arith
balance plan s w (Inject n j false) = omega arith
balance plan s w (Egress a j at way NoVm) = omega arith
balance plan s w (Egress a j at way Spoofed) = omega arith
balance plan s w (Egress a j at way (Denied n)) = omega arith
balance plan s w (Egress a j at way (Allowed by true dest Queued)) = refl
balance plan s w (Egress a j at way (Allowed by true dest Full)) = omega arith
balance plan s w (Egress a j at way (Allowed by true dest Hops)) = omega arith
balance plan s w (Egress a j at way (Allowed by false dest Queued)) = refl
balance plan s w (Egress a j at way (Allowed by false dest Full)) = omega arith
balance plan s w (Egress a j at way (Allowed by false dest Hops)) = omega arith
balance plan s w (Sealed a j Queued) = refl
balance plan s w (Sealed a j Full) = omega arith
balance plan s w (Sealed a j Hops) = omega arith
balance plan s w (Route a j at (passages.Dropped by)) = omega arith
balance plan s w (Route a j at (passages.NoOwner by)) = omega arith
balance plan s w (Route a j at (passages.Send by net host Queued)) = refl
balance plan s w (Route a j at (passages.Send by net host Full)) = omega arith
balance plan s w (Route a j at (passages.Send by net host Hops)) = omega arith
balance plan s w (Route a j at (passages.Hops by)) = omega arith
balance plan s w (Redirect a j at returns.NoOwner) = omega arith
balance plan s w (Redirect a j at (returns.Send host Queued)) = refl
balance plan s w (Redirect a j at (returns.Send host Full)) = omega arith
balance plan s w (Redirect a j at (returns.Send host Hops)) = omega arith
balance plan s w (Redirect a j at returns.Hops) = omega arith
balance plan s w (Ingress a j at way arrivals.NoOwner) = omega arith
balance plan s w (Ingress a j at way (arrivals.Running vm by pass)) = omega arith
balance plan s w (Ingress a j at way (arrivals.Blackout vm)) = omega arith
balance plan s w (Ingress a j at way (arrivals.Hairpin vm host Queued)) = refl
balance plan s w (Ingress a j at way (arrivals.Hairpin vm host Full)) = omega arith
balance plan s w (Ingress a j at way (arrivals.Hairpin vm host Hops)) = omega arith
balance plan s w (Ingress a j at way (arrivals.Absent vm gateway Queued)) = refl
balance plan s w (Ingress a j at way (arrivals.Absent vm gateway Full)) = omega arith
balance plan s w (Ingress a j at way (arrivals.Absent vm gateway Hops)) = omega arith
balance plan s w _ = refl
