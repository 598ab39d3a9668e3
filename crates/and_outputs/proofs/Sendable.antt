-- A send of a run has what its outer headers need, and is the send of the definition.
use Rattle.std.proofs.Common.{◌≡◌, ℕ, ◌+◌, ◌-◌, ◌<◌, true, false, List, ◌∷◌, length, refl, subst, arith}
use Rattle.and_events.specs.declared.event.Actor.{Actor}
use Rattle.and_events.specs.declared.event.Actor.TheVariants.{HostInstall, GateInstall, Worker, Coproc, Gateway, Controller, Driver}
use Rattle.and_events.specs.declared.event.Arrival.TheVariants as arrivals
use Rattle.and_events.specs.declared.event.Carried.{Carried}
use Rattle.and_events.specs.declared.event.Departure.TheVariants.{NoVm, Spoofed, Denied, Allowed}
use Rattle.and_events.specs.declared.event.End.TheVariants.{Queued, Full, Hops}
use Rattle.and_events.specs.declared.event.Event.{Event}
use Rattle.and_events.specs.declared.event.Event.TheVariants.{Inject, Egress, Sealed, Route, Redirect, Ingress}
use Rattle.and_events.specs.declared.event.Node.{Node}
use Rattle.and_events.specs.declared.event.Node.TheVariants.{Host, Gate}
use Rattle.and_events.specs.declared.event.Passage.TheVariants as passages
use Rattle.and_events.specs.declared.event.Return.TheVariants as returns
use Rattle.and_events.specs.declared.plan.Plan.{Plan}
use Rattle.and_events.specs.declared.plan.Settings.{Settings}
use Rattle.and_events.specs.Flow.{Move, Stay, Enter, Lose, Grab, Send, SealLater, Stop, CanMove, carried_in}
use Rattle.and_events.specs.Legal.{Legal}
use Rattle.and_events.specs.OuterPackets as packets
use Rattle.and_events.specs.OuterPackets.{sent_by_move}
use Rattle.and_events.specs.Places.{IsActor, IsNode, IsWorker, IsGatewayWorker, IsCoprocessor, actor_of, capacity_at, node_of}
use Rattle.and_events.specs.Run.{Run, sends}
use Rattle.and_events.specs.Sound.{AreSettings, IsSound}
use Rattle.and_events.specs.State.{State, state, move_of, node_at}
use Rattle.and_laws.proofs.Hops.{hops_left, there}
use Rattle.and_laws.proofs.LegalMoves.{legal_moves}
use Rattle.and_laws.proofs.Sizes.{sizes}
use Rattle.and_outputs.specs.declared.moved.Moved.{Moved}
use Rattle.and_outputs.specs.Moves.{moved_by, sent_by}
use Rattle.and_outputs.specs.Sending.{CanPut, HasAddress}
use Rattle.and_outputs.proofs.Readable.{is_read}

-- ---- both ends are nodes

GoesBetween : Plan → Node → Move → Type 0
GoesBetween plan here (Send a q i net target) = IsNode plan.settings here × IsNode plan.settings (node_at target)
GoesBetween plan here _ = Unit {0}

worker_at : (s : Settings) (a : Actor) → IsActor s a → IsWorker a → IsNode s (node_of a)
worker_at s (Worker h w) is w' = is.0
worker_at s (HostInstall h) is w = absurd w
worker_at s (GateInstall g) is w = absurd w
worker_at s (Coproc h) is w = absurd w
worker_at s (Gateway g) is w = absurd w
worker_at s Controller is w = absurd w
worker_at s Driver is w = absurd w

coprocessor_at : (s : Settings) (a : Actor) → IsActor s a → IsCoprocessor a → IsNode s (node_of a)
coprocessor_at s (Coproc h) is c = is
coprocessor_at s (Worker h w) is c = absurd c
coprocessor_at s (HostInstall h) is c = absurd c
coprocessor_at s (GateInstall g) is c = absurd c
coprocessor_at s (Gateway g) is c = absurd c
coprocessor_at s Controller is c = absurd c
coprocessor_at s Driver is c = absurd c

gateway_at : (s : Settings) (a : Actor) → IsActor s a → IsGatewayWorker a → IsNode s (node_of a)
gateway_at s (Gateway g) is w = is
gateway_at s (Worker h w) is g = absurd g
gateway_at s (Coproc h) is g = absurd g
gateway_at s (HostInstall h) is g = absurd g
gateway_at s (GateInstall n) is g = absurd g
gateway_at s Controller is g = absurd g
gateway_at s Driver is g = absurd g

goes : (plan : Plan) (s : State) (e : Event) → Legal plan s e → GoesBetween plan (node_of (actor_of e)) (move_of plan s e)
unfolding GoesBetween Legal move_of
goes plan s (Inject n i true) l = tt
goes plan s (Inject n i false) l = tt
goes plan s (Egress a i at way NoVm) l = tt
goes plan s (Egress a i at way Spoofed) l = tt
goes plan s (Egress a i at way (Denied n)) l = tt
goes plan s (Egress a i at way (Allowed by true dest Queued)) l = tt
goes plan s (Egress a i at way (Allowed by true dest Full)) l = tt
goes plan s (Egress a i at way (Allowed by true dest Hops)) l = tt
goes plan s (Egress a i at way (Allowed by false dest Queued)) l = (worker_at plan.settings a l.0.actor l.1, l.2.2.2)
goes plan s (Egress a i at way (Allowed by false dest Full)) l = tt
goes plan s (Egress a i at way (Allowed by false dest Hops)) l = tt
goes plan s (Sealed a i Queued) l = (coprocessor_at plan.settings a l.0 l.1, l.4.2)
goes plan s (Sealed a i Full) l = tt
goes plan s (Sealed a i Hops) l = tt
goes plan s (Route a i at (passages.Dropped by)) l = tt
goes plan s (Route a i at (passages.NoOwner by)) l = tt
goes plan s (Route a i at (passages.Send by net host Queued)) l = (gateway_at plan.settings a l.0.actor l.1, l.3.2.2)
goes plan s (Route a i at (passages.Send by net host Full)) l = tt
goes plan s (Route a i at (passages.Send by net host Hops)) l = tt
goes plan s (Route a i at (passages.Hops by)) l = tt
goes plan s (Redirect a i at returns.NoOwner) l = tt
goes plan s (Redirect a i at (returns.Send host Queued)) l = (gateway_at plan.settings a l.0.actor l.1, l.3.2.2)
goes plan s (Redirect a i at (returns.Send host Full)) l = tt
goes plan s (Redirect a i at (returns.Send host Hops)) l = tt
goes plan s (Redirect a i at returns.Hops) l = tt
goes plan s (Ingress a i at way arrivals.NoOwner) l = tt
goes plan s (Ingress a i at way (arrivals.Running vm by pass)) l = tt
goes plan s (Ingress a i at way (arrivals.Blackout vm)) l = tt
goes plan s (Ingress a i at way (arrivals.Hairpin vm host Queued)) l = (worker_at plan.settings a l.0.actor l.1, l.2.2.2)
goes plan s (Ingress a i at way (arrivals.Hairpin vm host Full)) l = tt
goes plan s (Ingress a i at way (arrivals.Hairpin vm host Hops)) l = tt
goes plan s (Ingress a i at way (arrivals.Absent vm gateway Queued)) l = (worker_at plan.settings a l.0.actor l.1, l.2.3.2)
goes plan s (Ingress a i at way (arrivals.Absent vm gateway Full)) l = tt
goes plan s (Ingress a i at way (arrivals.Absent vm gateway Hops)) l = tt
goes plan s _ l = tt

addressed : (s : Settings) (node : Node) → AreSettings s → IsNode s node → HasAddress node
addressed s (Host h) are is = omega (arith, are.hosts.1, is)
addressed s (Gate g) are is = omega (arith, are.gateways.1, is)

-- ---- the hops are those of the definition

module _ (plan : Plan) (h : List Event) (e : Event) (run : Run plan (e ∷ h)) where
  legal_here : Legal plan (state plan h) e
  unfolding Run
  legal_here = run.1

  run_here : Run plan h
  unfolding Run
  run_here = run.0

  some_hops : (a q i net : ℕ) (target : _) → move_of plan (state plan h) e ≡ Send a q i net target → 0 < (carried_in (state plan h).flow.carried i).hops
  unfolding CanMove
  some_hops a q i net target is =
      (subst (CanMove (capacity_at plan.settings) (state plan h).flow) is (legal_moves plan (state plan h) e (sizes plan h) legal_here)).2

  packet_there : (a q i net : ℕ) (target : _) → move_of plan (state plan h) e ≡ Send a q i net target → i < length plan.packets
  packet_there a q i net target is = omega (arith, there (state plan h).flow.carried i (some_hops a q i net target is), (sizes plan h).carried)

  hops_are : (a q i net : ℕ) (target : _) → move_of plan (state plan h) e ≡ Send a q i net target
      → (carried_in (state plan h).flow.carried i).hops + sends plan h i ≡ plan.settings.hop_limit
  hops_are a q i net target is = omega (arith, hops_left plan h run_here i (packet_there a q i net target is))

  pub can_put : (m : Move) → move_of plan (state plan h) e ≡ m → IsSound plan → CanPut plan (node_of (actor_of e)) (state plan h).flow.carried (moved_by m)
  unfolding GoesBetween
  can_put (Send a q i net target) is sound =
      let ends = subst (GoesBetween plan (node_of (actor_of e))) is (goes plan (state plan h) e legal_here) in
      let within = packet_there a q i net target is in
      record {
        source = addressed plan.settings (node_of (actor_of e)) sound.settings ends.0;
        target = addressed plan.settings (node_at target) sound.settings ends.1;
        hops = omega (arith, hops_are a q i net target is, sound.settings.hop_limit.1);
        packet = within;
        frame = (is_read plan sound i within).read;
      }
  can_put Stay is sound = tt
  can_put (Enter q i) is sound = tt
  can_put (Lose i) is sound = tt
  can_put (Grab a q held) is sound = tt
  can_put (SealLater a q i net target) is sound = tt
  can_put (Stop a i) is sound = tt

  pub sent_is : (m : Move) → move_of plan (state plan h) e ≡ m
      → sent_by plan (node_of (actor_of e)) (state plan h).flow.carried (moved_by m) ≡ sent_by_move plan h (node_of (actor_of e)) m
  sent_is (Send a q i net target) is =
      let hops : (carried_in (state plan h).flow.carried i).hops ≡ plan.settings.hop_limit - sends plan h i = omega (arith, hops_are a q i net target is) in
      rw hops refl
  sent_is Stay is = refl
  sent_is (Enter q i) is = refl
  sent_is (Lose i) is = refl
  sent_is (Grab a q held) is = refl
  sent_is (SealLater a q i net target) is = refl
  sent_is (Stop a i) is = refl

-- ---- the same, of what the pass has

pub puts : (plan : Plan) (h : List Event) (e : Event) (here : Node) (carried : List Carried) (moved : Moved) → IsSound plan → Run plan (e ∷ h) → here ≡ node_of (actor_of e)
    → carried ≡ (state plan h).flow.carried → moved ≡ moved_by (move_of plan (state plan h) e) → CanPut plan here carried moved
puts plan h e here carried moved sound run a b m = rw (a, b, m) (can_put plan h e run (move_of plan (state plan h) e) refl sound)

pub sent_found : (plan : Plan) (h : List Event) (e : Event) (here : Node) (carried : List Carried) (moved : Moved) → Run plan (e ∷ h) → here ≡ node_of (actor_of e)
    → carried ≡ (state plan h).flow.carried → moved ≡ moved_by (move_of plan (state plan h) e) → sent_by plan here carried moved ≡ packets.sent_by plan h e
sent_found plan h e here carried moved run a b m = rw (a, b, m) (sent_is plan h e run (move_of plan (state plan h) e) refl)
