-- What a send needs for its outer headers.
use Rattle.std.specs.Prelude.{◌<◌, ◌^◌, List, length, IsOk}
use Rattle.and_policy.specs.Frames.{fields}
use Rattle.and_events.specs.declared.event.Carried.{Carried}
use Rattle.and_events.specs.declared.event.Node.{Node}
use Rattle.and_events.specs.declared.event.Node.TheVariants.{Host, Gate}
use Rattle.and_events.specs.declared.plan.Plan.{Plan}
use Rattle.and_events.specs.Flow.{carried_in}
use Rattle.and_events.specs.State.{frame_at, node_at}
use Rattle.and_outputs.specs.declared.moved.Trip.{Trip}
use Rattle.and_outputs.specs.declared.moved.Moved.{Moved}
use Rattle.and_outputs.specs.declared.moved.Moved.TheVariants as moveds

-- the node's number fits its underlay address
abbrev pub HasAddress : Node → Type 0
HasAddress (Host h) = h < 2 ^ 16
HasAddress (Gate g) = g < 2 ^ 16

-- both ends have addresses, the hops fit the TTL, and the packet is one of the plan's, whose frame is read
pub record CanSend (plan : Plan) (here : Node) (c : Carried) (t : Trip) : Type 0 where
  pub source : HasAddress here
  pub target : HasAddress (node_at t.target)
  pub hops : c.hops < 2 ^ 8
  pub packet : t.packet < length plan.packets
  pub frame : IsOk (fields (frame_at plan t.packet))

abbrev pub CanPut : Plan → Node → List Carried → Moved → Type 0
CanPut plan here carried (moveds.Sent t) = CanSend plan here (carried_in carried t.packet) t
CanPut plan here carried _ = Unit {0}
