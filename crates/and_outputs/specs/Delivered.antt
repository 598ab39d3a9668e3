-- The capture of the frames that were delivered.
use Rattle.std.specs.Prelude.{ℕ, true, List, [], ◌∷◌, ◌++◌, map, Option, Some, None}
use Rattle.and_capture.specs.declared.capture.Taken.{Taken}
use Rattle.and_capture.specs.Spelling.{written}
use Rattle.and_events.specs.declared.event.Arrival.TheVariants.{Running}
use Rattle.and_events.specs.declared.event.Event.{Event}
use Rattle.and_events.specs.declared.event.Event.TheVariants.{Ingress}
use Rattle.and_events.specs.declared.plan.Plan.{Plan}
use Rattle.and_events.specs.State.{packet_at}

-- the packet that an event delivers: its VM runs at the host, and the rules let it pass
abbrev pub delivered_by : Event → Option ℕ
delivered_by (Ingress a i at way (Running vm by true)) = Some i
delivered_by _ = None

abbrev pub with_delivery : List ℕ → Option ℕ → List ℕ
with_delivery packets None = packets
with_delivery packets (Some i) = packets ++ i ∷ []

-- the packets that a history delivers, the oldest delivery first
unfoldable pub deliveries : List Event → List ℕ
deliveries [] = []
deliveries (e ∷ h) = with_delivery (deliveries h) (delivered_by e)

-- the packet's frame as the input capture has it: its bytes, its time and its original length
abbrev pub frame_of : Plan → ℕ → Taken
frame_of plan i = (packet_at plan i).taken

-- the file of these frames, for Ethernet (link type 1) and in the unit of time of the input capture
unfoldable pub delivered_of : Plan → List ℕ → List ℕ
delivered_of plan packets = written 1 (record { nanos = plan.nanos; frames = map (frame_of plan) packets })

abbrev pub delivered : Plan → List Event → List ℕ
delivered plan h = delivered_of plan (deliveries h)
