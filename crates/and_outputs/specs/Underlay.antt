-- The capture of the packets of the underlay.
use Rattle.std.specs.Prelude.{ℕ, List, length, map}
use Rattle.and_capture.specs.declared.capture.Taken.{Taken}
use Rattle.and_capture.specs.Spelling.{written}
use Rattle.and_events.specs.declared.event.Event.{Event}
use Rattle.and_events.specs.declared.plan.Plan.{Plan}
use Rattle.and_events.specs.OuterPackets.{Sent, sends_of, sent_bytes}
use Rattle.and_events.specs.State.{packet_at}

-- the packet of a send: 36 bytes of outer headers and the frame, at the time of the frame. Nothing of it was cut off
abbrev pub packet_of : Plan → Sent → Taken
packet_of plan sent =
    record {
      seconds = (packet_at plan sent.packet).taken.seconds;
      fraction = (packet_at plan sent.packet).taken.fraction;
      original = length (sent_bytes plan sent);
      frame = sent_bytes plan sent;
    }

-- the file of these sends, of packets that begin with their IP header (link type 101) and in the unit of time of the input capture
unfoldable pub underlay_of : Plan → List Sent → List ℕ
underlay_of plan sents = written 101 (record { nanos = plan.nanos; frames = map (packet_of plan) sents })

-- the sends of a history, the oldest first
abbrev pub underlay : Plan → List Event → List ℕ
underlay plan h = underlay_of plan (sends_of plan h)
