-- The bytes of an outer packet: how many, that a VNI counts by its lowest three bytes, and its record.
use Rattle.std.proofs.Common.{◌≡◌, ℕ, ◌+◌, ◌%◌, ◌/◌, Bool, List, length, refl, sym, ap, ◌∙◌, arith}
use Rattle.std.proofs.lemmas.List.{length-append}
use Rattle.and_capture.specs.declared.capture.Taken.{Taken}
use Rattle.and_policy.specs.FlowHash.{flow_hash}
use Rattle.and_policy.specs.Outer.{Envelope, entropy_port, outer_header, outer_packet}
use Rattle.and_events.specs.declared.event.Carried.{Carried}
use Rattle.and_events.specs.declared.event.Node.{Node}
use Rattle.and_events.specs.declared.plan.Packet.{Packet}
use Rattle.and_events.specs.declared.plan.Plan.{Plan}
use Rattle.and_events.specs.OuterPackets.{endpoint_address, sent_bytes, source_address}
use Rattle.and_events.specs.State.{frame_at, packet_at}
use Rattle.and_outputs.specs.declared.moved.Trip.{Trip}
use Rattle.and_outputs.specs.Moves.{sent_with}
use Rattle.and_outputs.specs.Underlay.{packet_of}

outer_len : (o : Envelope) (frame : List ℕ) → length (outer_packet o frame) ≡ 36 + length frame
outer_len o frame = length-append (outer_header o frame) frame

low_vni : (source destination ttl vni port : ℕ) (sealed : Bool) (frame : List ℕ)
    → outer_packet (record { source = source; destination = destination; ttl = ttl; vni = vni % 16777216; source_port = port; sealed = sealed }) frame
    ≡ outer_packet (record { source = source; destination = destination; ttl = ttl; vni = vni; source_port = port; sealed = sealed }) frame
low_vni source destination ttl vni port sealed frame =
    let high : vni % 16777216 / 65536 % 256 ≡ vni / 65536 % 256 = omega arith in
    let middle : vni % 16777216 / 256 % 256 ≡ vni / 256 % 256 = omega arith in
    let low : vni % 16777216 % 256 ≡ vni % 256 = omega arith in
    rw (high, middle, low) refl

same_packet : (s s' d d' ttl vni port port' : ℕ) (sealed : Bool) (frame frame' : List ℕ) → s ≡ s' → d ≡ d' → port ≡ port' → frame ≡ frame'
    → outer_packet (record { source = s; destination = d; ttl = ttl; vni = vni % 16777216; source_port = port; sealed = sealed }) frame
    ≡ outer_packet (record { source = s'; destination = d'; ttl = ttl; vni = vni; source_port = port'; sealed = sealed }) frame'
same_packet s s' d d' ttl vni port port' sealed frame frame' es ed ep ef = rw (es, ed, ep, ef) (low_vni s' d' ttl vni port' sealed frame')

same_taken : (a a' b b' o o' : ℕ) (f f' : List ℕ) → a ≡ a' → b ≡ b' → o ≡ o' → f ≡ f' → let old : Taken = record { seconds = a; fraction = b; original = o; frame = f } in
    let new : Taken = record { seconds = a'; fraction = b'; original = o'; frame = f' } in old ≡ new
same_taken a a' b b' o o' f f' ea eb eo ef = rw (ea, eb, eo, ef) refl

-- the record of a send
pub packet_is : (plan : Plan) (here : Node) (c : Carried) (t : Trip) (packet : Packet) (wire : List ℕ) (original source destination port : ℕ)
    → packet ≡ packet_at plan t.packet → source ≡ source_address here → destination ≡ endpoint_address t.target → port ≡ entropy_port (flow_hash packet.tuple)
    → wire ≡ outer_packet (record { source = source; destination = destination; ttl = c.hops; vni = t.net % 16777216; source_port = port; sealed = c.sealed }) packet.taken.frame
    → original ≡ 36 + length packet.taken.frame
    → let made : Taken = record { seconds = packet.taken.seconds; fraction = packet.taken.fraction; original = original; frame = wire } in
    made ≡ packet_of plan (sent_with plan here c t)
packet_is plan here c t packet wire original source destination port p s d o w l =
    let frames : packet.taken.frame ≡ frame_at plan t.packet = ap (λ x. x.taken.frame) p in
    let ports : port ≡ entropy_port (flow_hash (packet_at plan t.packet).tuple) = o ∙ ap (λ x. entropy_port (flow_hash x.tuple)) p in
    let bytes : wire ≡ sent_bytes plan (sent_with plan here c t) =
    w ∙ same_packet source (source_address here) destination (endpoint_address t.target) c.hops t.net port _ c.sealed packet.taken.frame (frame_at plan t.packet) s d ports frames in
    let lengths : original ≡ length (sent_bytes plan (sent_with plan here c t)) =
    l ∙ ap (λ n. 36 + n) (ap (λ f. length f) frames) ∙ sym (outer_len (sent_with plan here c t).outer (frame_at plan t.packet)) in
    same_taken _ _ _ _ original _ wire _ (ap (λ x. x.taken.seconds) p) (ap (λ x. x.taken.fraction) p) lengths bytes
