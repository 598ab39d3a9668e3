use Rattle.std.proofs.Common.{◌≡◌, ◌%◌, ◌++◌, get_or, length, refl, ap, ◌∙◌, rules}
use Rattle.std.proofs.lemmas.List.{get_or_read_under}
use Rattle.and_capture.specs.Spelling.{little, record_of}
use Rattle.and_policy.specs.FlowHash.{flow_hash}
use Rattle.and_policy.specs.Outer.{entropy_port, outer_packet}
use Rattle.and_events.specs.State.{no_packet, packet_at}
use Rattle.and_outputs.specs.Moves.{sent_with}
use Rattle.and_outputs.proofs.Growing.{underlay_more}
use Rattle.and_outputs.proofs.Packets.{packet_is}
use Rattle.and_outputs.proofs.sending.put_packet.Goals as goal

pub returns : goal.returns
returns c = λ sents was.
    let packet = c.index-as_slice-trip.result in
    let there : packet ≡ packet_at c.args.plan.now c.args.trip.packet =
    get_or_read_under c.args.plan.now.packets c.args.trip.packet (length c.args.plan.now.packets) packet no_packet
    (c.index-as_slice-trip.is ∙ ap (λ l. get_or l c.args.trip.packet packet) c.as_slice.ensures) c.requires.packet refl in
    let port : c.entropy_port.result ≡ entropy_port (flow_hash packet.tuple) = search rules in
    let wire : c.wire.result.now
    ≡ outer_packet (record {
      source = c.source_address.result;
      destination = c.endpoint_address.result;
      ttl = c.args.carried.hops;
      vni = c.args.trip.net % 16777216;
      source_port = c.entropy_port.result;
      sealed = c.args.carried.sealed;
    }) packet.taken.frame = search rules in
    underlay_more c.args.plan.now sents (sent_with c.args.plan.now c.args.here c.args.carried c.args.trip) c.args.out.now.items c.put_record.new.out.items was
    (c.in_ok-put_record.ensures
    ∙ ap (λ t. c.args.out.now.items ++ record_of little t)
    (packet_is c.args.plan.now c.args.here c.args.carried c.args.trip packet c.wire.result.now _ c.source_address.result c.endpoint_address.result c.entropy_port.result
    there c.source_address.ensures c.endpoint_address.ensures port wire (search rules)))
