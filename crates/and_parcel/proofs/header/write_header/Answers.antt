use Rattle.std.proofs.Common.{◌∙◌, drop, ap, arith, length-drop}
use Rattle.and_parcel.specs.Parcels.{envelope}
use Rattle.and_parcel.specs.Reading.{reading}
use Rattle.and_parcel.specs.Sealing.{checksummed}
use Rattle.and_parcel.proofs.Headers.{sealed_packet, unsealed_packet}
use Rattle.and_parcel.proofs.Packets.{wrapped_reads}
use Rattle.and_parcel.proofs.header.write_header.Goals as goal

pub returns-then-outer-clause-reads : goal.returns-then-outer-clause-reads
returns-then-outer-clause-reads c =
    let frame = drop 36 c.args.bytes.now in
    let packet = c.put_checksum.ensures ∙ ap checksummed c.write_open.ensures.packet ∙ sealed_packet (envelope c.args.outer) frame c.if-outer.true in
    ap reading packet ∙ wrapped_reads c.args.outer frame c.write_open.ensures.range (omega (arith, length-drop 36 c.args.bytes.now, c.requires.short))

pub returns-else-outer-clause-reads : goal.returns-else-outer-clause-reads
returns-else-outer-clause-reads c =
    let frame = drop 36 c.args.bytes.now in
    let packet = c.write_open.ensures.packet ∙ unsealed_packet (envelope c.args.outer) frame c.if-outer.false in
    ap reading packet ∙ wrapped_reads c.args.outer frame c.write_open.ensures.range (omega (arith, length-drop 36 c.args.bytes.now, c.requires.short))
