use Rattle.and_parcel.proofs.Packets.{wrapped_reads}
use Rattle.and_parcel.proofs.outer.outer_packets_read_back.Goals as goal

pub returns : goal.returns
returns c = wrapped_reads
