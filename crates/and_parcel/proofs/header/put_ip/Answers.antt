use Rattle.std.proofs.Common.{length, ap, sym, ◌∙◌}
use Rattle.std.proofs.lemmas.List.{length-take-le}
use Rattle.and_parcel.proofs.header.put_ip.Goals as goal

pub copy_from_slice-requires : goal.copy_from_slice-requires
copy_from_slice-requires c = length-take-le 20 c.args.out.now c.requires.room ∙ sym (ap length c.ip_header-header.ensures.header)
