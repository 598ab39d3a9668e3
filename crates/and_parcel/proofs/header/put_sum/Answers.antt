use Rattle.std.proofs.Common.{take, sym, refl, arith}
use Rattle.std.proofs.lemmas.List.{length-take, take-append-drop}
use Rattle.and_policy.specs.Numbers.{bytes_of}
use Rattle.and_parcel.proofs.Headers.{put_next}
use Rattle.and_parcel.proofs.header.put_sum.Goals as goal

pub returns : goal.returns
returns c =
    put_next 26 2 _ (take 26 c.args.bytes.now) (bytes_of 2 c.args.sum) c.args.bytes.now c.args.bytes.now _ (omega (arith, length-take 26 c.args.bytes.now)) refl
    (sym (take-append-drop 26 c.args.bytes.now)) c.write_u16.ensures
