use Rattle.std.proofs.Common.{length, ap, ◌∙◌, arith}
use Rattle.and_make.proofs.Ranges.{made_is, length_frames}
use Rattle.and_make.proofs.making.make.Goals as goal

pub returns-clause-count : goal.returns-clause-count
returns-clause-count c = ap length c.in_ok-frames.ensures ∙ length_frames c.args.n

pub returns-clause-ranges : goal.returns-clause-ranges
returns-clause-ranges c =
    let count = length_frames c.args.n in
    let same = ap length c.in_ok-frames.ensures in
    (made_is c.args.n c.in_ok-names.names c.in_ok-items.items c.requires.1 c.in_ok-names.ensures c.in_ok-items.ensures, omega (arith, count, same))
