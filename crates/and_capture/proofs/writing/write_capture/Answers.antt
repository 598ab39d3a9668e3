use Rattle.std.proofs.Common.{◌≡◌, arith}
use Rattle.std.proofs.lemmas.Grind.{common_steps}
use Rattle.and_capture.specs.Spelling.{written_header, written}
use Rattle.and_capture.proofs.Files.{written_more, written_again}
use Rattle.and_capture.proofs.writing.write_capture.Goals as goal

pub loop-taken-preserved : goal.loop-taken-preserved
loop-taken-preserved c =
    written_more (written_header c.args.capture.now.nanos c.args.link) c.as_slice-frames.result.now c.loop-taken.taken-index c.taken-item.result c.loop-taken.out.items c.put_record.new.out.items
    c.loop-taken-test.true c.taken-item.is c.loop-taken.invariant c.in_ok-put_record.ensures

pub returns-clause-again : goal.returns-clause-again
returns-clause-again c =
    let w : c.loop-taken.out.items ≡ written c.args.link c.args.capture.now = grind (arith, common_steps) in
    λ one limits. written_again c.args.link c.args.capture.now c.loop-taken.out.items w one limits
