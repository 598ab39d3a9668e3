use Rattle.std.proofs.Common.{ap, ◌∙◌}
use Rattle.and_make.specs.Frames.{generator, words, frames_from}
use Rattle.and_make.proofs.Drawing.{drawn_none, drawn_more, drawn_all}
use Rattle.and_make.proofs.frames.frames.Goals as goal

pub loop-i-init : goal.loop-i-init
loop-i-init c = drawn_none c.args.n c.new-rng.result c.new-frames.result c.new-frames.ensures (c.new-rng.ensures ∙ ap generator c.from.ensures)

pub loop-i-preserved : goal.loop-i-preserved
loop-i-preserved c =
    drawn_more c.loop-i.i c.args.n c.loop-i.rng c.next_taken.new.rng c.loop-i.frames c.add.new.frames (frames_from 0 (words c.args.n)) c.in_ok-taken.taken
    c.loop-i-test.true c.loop-i.invariant c.in_ok-taken.ensures.taken c.next_taken.ensures.drawn c.in_ok-add.ensures

pub returns : goal.returns
returns c = drawn_all c.loop-i.i c.args.n c.loop-i.rng c.loop-i.frames (frames_from 0 (words c.args.n)) c.loop-i-test.false c.loop-i.invariant
