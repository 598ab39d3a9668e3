use Rattle.std.proofs.Common.{ℕ, ◌+◌, List, length, drop, ap, ◌∙◌, arith}
use Rattle.and_capture.specs.Spelling.{record_len}
use Rattle.std.proofs.lemmas.Result.{err_from_is_err_and}
use Rattle.and_capture.proofs.Loop.{Keeps_none, Keeps_more, ends, is_full, is_done}
use Rattle.and_capture.proofs.reading.frames_of.Goals as goal

pub loop-rest-init : goal.loop-rest-init
loop-rest-init g c = Keeps_none g.O.ByteOrder.number_of c.args.bytes.now _ _ c.requires c.split_at.ensures.back c.new-frames.ensures.items

pub returns-then-len-ge-MAX_FRAMES : goal.returns-then-len-ge-MAX_FRAMES
returns-then-len-ge-MAX_FRAMES g c =
    is_full g.O.ByteOrder.number_of c.loop-rest.frames.items _ _ c.loop-rest.rest.now _ (omega arith) (grind arith) c.loop-rest.invariant.so_far

pub returns-in_err-frame : goal.returns-in_err-frame
returns-in_err-frame g c =
    let p = err_from_is_err_and c.from_residual.result c.from_residual.ensures.1 in
    rw (p.1, p.2) (ends g.O.ByteOrder.number_of _ c.loop-rest.frames.items _ _ c.loop-rest.rest.now _ (omega arith) (grind arith) c.in_err-frame.ensures.gives c.loop-rest.invariant.so_far)

pub loop-rest-preserved : goal.loop-rest-preserved
loop-rest-preserved g c =
    Keeps_more g.O.ByteOrder.number_of c.args.bytes.now c.loop-rest.rest.now c.split_at-in-loop-rest.result.1.now c.loop-rest.frames.items c.push.new.self.items c.in_ok-frame.frame c.loop-rest.invariant
    (grind arith) (omega arith) c.in_ok-frame.ensures.inside c.in_ok-frame.ensures.gives (c.split_at-in-loop-rest.ensures.back ∙ ap (λ (f : List ℕ). drop (record_len + length f) c.loop-rest.rest.now) c.as_bytes.ensures) (grind arith)

pub returns : goal.returns
returns g c =
    rw c.from_vec.ensures (is_done g.O.ByteOrder.number_of c.loop-rest.frames.items _ _ c.loop-rest.rest.now _ (grind arith) c.loop-rest.invariant.so_far)
