use Rattle.std.proofs.Common.{◌++◌, arith}
use Rattle.and_top.proofs.Puts.{tells-after, tells-first, tells-last}
use Rattle.and_top.proofs.line.tell.Goals as goal

pub returns-then-not-put_text : goal.returns-then-not-put_text
returns-then-not-put_text g c =
    let line = c.args.line.now in
    tells-first 1 3 line.head.now (line.name.now ++ line.tail.now) _ _ (omega arith) c.if-not-put_text.ensures.part

pub returns-then-not-put : goal.returns-then-not-put
returns-then-not-put g c =
    let line = c.args.line.now in
    tells-after 1 2 line.head.now (line.name.now ++ line.tail.now) _ _ _ c.if-not-put_text.ensures.done c.put_text.ensures.counts
    (tells-first 1 2 line.name.now line.tail.now _ _ (omega arith) c.if-not-put.ensures.part)

pub returns : goal.returns
returns g c =
    let line = c.args.line.now in
    tells-after 1 2 line.head.now (line.name.now ++ line.tail.now) _ _ _ c.if-not-put_text.ensures.done c.put_text.ensures.counts
    (tells-after 1 1 line.name.now line.tail.now _ _ _ c.if-not-put.ensures.done c.put.ensures.counts
    (tells-last c.put_text-2.result line.tail.now _ _ c.put_text-2.ensures.done c.put_text-2.ensures.part))
