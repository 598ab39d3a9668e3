use Rattle.std.proofs.Common.{◌++◌, sym, ap, ◌∙◌}
use Rattle.and_make.specs.Script.{items_of}
use Rattle.and_make.proofs.Growing.{script_none, script_more}
use Rattle.and_make.proofs.script.script.Goals as goal

pub loop-i-init : goal.loop-i-init
loop-i-init c = c.in_ok-items.ensures ∙ sym script_none

pub loop-i-preserved : goal.loop-i-preserved
loop-i-preserved c = c.in_ok-put_packet.ensures ∙ ap (λ l. l ++ items_of c.loop-i.i) c.loop-i.invariant ∙ sym (script_more c.loop-i.i)
