use Rattle.std.proofs.Common.{◌++◌, sym, ap, ◌∙◌}
use Rattle.and_capture.specs.Spelling.{little, record_of}
use Rattle.and_outputs.proofs.Growing.{delivered_more, delivered_same}
use Rattle.and_outputs.proofs.delivered.put_delivery.Goals as goal

pub returns-in_ok-put_record-in-Some : goal.returns-in_ok-put_record-in-Some
returns-in_ok-put_record-in-Some c = λ h was.
    delivered_more c.args.plan.now h c.args.event.now c.in-Some.packet c.args.out.now.items c.put_record.new.out.items (sym c.delivered_by.ensures ∙ c.in-Some.is) was
    (c.in_ok-put_record-in-Some.ensures ∙ ap (λ t. c.args.out.now.items ++ record_of little t) c.frame_of.ensures)

pub returns-in-None : goal.returns-in-None
returns-in-None c = λ h was. delivered_same c.args.plan.now h c.args.event.now c.args.out.now.items (sym c.delivered_by.ensures ∙ c.in-None.is) was
