use Rattle.std.proofs.Common.{rules, ◌≡◌, drop, ap, ◌∙◌, arith}
use Rattle.std.proofs.lemmas.List.{drop_all}
use Rattle.and_events.specs.declared.event.Event.TheVariants.{Append}
use Rattle.and_events.specs.declared.event.Line.{Line}
use Rattle.and_events.specs.Run.{past}
use Rattle.and_trace.specs.Spelling.{title, trace}
use Rattle.and_trace.proofs.Printed.{printed, printed_all, put_next, fit_next, spelled_all, spells_all}
use Rattle.and_trace.proofs.printing.print_trace.Goals as goal

pub loop-line-init : goal.loop-line-init
loop-line-init c =
    let begun : c.put.new.text.items ≡ title = search rules in
    (ap (λ t. printed t c.args.lines.now) begun ∙ printed_all c.args.lines.now, λ fits. fits)

pub loop-line-preserved : goal.loop-line-preserved
loop-line-preserved c =
    let none : Line = record { seat = 0; event = Append 0 } in (
      put_next c.args.lines.now c.loop-line.line-index none c.loop-line.text.items c.put_line.new.text.items (trace (past c.args.lines.now)) c.loop-line-test.true
          c.in_ok-put_line.ensures.text c.loop-line.invariant.0,
      fit_next c.args.lines.now c.loop-line.line-index none c.loop-line-test.true c.in_ok-put_line.ensures.fits c.loop-line.invariant.1,
    )

pub returns-clause-spelled : goal.returns-clause-spelled
returns-clause-spelled c = spelled_all (drop c.loop-line.line-index c.args.lines.now) c.args.lines.now (drop_all c.loop-line.line-index c.args.lines.now (omega arith)) c.loop-line.invariant.1

pub returns-clause-readable : goal.returns-clause-readable
returns-clause-readable c = spells_all (drop c.loop-line.line-index c.args.lines.now) c.args.lines.now c.loop-line.text.items (drop_all c.loop-line.line-index c.args.lines.now (omega arith)) c.loop-line.invariant.1 c.loop-line.invariant.0
