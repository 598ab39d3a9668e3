use Rattle.std.proofs.Common.{◌≡◌, ◌+◌, List, ◌∷◌, get_or, replicate, take, rules, sym, subst, ap, ◌∙◌}
use Rattle.and_events.specs.declared.event.Event.{Event}
use Rattle.and_events.specs.declared.event.Event.TheVariants.{Append}
use Rattle.and_events.specs.declared.event.Line.{Line}
use Rattle.and_events.specs.Run.{Run, past}
use Rattle.and_events.specs.State.{state, start}
use Rattle.and_report.specs.Installed.{installed_by}
use Rattle.and_report.proofs.Past.{past_more, run_at}
use Rattle.and_report.proofs.RunOrders.{installed_next, names_node}
use Rattle.and_report.proofs.run_orders.installed_after.Goals as goal

pub loop-line-init : goal.loop-line-init
unfolding state start
loop-line-init c =
    let zeros : c.in_ok-installed.installed.items ≡ replicate c.node_count.result 0 = search rules in
    zeros ∙ ap (λ n. replicate n 0) c.node_count.ensures

pub note_installed-requires-clause-node : goal.note_installed-requires-clause-node
unfolding Run
note_installed-requires-clause-node c =
    let none : Line = record { seat = 0; event = Append 0 } in
    let plan = c.args.plan.now in
    let i = c.loop-line.line-index in
    let h : List Event = past (take i c.args.lines.now) in
    let e : Event = (get_or c.args.lines.now i none).event in
    let run : Run plan (e ∷ h) = subst (Run plan) (past_more c.args.lines.now i none c.loop-line-test.true) (run_at plan c.args.lines.now (i + 1) c.requires.run) in
    names_node plan (state plan h) e run.1

pub loop-line-preserved : goal.loop-line-preserved
loop-line-preserved c =
    let none : Line = record { seat = 0; event = Append 0 } in
    let plan = c.args.plan.now in
    let i = c.loop-line.line-index in
    let h : List Event = past (take i c.args.lines.now) in
    let e : Event = (get_or c.args.lines.now i none).event in
    c.note_installed.ensures ∙ ap (λ l. installed_by plan.settings l e) c.loop-line.invariant ∙ sym (installed_next plan h e)
    ∙ ap (λ k. (state plan k).programmes.installed) (sym (past_more c.args.lines.now i none c.loop-line-test.true))
