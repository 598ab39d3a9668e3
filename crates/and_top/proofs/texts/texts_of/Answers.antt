use Rattle.std.proofs.Common.{◌≡◌, ℕ, List, subst, sym}
use Rattle.and_events.specs.declared.event.Line.{Line}
use Rattle.and_events.specs.declared.plan.Plan.{Plan}
use Rattle.and_events.specs.Run.{past}
use Rattle.and_outputs.specs.Delivered.{delivered}
use Rattle.and_outputs.specs.Underlay.{underlay}
use Rattle.and_report.specs.Report.{report}
use Rattle.and_trace.specs.Spelling.{HaveSpellings, IsSpelled, trace}
use Rattle.and_top.proofs.Headlines.{texts_are}
use Rattle.and_top.proofs.texts.texts_of.Goals as goal

-- a text that is told of what the book shows is one of the book's own plan and lines
shown : (text : List ℕ) (of : Plan → List Line → List ℕ) (p p' : Plan) (ls ls' : List Line) → p ≡ p' → ls ≡ ls' → text ≡ of p ls → text ≡ of p' ls'
shown text of p p' ls ls' plans lines is = subst (λ q. text ≡ of q ls') plans (subst (λ l. text ≡ of p l) lines is)

pub returns : goal.returns
returns c =
    let b = c.in_ok-book.book in
    let traced : c.in_ok-trace.trace.items ≡ trace (past b.lines) = subst (λ lines. c.in_ok-trace.trace.items ≡ trace (past lines)) c.lines.ensures c.in_ok-trace.ensures.text in
    let spelled : HaveSpellings (past b.lines) → IsSpelled (past b.lines) =
    subst (λ lines. HaveSpellings (past lines) → IsSpelled (past lines)) c.lines.ensures c.in_ok-trace.ensures.spelled in
    let arrived : c.in_ok-delivered.delivered.items ≡ delivered b.plan (past b.lines) =
    shown c.in_ok-delivered.delivered.items (λ p ls. delivered p (past ls)) _ b.plan _ b.lines c.plan-2.ensures c.lines-2.ensures c.in_ok-delivered.ensures.capture in
    let sent : c.in_ok-underlay.underlay.items ≡ underlay b.plan (past b.lines) =
    shown c.in_ok-underlay.underlay.items (λ p ls. underlay p (past ls)) _ b.plan _ b.lines c.plan-3.ensures c.lines-3.ensures c.in_ok-underlay.ensures.capture in
    let reported : c.in_ok-report.report.items ≡ report b.plan (past b.lines) =
    shown c.in_ok-report.report.items (λ p ls. report p (past ls)) _ b.plan _ b.lines c.plan-4.ensures c.lines-4.ensures c.in_ok-report.ensures.text in
    texts_are c.args.scenario c.args.capture c.in_ok-plan.plan b.plan (past b.lines)
    (record { trace = c.in_ok-trace.trace; delivered = c.in_ok-delivered.delivered; underlay = c.in_ok-underlay.underlay; report = c.in_ok-report.report })
    c.in_ok-plan.ensures.planned c.in_ok-plan.ensures.sound c.in_ok-book.ensures.run c.in_ok-book.ensures.complete c.in_ok-book.ensures.ordered c.in_ok-book.ensures.ways
    c.in_ok-book.ensures.plan spelled traced arrived sent reported
