use Rattle.std.proofs.Common.{◌≡◌, true, false, sym, ◌∙◌}
use Rattle.and_plain.proofs.Stepping.{step_due, step_refused}
use Rattle.and_plain.proofs.legal.legal_step.Goals as goal

pub returns-then-is_due : goal.returns-then-is_due
returns-then-is_due c =
    let due = c.is_due.ensures.0 c.if-is_due.true in
    step_due c.args.plan.now c.args.s.now c.args.number c.in-Some.step (sym c.step_at.ensures ∙ c.in-Some.is) due.0 due.1

pub returns : goal.returns
returns c =
    step_refused c.args.plan.now c.args.s.now c.args.number c.in-Some.step (sym c.step_at.ensures ∙ c.in-Some.is)
    (λ due. let is : c.is_due.result ≡ true = c.is_due.ensures.1 due in let is_not : c.is_due.result ≡ false = c.if-is_due.false in let never : ⊥ = cc in never)
