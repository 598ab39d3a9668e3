use Rattle.std.proofs.Common.{◌≡◌, Option, length, subst, sym}
use Rattle.std.specs.Prelude.{IfSome}
use Rattle.and_policy.specs.declared.decision.Outcome.{Outcome}
use Rattle.and_policy.specs.Caches.{said}
use Rattle.and_decide.proofs.Remembered.{right_answer}
use Rattle.and_decide.proofs.asking.remembered.Goals as goal

pub returns-then-is_asked-clause-said : goal.returns-then-is_asked-clause-said
returns-then-is_asked-clause-said c = λ right.
    let t = c.args.tables.now in
    subst (λ (r : Option Outcome). IfSome r (λ o. o ≡ said t.gateways t.ops (length t.ops) c.args.key.now)) (sym c.look.ensures) (right_answer t c.args.cache.now c.args.key.now right)
