use Rattle.std.proofs.Common.{ℕ, subst}
use Rattle.std.specs.Prelude.{IfNone}
use Rattle.and_events.specs.Legal.{IsRipe}
use Rattle.and_book.specs.Views.{now}
use Rattle.and_driver.proofs.Due.{no_end}
use Rattle.and_driver.proofs.driver.control.Goals as goal

pub returns-in-None-clause-may : goal.returns-in-None-clause-may
returns-in-None-clause-may c =
    let b = c.args.book.now in
    (λ t. absurd (cc), λ e. absurd (no_end b.plan (now b) (subst (λ o. IfNone o ((host vm : ℕ) → IsRipe b.plan (now b) host vm → ⊥)) c.in-None.is c.next_hairpin.ensures.none) e))
