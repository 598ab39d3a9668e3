use Rattle.and_book.specs.Views.{now}
use Rattle.and_book.proofs.Listing.{first_if, none_if}
use Rattle.and_book.proofs.book.Book.first_enabled.Goals as goal

pub returns-clause-first : goal.returns-clause-first
returns-clause-first c = first_if c.args.self.now.plan (now c.args.self.now) c.enabled_at.result c.enabled_at.ensures

pub returns-clause-none : goal.returns-clause-none
returns-clause-none c = none_if c.args.self.now.plan (now c.args.self.now) c.enabled_at.result c.enabled_at.ensures
