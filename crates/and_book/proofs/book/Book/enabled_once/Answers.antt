use Rattle.and_book.specs.Views.{now}
use Rattle.and_book.proofs.Listing.{only_list}
use Rattle.and_book.proofs.book.Book.enabled_once.Goals as goal

pub returns : goal.returns
returns c = only_list c.args.self.now.plan (now c.args.self.now)
