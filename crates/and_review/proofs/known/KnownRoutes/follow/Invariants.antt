use Rattle.std.proofs.Common.{◌≡◌, ◌++◌, take}
use Rattle.and_review.proofs.known.KnownRoutes.follow.Given as goal

abbrev pub invariant-loop-entry : goal.invariant-loop-entry
invariant-loop-entry l = l.self ≡ l.initial.self ++ take l.entry-index l.entry-items
