-- Deletions of a network's rules and routes, whatever their numbers.
use Rattle.std.specs.Prelude.{ℕ, ◌==◌, Bool, false}
use Rattle.and_policy.specs.declared.entry.Entry.{Entry}
use Rattle.and_policy.specs.declared.entry.Entry.TheVariants.{DelRule, DelRoute}

abbrev pub deletes_some_rule : ℕ → Entry → Bool
deletes_some_rule net (DelRule n number) = n == net
deletes_some_rule net _ = false

abbrev pub deletes_some_route : ℕ → Entry → Bool
deletes_some_route net (DelRoute n number) = n == net
deletes_some_route net _ = false
