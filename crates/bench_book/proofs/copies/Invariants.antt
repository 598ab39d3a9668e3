use Rattle.std.proofs.Common.{◌≡◌, length}
use Rattle.bench_book.proofs.copies.Given as goal

abbrev pub invariant-loop : goal.invariant-loop
invariant-loop l = length l.frames ≡ l.counter
