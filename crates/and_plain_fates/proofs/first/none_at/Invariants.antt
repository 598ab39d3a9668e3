use Rattle.std.proofs.Common.{ℕ, ◌<◌}
use Rattle.and_plain_fates.specs.First.{IsNotBefore, actor_at}
use Rattle.and_plain_fates.proofs.first.none_at.Given as goal

abbrev pub invariant-loop-number : goal.invariant-loop-number
invariant-loop-number l = (n : ℕ) → n < l.number → IsNotBefore l.plan l.s l.actor (actor_at l.post n)
