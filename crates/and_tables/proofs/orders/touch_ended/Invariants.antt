use Rattle.std.proofs.Common.{◌≡◌, ℕ}
use Rattle.and_policy.specs.declared.entry.Order.{Order}
use Rattle.and_tables.specs.Chains.{IsChain, link_at}
use Rattle.and_tables.specs.Numbers.{at, at_pair}
use Rattle.and_tables.specs.Orders.{AreTouched}
use Rattle.and_tables.proofs.Walking.{IsWalked}
use Rattle.and_tables.proofs.orders.touch_ended.Given as goal

abbrev pub invariant-loop-link : goal.invariant-loop-link
invariant-loop-link l = record {
  touched : AreTouched l.ops (at l.touched);
  walked : (by : Order → ℕ) (key : ℕ) → l.fn.last ≡ link_at l.chain.last key → IsChain by l.ops l.chain → IsWalked by l.ops l.ticks (at l.entered) (at_pair l.ordered) key l.link l.here (at l.fn.touched) (at l.touched);
}

abbrev pub decreases-loop-link : goal.decreases-loop-link
decreases-loop-link l = l.link.number
