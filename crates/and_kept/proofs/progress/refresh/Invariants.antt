use Rattle.std.proofs.Common.{◌≡◌, ℕ, ◌<◌, ◌≤◌, ◌⊎◌, length}
use Rattle.and_kept.specs.Nodes.{is_ready}
use Rattle.and_kept.specs.Numbers.{has}
use Rattle.and_kept.proofs.progress.refresh.Given as goal

-- those that were right are, and so are those that were looked at
abbrev pub invariant-loop-node : goal.invariant-loop-node
invariant-loop-node l = record {
  size : l.ready.size ≡ l.initial.ready.size;
  told : (k : ℕ) → k < length l.nodes.programmes.ops → ((l.fn.range.0 ≤ k) × (k < l.node)) ⊎ (has l.initial.ready k ≡ is_ready l.nodes.programmes l.held.items k) → has l.ready k ≡ is_ready l.nodes.programmes l.held.items k;
}
