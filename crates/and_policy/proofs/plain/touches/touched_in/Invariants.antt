use Rattle.std.proofs.Common.{◌≡◌, ◌≤◌, length}
use Rattle.and_policy.specs.Programmes.{touched}
use Rattle.and_policy.proofs.plain.touches.touched_in.Given as goal

abbrev pub invariant-loop-place : goal.invariant-loop-place
invariant-loop-place l = (l.place ≤ length l.ops) × (touched l.ops l.count l.net ≡ touched l.ops l.place l.net)

abbrev pub decreases-loop-place : goal.decreases-loop-place
decreases-loop-place l = l.place
