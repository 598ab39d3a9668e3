use Rattle.std.proofs.Common.{◌≡◌, ℕ, ◌<◌, length, take, get_or}
use Rattle.std.specs.Prelude.{◌==◌}
use Rattle.std.specs.List.{count_by}
use Rattle.and_report.proofs.vms.sent.Given as goal

abbrev pub invariant-loop-packet : goal.invariant-loop-packet
invariant-loop-packet l = record {
  len : length l.sent.items ≡ length l.plan.names;
  counts : (vm : ℕ) → vm < length l.plan.names → get_or l.sent.items vm 0 ≡ count_by (λ p. p.vm == vm) (take l.packet-index l.plan.packets);
}
