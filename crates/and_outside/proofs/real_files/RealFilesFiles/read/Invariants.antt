use Rattle.std.proofs.Common.{◌≡◌, ◌≤◌, ◌+◌, ◌-◌, ◌^◌, min, length}
use Rattle.and_outside.specs.Causes.{raised}
use Rattle.and_outside.proofs.real_files.RealFilesFiles.read.Given as goal

-- the counts of faults stand, and what was read was taken and fits the limit
abbrev pub invariant-loop : goal.invariant-loop
invariant-loop g l = (l.self.counts.read_faults ≡ l.fn.self.counts.read_faults) × (l.self.counts.write_faults ≡ l.fn.self.counts.write_faults)
    × (l.fn.self.counts.taken ≤ l.self.counts.taken)
    × (min (l.fn.self.counts.taken + length l.bytes.items) (2 ^ 64 - 1) ≤ l.self.counts.taken) × (length l.bytes.items ≤ l.limit)
    × (l.self.calls ≡ raised 1 l.fn.self.calls) × (l.self.before ≡ l.fn.self.counts)
