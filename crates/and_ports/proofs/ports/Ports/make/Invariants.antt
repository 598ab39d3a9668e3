use Rattle.std.proofs.Common.{◌≡◌, map, replicate}
use Rattle.and_policy.specs.declared.port.Port.TheVariants.{Absent}
use Rattle.and_ports.proofs.ports.Ports.make.Given as goal

abbrev pub invariant-loop-vm : goal.invariant-loop-vm
invariant-loop-vm l = map (λ row. row.items) l.by_vm.items ≡ replicate l._vm (replicate l.hosts Absent)
