use Rattle.std.proofs.Common.{◌≡◌, take}
use Rattle.std.specs.Prelude.{replicate}
use Rattle.and_policy.specs.declared.port.Port.TheVariants.{Absent}
use Rattle.and_ports.proofs.ports.empty.Given as goal

abbrev pub invariant-loop-port : goal.invariant-loop-port
invariant-loop-port l = take l.port-index l.port-items ≡ replicate l.port-index Absent
