use Rattle.std.proofs.Common.{ℕ, ◌<◌}
use Rattle.and_events.specs.declared.event.Node.TheVariants as nodes
use Rattle.and_plain.specs.Asked.{Asked}
use Rattle.and_plain.proofs.nodes.hosts_pass.Given as goal

abbrev pub invariant-loop-host : goal.invariant-loop-host
invariant-loop-host l = (h : ℕ) → h < l.host → Asked l.plan l.s l.test (nodes.Host h)
