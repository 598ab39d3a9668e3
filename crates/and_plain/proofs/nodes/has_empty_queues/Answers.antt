use Rattle.and_plain.proofs.NodeLemmas.{host_queues, gate_queues}
use Rattle.and_plain.proofs.nodes.has_empty_queues.Goals as goal

pub returns-in-Host : goal.returns-in-Host
returns-in-Host c = rw c.in-Host.is (host_queues c.args.plan.now c.args.s.now c.in-Host.host c.has_empty_host.result c.has_empty_host.ensures)

pub returns-in-Gate : goal.returns-in-Gate
returns-in-Gate c = rw c.in-Gate.is (gate_queues c.args.plan.now c.args.s.now c.in-Gate.gate c.has_empty_gate.result c.has_empty_gate.ensures)
