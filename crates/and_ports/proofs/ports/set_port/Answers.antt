use Rattle.std.proofs.Common.{refl, rules}
use Rattle.and_ports.proofs.RowLemmas.{rows_set}
use Rattle.and_ports.proofs.ports.set_port.Goals as goal

pub returns : goal.returns
returns c = rows_set c.args.by_vm.now.items c.args.host c.args.vm c.args.port c.index_mut-row.result.now _ (search rules) c.index_mut-row.ensures.value refl
