use Rattle.std.proofs.Common.{rules}
use Rattle.and_ports.proofs.RowLemmas.{rows_cleared, rows_past}
use Rattle.and_ports.proofs.ports.clear.Goals as goal

pub returns-then-vm-len : goal.returns-then-vm-len
returns-then-vm-len c = rows_past c.args.by_vm.now.items c.args.vm _ (search rules)

pub returns : goal.returns
returns c = rows_cleared c.args.by_vm.now.items c.args.vm c.index_mut.result.now c.empty.new.row (search rules) c.index_mut.ensures.value c.empty.ensures
