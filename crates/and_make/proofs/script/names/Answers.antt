use Rattle.std.proofs.Common.{[], sym, ◌∙◌}
use Rattle.and_make.specs.Vms.{name_of}
use Rattle.and_make.proofs.Growing.{below_none, grown_more}
use Rattle.and_make.proofs.script.names.Goals as goal

pub loop-vm-init : goal.loop-vm-init
loop-vm-init c = c.new-names.ensures ∙ sym (below_none name_of)

pub loop-vm-preserved : goal.loop-vm-preserved
loop-vm-preserved c = grown_more name_of [] c.loop-vm.names _ c.loop-vm.vm _ c.loop-vm.invariant c.in_ok-name.ensures c.in_ok-push.ensures.ok
