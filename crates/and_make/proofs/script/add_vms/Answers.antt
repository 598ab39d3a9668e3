use Rattle.and_make.specs.Script.{vm}
use Rattle.and_make.proofs.Growing.{grown_none, grown_more}
use Rattle.and_make.proofs.script.add_vms.Goals as goal

pub loop-vm-init : goal.loop-vm-init
loop-vm-init c = grown_none vm c.args.items.now

pub loop-vm-preserved : goal.loop-vm-preserved
loop-vm-preserved c = grown_more vm c.args.items.now c.loop-vm.items _ c.loop-vm.vm _ c.loop-vm.invariant c.vm_entry.ensures c.in_ok-push.ensures.ok
