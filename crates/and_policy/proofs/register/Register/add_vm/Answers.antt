use Rattle.and_policy.proofs.Registering.{register-vm}
use Rattle.and_policy.proofs.register.Register.add_vm.Goals as goal

pub returns : goal.returns
returns c = λ host hosts k fit placed is.
    register-vm c.args.self.now c.saturating_add-self.result c.put.new.map c.put-2.new.map c.put-3.new.map hosts k c.args.vm c.args.net c.args.mac c.args.ip host fit placed is
    c.saturating_add-self.ensures c.put.ensures.updates.0 c.put-2.ensures.updates.0 c.put-3.ensures.updates.0
