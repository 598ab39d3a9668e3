use Rattle.std.proofs.Common.{sym, ◌∙◌}
use Rattle.and_policy.proofs.Registering.{register-removed, live-found, fits-removed}
use Rattle.and_policy.proofs.register.Register.remove_vm.Goals as goal

pub returns-in-Some : goal.returns-in-Some
returns-in-Some c = λ hosts k fit placed is.
    register-removed c.args.self.now c.remove.new.self c.remove-in-Some.new.self c.remove-in-Some-2.new.self k c.args.vm c.in-Some.residence (sym c.remove.ensures.value ∙ c.in-Some.is) placed is
    c.remove.ensures.updates.0 c.remove-in-Some.ensures.updates.0 c.remove-in-Some-2.ensures.updates.0

pub returns-in-None : goal.returns-in-None
returns-in-None c = λ hosts k fit placed is. absurd (live-found c.args.self.now hosts k c.args.vm (fits-removed hosts k c.args.vm fit) is (sym c.remove.ensures.value ∙ c.in-None.is))
