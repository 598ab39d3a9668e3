use Rattle.std.proofs.Common.{◌≡◌, ℕ, ◌∷◌, [], ◌++◌, List, Option, None, sym, subst}
use Rattle.and_policy.specs.declared.entry.Entry.{Entry}
use Rattle.and_policy.specs.Fitting.{fits}
use Rattle.and_policy.specs.Placements.{ArePlacements}
use Rattle.and_policy.specs.Registers.{AreLive, IsRegister}
use Rattle.and_policy.proofs.Registering.{register-other}
use Rattle.and_policy.proofs.register.Register.note.Goals as goal

pub returns-in-AddVm : goal.returns-in-AddVm
returns-in-AddVm c =
    subst (λ (e : Entry). (hosts : Option ℕ) (k : List Entry) → fits hosts k e ≡ None → ArePlacements c.args.self.now.placements (k ++ e ∷ []) → AreLive c.args.self.now k → IsRegister c.add_vm.new.self (k ++ e ∷ []))
    (sym c.in-AddVm.is) (c.add_vm.ensures c.in-AddVm.host)

pub returns-in-RemoveVm : goal.returns-in-RemoveVm
returns-in-RemoveVm c =
    subst (λ (e : Entry). (hosts : Option ℕ) (k : List Entry) → fits hosts k e ≡ None → ArePlacements c.args.self.now.placements (k ++ e ∷ []) → AreLive c.args.self.now k → IsRegister c.remove_vm.new.self (k ++ e ∷ []))
    (sym c.in-RemoveVm.is) c.remove_vm.ensures

pub returns-in_default : goal.returns-in_default
returns-in_default c = λ hosts k fit placed is. register-other c.args.self.now k c.args.entry.now c.in_default.not-AddVm c.in_default.not-RemoveVm placed is
