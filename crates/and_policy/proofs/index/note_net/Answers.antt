use Rattle.std.proofs.Common.{◌≡◌, ℕ, ◌∷◌, [], ◌++◌, List, Option, None, sym, subst}
use Rattle.and_policy.specs.declared.entry.Entry.{Entry}
use Rattle.and_policy.specs.Fitting.{fits}
use Rattle.and_policy.specs.Indexes.{AreNets}
use Rattle.and_policy.proofs.Netting.{nets-more, nets-other}
use Rattle.and_policy.proofs.index.note_net.Goals as goal

pub returns-in-AddNet : goal.returns-in-AddNet
returns-in-AddNet c =
    subst (λ (e : Entry). (hosts : Option ℕ) (k : List Entry) → fits hosts k e ≡ None → AreNets c.args.nets.now k → AreNets c.add.new.set (k ++ e ∷ []))
    (sym c.in-AddNet.is) (λ hosts k fit is. nets-more c.args.nets.now c.add.new.set hosts k c.in-AddNet.net fit is c.add.ensures.updates.0 c.add.ensures.len)

pub returns-in_default : goal.returns-in_default
returns-in_default c = λ hosts k fit is. nets-other c.args.nets.now k c.args.entry.now c.in_default.not-AddNet is
