use Rattle.std.proofs.Common.{◌∷◌, [], ◌++◌, List, None, sym, subst}
use Rattle.and_policy.specs.declared.entry.Op.{Op}
use Rattle.and_policy.specs.Fitting.{IsLog}
use Rattle.and_policy.specs.Programmes.{entries}
use Rattle.and_policy.specs.Registers.{IsRegister}
use Rattle.and_policy.proofs.Logging.{entry-op, order-op}
use Rattle.and_tables.proofs.host.note.Goals as goal

pub returns-in-Entry : goal.returns-in-Entry
returns-in-Entry c =
    subst (λ (op : Op). (p : List Op) → IsLog None (entries (p ++ op ∷ [])) → IsRegister c.args.register.now (entries p) → IsRegister c.append.new.self (entries (p ++ op ∷ [])))
    (sym c.in-Entry.is) (λ p log is. entry-op (IsRegister c.args.register.now) (IsRegister c.append.new.self) p c.in-Entry.entry (λ k. c.append.ensures None k) log is)

pub returns-in-Offload : goal.returns-in-Offload
returns-in-Offload c =
    subst (λ (op : Op). (p : List Op) → IsLog None (entries (p ++ op ∷ [])) → IsRegister c.args.register.now (entries p) → IsRegister c.args.register.now (entries (p ++ op ∷ [])))
    (sym c.in-Offload.is) (λ p log is. order-op (IsRegister c.args.register.now) p _ is)
