use Rattle.std.proofs.Common.{◌∷◌, [], ◌++◌, List, None, sym, subst}
use Rattle.std.specs.Prelude.{OnOk}
use Rattle.and_policy.specs.declared.entry.Op.{Op}
use Rattle.and_policy.specs.Fitting.{IsLog}
use Rattle.and_policy.specs.Programmes.{entries}
use Rattle.and_policy.proofs.Logging.{entry-op, order-op}
use Rattle.and_tables.specs.Books.{IsRulebook}
use Rattle.and_tables.proofs.Cases.{on_ok}
use Rattle.and_tables.proofs.host.note_rules.Goals as goal

pub returns-in-Entry-clause-ok : goal.returns-in-Entry-clause-ok
returns-in-Entry-clause-ok c =
    subst (λ (op : Op). OnOk c.append.result ((p : List Op) → IsLog None (entries (p ++ op ∷ [])) → IsRulebook c.args.rules.now (entries p) → IsRulebook c.append.new.self (entries (p ++ op ∷ []))))
    (sym c.in-Entry.is)
    (on_ok c.append.result _ _ (λ step p log is. entry-op (IsRulebook c.args.rules.now) (IsRulebook c.append.new.self) p c.in-Entry.entry step log is) c.append.ensures.ok)

pub returns-in-Offload-clause-ok : goal.returns-in-Offload-clause-ok
returns-in-Offload-clause-ok c =
    subst (λ (op : Op). (p : List Op) → IsLog None (entries (p ++ op ∷ [])) → IsRulebook c.args.rules.now (entries p) → IsRulebook c.args.rules.now (entries (p ++ op ∷ [])))
    (sym c.in-Offload.is) (λ p log is. order-op (IsRulebook c.args.rules.now) p _ is)
