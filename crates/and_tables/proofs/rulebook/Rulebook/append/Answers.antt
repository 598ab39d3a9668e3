use Rattle.and_tables.proofs.Ruling.{rulebook-other}
use Rattle.and_tables.proofs.rulebook.Rulebook.append.Goals as goal

pub returns-in_default-clause-ok : goal.returns-in_default-clause-ok
returns-in_default-clause-ok c = λ k fit is. rulebook-other c.args.self.now k c.args.entry.now c.in_default.not-AddRule c.in_default.not-DelRule is
