use Rattle.and_tables.proofs.Cases.{on_ok, on_err}
use Rattle.and_tables.proofs.Ruling.{rulebook-more, rulebook-as}
use Rattle.and_tables.proofs.rulebook.Rulebook.add.Goals as goal

pub returns-clause-ok : goal.returns-clause-ok
returns-clause-ok c =
    on_ok c.add_at.result _ _ (λ put k fit is. rulebook-more c.args.self.now (record { nets = c.add_at.new.nets }) k c.args.net c.args.rule fit is put) c.add_at.ensures.ok

pub returns-clause-err : goal.returns-clause-err
returns-clause-err c =
    on_err c.add_at.result _ _ (λ same k is. rulebook-as c.args.self.now (record { nets = c.add_at.new.nets }) k same is) c.add_at.ensures.err
