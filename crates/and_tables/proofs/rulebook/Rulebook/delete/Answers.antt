use Rattle.and_tables.proofs.Ruling.{rulebook-less}
use Rattle.and_tables.proofs.rulebook.Rulebook.delete.Goals as goal

pub returns : goal.returns
returns c = λ k fit is. rulebook-less c.args.self.now (record { nets = c.delete_at.new.nets }) k c.args.net c.args.number is c.delete_at.ensures
