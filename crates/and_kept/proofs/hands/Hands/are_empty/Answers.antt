use Rattle.and_kept.proofs.HandsLemmas.{empty_hands}
use Rattle.and_kept.proofs.hands.Hands.are_empty.Goals as goal

pub returns : goal.returns
returns c = empty_hands c.self.inside.items.items c.args.self.now c.self.inside.busy c.self.view_is c.self.invariant
