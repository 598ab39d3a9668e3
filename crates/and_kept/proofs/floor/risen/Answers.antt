use Rattle.and_kept.specs.Nodes.{heights}
use Rattle.and_kept.proofs.FloorLemmas.{found}
use Rattle.and_kept.proofs.floor.risen.Goals as goal

pub returns : goal.returns
returns c = λ old at there was up now floor.
    found (heights c.args.nodes.now) c.least_of-least.result c.count_at-count.result c.least_of-least.ensures.below c.least_of-least.ensures.there c.count_at-count.ensures
