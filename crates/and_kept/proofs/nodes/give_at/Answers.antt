use Rattle.std.proofs.Common.{◌∙◌}
use Rattle.std.proofs.Math.Seq.{map-set_same}
use Rattle.and_kept.specs.Nodes.{height, no_programme}
use Rattle.and_kept.proofs.FloorLemmas.{height_there}
use Rattle.and_kept.proofs.nodes.give_at.Goals as goal

pub returns-clause-heights : goal.returns-clause-heights
returns-clause-heights c =
    map-set_same height c.args.nodes.now.items c.args.node c.give.new.self no_programme
    (c.give.ensures.height ∙ height_there c.args.nodes.now.items c.args.node c.index_mut-programme.result.now c.requires.node c.index_mut-programme.ensures.value)
