use Rattle.std.proofs.Common.{◌∙◌, ap}
use Rattle.std.proofs.Math.Seq.{map-set_same}
use Rattle.and_kept.specs.Nodes.{height, no_programme}
use Rattle.and_kept.proofs.FloorLemmas.{height_there}
use Rattle.and_kept.proofs.nodes.announce_at.Goals as goal

pub returns-clause-heights : goal.returns-clause-heights
returns-clause-heights c =
    map-set_same height c.args.nodes.now.items c.args.node c.announce.new.self no_programme
    (ap height c.announce.ensures ∙ height_there c.args.nodes.now.items c.args.node c.index_mut-entry.result.now c.requires c.index_mut-entry.ensures.value)
