use Rattle.std.proofs.Common.{◌∙◌, ap}
use Rattle.std.proofs.Math.Seq.{map-set_same}
use Rattle.and_kept.specs.Nodes.{height, no_programme}
use Rattle.and_kept.proofs.FloorLemmas.{height_there}
use Rattle.and_kept.proofs.nodes.make_room_in.Goals as goal

pub returns-clause-heights : goal.returns-clause-heights
returns-clause-heights c =
    map-set_same height c.args.nodes.now.items c.args.node c.room_for.new.self no_programme
    (ap height c.room_for.ensures.programme ∙ height_there c.args.nodes.now.items c.args.node c.index_mut-programme.result.now c.requires.node c.index_mut-programme.ensures.value)
