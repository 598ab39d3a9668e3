use Rattle.std.proofs.Common.{◌∙◌, ap, sym}
use Rattle.std.proofs.lemmas.List.{map-set, get_or-set_same}
use Rattle.std.specs.Prelude.{slice_set}
use Rattle.and_kept.specs.Nodes.{height, heights, no_programme}
use Rattle.and_kept.proofs.nodes.install_at.Goals as goal

pub returns-clause-heights : goal.returns-clause-heights
returns-clause-heights c =
    map-set height c.args.nodes.now.items c.args.node c.install.new.self
    ∙ ap (λ m. slice_set (heights c.args.nodes.now.items) c.args.node (height m)) (sym (get_or-set_same c.args.nodes.now.items c.args.node c.install.new.self no_programme c.requires))
