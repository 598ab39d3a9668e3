use Rattle.std.proofs.Common.{rules, refl, subst, sym, vec_capacity}
use Rattle.and_kept.specs.Nodes.{IsFloor, heights}
use Rattle.and_kept.proofs.FloorLemmas.{replicated}
use Rattle.and_kept.proofs.NodesLemmas.{new_programme, progress_start, programmes_start}
use Rattle.and_kept.proofs.nodes.Nodes.make.Goals as goal

pub invariant_of-result : goal.invariant_of-result
invariant_of-result c = (
  progress_start c.in-Ok.log.items c.in_ok-nodes.nodes.items c.room.new.self c.args.nodes c.args.limit (vec_capacity c.in-Ok.log) (search rules) c.in_ok-nodes.ensures
      (c.room.ensures.kept _ c.new-placements.ensures) c.in_ok-room.ensures.ok (search rules) c.ranges.limit.fits,
  subst (λ nodes. IsFloor (heights nodes) 0 c.args.nodes) (sym c.in_ok-nodes.ensures) (replicated c.args.nodes (new_programme c.args.limit) refl),
)

pub returns-clause-programmes : goal.returns-clause-programmes
returns-clause-programmes c = programmes_start c.in-Ok.log.items c.in_ok-nodes.nodes.items c.args.nodes c.args.limit (search rules) c.in_ok-nodes.ensures
