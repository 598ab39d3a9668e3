use Rattle.std.proofs.Common.{◌∙◌, ◌+◌, ◌<◌, length, arith, sym, subst}
use Rattle.std.proofs.lemmas.List.{length-map}
use Rattle.and_kept.specs.Nodes.{height, heights}
use Rattle.and_kept.proofs.FloorLemmas.{IsLeastOf, height_at_place, least_all, least_kept, least_lower, least_none}
use Rattle.and_kept.proofs.floor.least_of.Goals as goal
use Rattle.and_kept.proofs.floor.least_of.Goals.{then-installed-least, else-installed-least}

pub loop-node-init : goal.loop-node-init
loop-node-init c =
    least_none (heights c.args.nodes.now) c.entries_installed-least.result (omega (arith, c.requires, length-map c.args.nodes.now height))
    (c.entries_installed-least.ensures ∙ height_at_place c.args.nodes.now 0 c.index-nodes-0.result c.requires c.index-nodes-0.is)

pub loop-node-preserved : goal.loop-node-preserved
loop-node-preserved c =
    let hs = heights c.args.nodes.now in
    let i = c.loop-node.node-index in
    let there = c.loop-node-test.true in
    let within : i < length hs = omega (arith, there, length-map c.args.nodes.now height) in
    let is = c.entries_installed-installed.ensures ∙ height_at_place c.args.nodes.now i c.node-item.result there c.node-item.is in
    elim c.if-installed-least.branch as (λ _. IsLeastOf hs (i + 1) c.if-installed-least.least) [
      | then-installed-least w ↦ subst (IsLeastOf hs (i + 1)) (sym w.least-is) (least_lower hs i c.loop-node.least c.entries_installed-installed.result within is w.if-installed-least.true c.loop-node.invariant)
      | else-installed-least w ↦ subst (IsLeastOf hs (i + 1)) (sym w.least-is) (least_kept hs i c.loop-node.least c.entries_installed-installed.result within is w.if-installed-least.false c.loop-node.invariant)
    ]

pub returns-clause-below : goal.returns-clause-below
returns-clause-below c =
    least_all (heights c.args.nodes.now) c.loop-node.node-index c.loop-node.least (omega (arith, c.loop-node-test.false, length-map c.args.nodes.now height)) c.loop-node.invariant

pub returns-clause-there : goal.returns-clause-there
returns-clause-there c = c.loop-node.invariant.there
