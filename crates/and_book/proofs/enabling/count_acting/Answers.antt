use Rattle.std.proofs.Common.{◌∙◌, ap, arith}
use Rattle.and_events.specs.State.{NodeHolds}
use Rattle.and_kept.specs.Nodes.{is_ready}
use Rattle.and_kept.specs.Numbers.{count_below}
use Rattle.and_book.proofs.Numbered.{all_counted, counts_one}
use Rattle.and_book.proofs.enabling.count_acting.Goals as goal

pub returns : goal.returns
returns c =
    let t = c.args.traffic.now in
    let p = c.args.progress.now in
    let m : NodeHolds = record { install = p.held; forward = t.held } in
    omega (
      arith,
      c.ready_count.ensures.is ∙ ap (count_below (is_ready p.programmes p.held)) c.requires.nodes,
      c.busy_count.ensures.is,
      c.from.ensures ∙ counts_one c.args.controller,
      c.from-2.ensures ∙ counts_one c.args.driver,
      all_counted t.settings p.programmes m t.flow c.args.controller c.args.driver,
    )
