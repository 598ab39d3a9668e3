use Rattle.std.proofs.Common.{◌∙◌, sym, subst}
use Rattle.and_pins.specs.Pinned.{IsLeast}
use Rattle.and_book.proofs.Ripe.{ripe_by}
use Rattle.and_book.proofs.enabling.has_ripe.Goals as goal

pub returns : goal.returns
returns c =
    let p = c.args.progress.now.programmes in
    let pins = c.args.pins.now in
    let least = subst (IsLeast p) (c.least.ensures.is ∙ sym c.requires.least) (c.least.ensures.least c.requires.nodes) in
    ripe_by p pins.pins pins.least c.first.result c.is_some.result least c.is_some.ensures c.first.ensures.some c.first.ensures.none
