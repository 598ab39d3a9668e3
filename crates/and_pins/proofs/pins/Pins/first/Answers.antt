use Rattle.std.proofs.Common.{◌≡◌, ◌<◌, get_or, length, subst, sym, rules}
use Rattle.and_pins.specs.declared.pin.Pin.{Pin}
use Rattle.and_pins.specs.Pinned.{IsFirst, NoneIsRipe, PinsView}
use Rattle.and_pins.proofs.Firsts.{first_is, none_is}
use Rattle.and_pins.proofs.pins.Pins.first.Goals as goal

pub returns-then-self-len-clause-none : goal.returns-then-self-len-clause-none
returns-then-self-len-clause-none c =
    subst (λ (v : PinsView). NoneIsRipe v.pins v.least) c.self.view_is
    (none_is c.self.inside.pins.items c.self.inside.least c.self.inside.first c.self.invariant.first (search rules))

pub returns-clause-some : goal.returns-clause-some
returns-clause-some c =
    let pins = c.self.inside.pins.items in
    let at = c.self.inside.first in
    let pin = c.index-pin.result.now in
    let inside : at < length pins = search rules in
    let is = c.index-pin.ensures in
    let e : get_or pins at pin ≡ pin = sym is in
    subst (λ (v : PinsView). IsFirst v.pins v.least pin.host pin.vm) c.self.view_is
    (subst (λ (p : Pin). IsFirst pins c.self.inside.least p.host p.vm) e (first_is pins c.self.inside.least at pin c.self.invariant.ascend c.self.invariant.first inside))
