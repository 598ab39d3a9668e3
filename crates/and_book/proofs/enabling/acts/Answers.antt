use Rattle.std.proofs.Common.{sym, subst}
use Rattle.and_events.specs.Places.{Handles}
use Rattle.and_book.specs.Enabling.{holds_in}
use Rattle.and_book.proofs.Enabled.{acts_as}
use Rattle.and_book.proofs.enabling.acts.Goals as goal

pub returns-in-Worker : goal.returns-in-Worker
returns-in-Worker c =
    let x = c.args.parts.now in
    acts_as x.traffic.now.settings x.packets.now x.progress.now.programmes (holds_in x) x.pins.now.pins x.traffic.now.flow c.args.due c.args.actor c.is_busy.result
    (subst Handles (sym c.in-Worker.is) tt) c.is_busy.ensures

pub returns-in-Coproc : goal.returns-in-Coproc
returns-in-Coproc c =
    let x = c.args.parts.now in
    acts_as x.traffic.now.settings x.packets.now x.progress.now.programmes (holds_in x) x.pins.now.pins x.traffic.now.flow c.args.due c.args.actor c.is_busy-in-Coproc.result
    (subst Handles (sym c.in-Coproc.is) tt) c.is_busy-in-Coproc.ensures

pub returns-in-Gateway : goal.returns-in-Gateway
returns-in-Gateway c =
    let x = c.args.parts.now in
    acts_as x.traffic.now.settings x.packets.now x.progress.now.programmes (holds_in x) x.pins.now.pins x.traffic.now.flow c.args.due c.args.actor c.is_busy-in-Gateway.result
    (subst Handles (sym c.in-Gateway.is) tt) c.is_busy-in-Gateway.ensures
