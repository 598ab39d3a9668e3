use Rattle.std.proofs.Common.{◌∙◌, ap, subst}
use Rattle.and_events.specs.declared.event.Actor.TheVariants.{Coproc}
use Rattle.and_hover.specs.Coprocs.{CoprocView}
use Rattle.and_replay.proofs.Passing.{took_not}
use Rattle.and_replay.proofs.Sealing.{as_book, may_settle, settle_adds, settle_seals, take_adds, take_seals}
use Rattle.and_replay.proofs.Working.{seat_is}
use Rattle.and_replay.proofs.acting.seal.Goals as goal

pub take-requires-clause-seat : goal.take-requires-clause-seat
take-requires-clause-seat c = let b = c.args.book.now in seat_is b.threads b.plan.settings (Coproc c.args.coproc.now.host) c.requires.next.threads

pub take-requires-clause-hands : goal.take-requires-clause-hands
take-requires-clause-hands c = as_book c.args.book.now c.args.coproc.now c.requires.coproc
