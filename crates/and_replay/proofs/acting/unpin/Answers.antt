use Rattle.and_events.specs.declared.event.Actor.TheVariants.{Controller}
use Rattle.and_replay.proofs.Driven.{unpins}
use Rattle.and_replay.proofs.Working.{seat_is}
use Rattle.and_replay.proofs.acting.unpin.Goals as goal

pub control-requires-clause-seat : goal.control-requires-clause-seat
control-requires-clause-seat c = let b = c.args.book.now in seat_is b.threads b.plan.settings Controller c.requires.next.threads

pub returns : goal.returns
returns c = record { adds = unpins c.args.book.now c.control.new.book (c.in_ok-_done.ensures.done (c.in_ok-_done.ensures.may.1 c.requires.next.enabled)) }
