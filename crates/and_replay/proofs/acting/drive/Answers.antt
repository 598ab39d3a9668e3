use Rattle.and_events.specs.declared.event.Actor.TheVariants.{Driver}
use Rattle.and_replay.proofs.Driven.{drives}
use Rattle.and_replay.proofs.Working.{seat_is}
use Rattle.and_replay.proofs.acting.drive.Goals as goal

pub turn-requires-clause-seat : goal.turn-requires-clause-seat
turn-requires-clause-seat c = let b = c.args.book.now in seat_is b.threads b.plan.settings Driver c.requires.next.threads

pub returns : goal.returns
returns c = record { adds = drives c.args.book.now c.turn.new.book (c.in_ok-_done.ensures.done (c.in_ok-_done.ensures.may.1 c.requires.next.enabled)) }
