use Rattle.actor_rows.proofs.Waits.{waits_driven, waits_still}
use Rattle.actor_rows.proofs.driving.drive.Goals as goal

pub returns : goal.returns
returns c =
    waits_driven c.room.new.self c.turn.new.book c.in_ok-_done._done (waits_still c.args.book.now c.room.new.self c.requires c.room.ensures.lines c.room.ensures.plan c.room.ensures.threads)
    c.is_run.ensures.sound c.is_run-2.ensures.run c.in_ok-_done.ensures.done c.in_ok-_done.ensures.idle
