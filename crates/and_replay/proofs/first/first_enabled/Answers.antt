use Rattle.and_events.specs.Run.{past}
use Rattle.and_laws.proofs.Unstuck.{goes_on}
use Rattle.and_replay.proofs.first.first_enabled.Goals as goal

pub unreachable-requires : goal.unreachable-requires
unreachable-requires c =
    let b = c.args.book.now in
    let g = goes_on b.plan (past b.lines) c.is_run.ensures.sound c.is_run.ensures.run c.requires.due in
    c.in-None.ensures.none g.actor g.is g.enabled
