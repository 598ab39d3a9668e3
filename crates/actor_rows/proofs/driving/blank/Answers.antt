use Rattle.actor_rows.proofs.Waits.{waits_at_start}
use Rattle.actor_rows.proofs.driving.blank.Goals as goal

pub returns-in-Ok : goal.returns-in-Ok
returns-in-Ok c = waits_at_start c.in-Ok.book c.in-Ok.ensures.threads c.in-Ok.ensures.lines
