use Rattle.std.proofs.Common.{arith}
use Rattle.and_events.specs.declared.event.Event.TheVariants.{Append}
use Rattle.and_plain_fates.proofs.EndLemmas.{ends_with}
use Rattle.and_plain_fates.proofs.complete.ends.Goals as goal

pub returns-in-len1-up : goal.returns-in-len1-up
returns-in-len1-up c = ends_with c.args.events.now c.is_finish.result (Append 0) (omega arith) c.is_finish.ensures
