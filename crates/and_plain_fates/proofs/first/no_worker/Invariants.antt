use Rattle.std.proofs.Common.{ℕ, ◌<◌}
use Rattle.and_events.specs.declared.event.Actor.TheVariants as actors
use Rattle.and_plain_fates.specs.First.{IsNotBefore}
use Rattle.and_plain_fates.proofs.first.no_worker.Given as goal

abbrev pub invariant-loop-index : goal.invariant-loop-index
invariant-loop-index l = (i : ℕ) → i < l.index → (h : ℕ) → h < l.plan.settings.hosts → IsNotBefore l.plan l.s l.actor (actors.Worker h i)
