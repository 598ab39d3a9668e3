-- What a worker has in hand from `out` has all its hops, and so has what a coprocessor has in hand.
use Rattle.std.proofs.Common.{◌≡◌, ℕ, List}
use Rattle.and_events.specs.declared.event.Actor.{Actor}
use Rattle.and_events.specs.declared.event.Event.{Event}
use Rattle.and_events.specs.declared.event.Queue.TheVariants.{Out, Seal}
use Rattle.and_events.specs.declared.plan.Plan.{Plan}
use Rattle.and_events.specs.Places.{IsWorker}
use Rattle.and_events.specs.Legal.{Decides}
use Rattle.and_events.specs.Run.{Run}
use Rattle.and_events.specs.Sound.{IsSound}
use Rattle.and_events.specs.State.{state, carried_at}
use Rattle.and_laws.proofs.Actors.{takes_worker, takes_coprocessor}
use Rattle.and_laws.proofs.Staged.{stages, holder, in_hand_of}
use Rattle.and_book.specs.Settling.{MaySeal}

pub all_hops : (plan : Plan) (h : List Event) (a : Actor) (i at : ℕ) → IsSound plan → Run plan h → IsWorker a → Decides plan (state plan h) a i Out at → (carried_at (state plan h) i).hops ≡ plan.settings.hop_limit
all_hops plan h a i at sound r worker d = (holder plan h a i at Out (takes_worker a worker) d sound r (stages plan h sound r)).stage.1

pub sealed_hops : (plan : Plan) (h : List Event) (a : Actor) (i : ℕ) → IsSound plan → Run plan h → MaySeal plan (state plan h) a i → (carried_at (state plan h) i).hops ≡ plan.settings.hop_limit
sealed_hops plan h a i sound r may =
    (in_hand_of plan h a i may.need Seal may.actor (takes_coprocessor a may.coprocessor) may.holds sound r (stages plan h sound r)).stage.1
