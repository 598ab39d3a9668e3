-- What a turn asks for, and what it does.
use Rattle.std.specs.Prelude.{◌≡◌, length}
use Rattle.and_events.specs.declared.event.Actor.{Actor}
use Rattle.and_events.specs.declared.event.Event.{Event}
use Rattle.and_events.specs.Complete.{IsComplete}
use Rattle.and_events.specs.Fresh.{decision_of}
use Rattle.and_events.specs.Legal.{Enabled}
use Rattle.and_events.specs.Ordered.{IsAtInstalled, IsInPlainOrder}
use Rattle.and_events.specs.Places.{actor_of, IsActor}
use Rattle.and_events.specs.Run.{past}
use Rattle.and_others.specs.Ways.{IsWay, Ways, asked}
use Rattle.and_book.specs.Views.{BookView, now, with_line}
use Rattle.and_replay.specs.declared.parts.Parts.{Parts}
use Rattle.and_replay.specs.Parting.{AreParts}

-- it is the actor's turn, in a book without threads
pub record IsNext (b : BookView) (a : Actor) : Type 0 where
  pub threads : b.threads ≡ 0
  pub actor : IsActor b.plan.settings a
  pub enabled : Enabled b.plan (now b) a

-- the book has one line more: an event of the actor, at what its node has installed and by the way of its cache where it decides
pub record Adds (old new : BookView) (a : Actor) : Type 0 where
  pub event : Event
  pub line : new ≡ with_line old 0 event
  pub actor : actor_of event ≡ a
  pub number : IsAtInstalled old.plan (now old) (decision_of event)
  pub way : IsWay old.plan (past old.lines) (asked old.plan (now old) event)

-- a run under way: it is in the plain order, its ways are those of the caches, and what the actors keep is what it has to be
pub record IsUnderWay (b : BookView) (p : Parts) : Type 0 where
  pub threads : b.threads ≡ 0
  pub ordered : IsInPlainOrder b.plan (past b.lines)
  pub ways : Ways b.plan (past b.lines)
  pub ends : (now b).next ≡ length b.plan.steps → IsComplete b.plan (past b.lines)
  pub parts : AreParts b.plan (past b.lines) p
