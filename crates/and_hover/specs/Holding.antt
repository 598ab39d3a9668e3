-- What a book and an actor both know to be in the actor's hand.
use Rattle.std.specs.Prelude.{◌≡◌, Option, is_some}
use Rattle.and_events.specs.declared.event.Actor.{Actor}
use Rattle.and_events.specs.Flow.{hand_at}
use Rattle.and_events.specs.Places.{hand_place}
use Rattle.and_book.specs.Views.{BookView, now}

-- the book and the actor both have a packet in this hand, or neither has
abbrev pub HoldsAsBook : {A : Type 0} → BookView → Actor → Option A → Type 0
HoldsAsBook b a hand = is_some (hand_at (now b).flow.hands (hand_place b.plan.settings a)) ≡ is_some hand
