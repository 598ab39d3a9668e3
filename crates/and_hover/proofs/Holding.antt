-- An actor that holds nothing and is enabled may take a packet, where the book knows of nothing in its hand either.
use Rattle.std.proofs.Common.{◌≡◌, Option, None}
use Rattle.and_events.specs.declared.event.Actor.{Actor}
use Rattle.and_events.specs.Legal.{Enabled}
use Rattle.and_events.specs.Places.{Handles}
use Rattle.and_book.specs.Views.{BookView, MayTake, now}
use Rattle.and_book.proofs.Next.{may_take}
use Rattle.and_agree.proofs.After.{both_empty}
use Rattle.and_hover.specs.Holding.{HoldsAsBook}

pub ready : {A : Type 0} (b : BookView) (a : Actor) (hand : Option A) → Handles a → HoldsAsBook b a hand → hand ≡ None → Enabled b.plan (now b) a → MayTake b.plan (now b) a
ready b a hand handles holds none enabled = may_take b.plan (now b) a handles (both_empty _ hand holds none) enabled
