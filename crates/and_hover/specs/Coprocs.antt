-- A host's coprocessor as contracts see it, and what its calls ask for and do.
use Rattle.std.specs.Prelude.{◌≡◌, ℕ, Option, Some, None}
use Rattle.and_events.specs.declared.event.Actor.TheVariants.{Coproc}
use Rattle.and_events.specs.declared.event.Event.TheVariants.{Take}
use Rattle.and_events.specs.declared.event.Node.TheVariants.{Host}
use Rattle.and_events.specs.declared.event.Queue.TheVariants.{Seal}
use Rattle.and_events.specs.Flow.{hand_at}
use Rattle.and_events.specs.Places.{hand_place, IsActor}
use Rattle.and_events.specs.State.{installed_of}
use Rattle.and_book.specs.Settling.{sealed_event}
use Rattle.and_book.specs.Views.{BookView, now, with_line, IsSeat, IsPacket}
use Rattle.and_hover.specs.declared.coproc.ToSeal.{ToSeal}

-- the host, and what is in hand
pub record CoprocView : Type 0 where
  pub host : ℕ
  pub hand : Option ToSeal

-- what the host's coprocessor has in hand is what the book has there, with its packet's parcel
pub record IsInHand (b : BookView) (host : ℕ) (x : ToSeal) : Type 0 where
  pub actor : IsActor b.plan.settings (Coproc host)
  pub held : hand_at (now b).flow.hands (hand_place b.plan.settings (Coproc host)) ≡ Some x.held
  pub packet : x.parcel.packet ≡ x.held.packet
  pub parcel : IsPacket b.plan x.parcel

-- the book has one line more, and its packet is in the coprocessor's hand
pub record HasTaken (old new : BookView) (seat : ℕ) (before after : CoprocView) : Type 0 where
  pub in_hand : ToSeal
  pub coprocessor : after ≡ record before { hand = Some in_hand }
  pub line : new ≡ with_line old seat (Take (Coproc before.host) Seal in_hand.held.packet)
  pub queue : in_hand.held.queue ≡ Seal
  pub need : in_hand.held.need ≡ installed_of old.plan (now old) (Host before.host)
  pub holds : IsInHand new before.host in_hand

-- the seat is the coprocessor's, and it has the packet that the book has in its hand
pub record MaySettle (b : BookView) (seat : ℕ) (c : CoprocView) : Type 0 where
  pub is_seat : IsSeat b seat (Coproc c.host)
  pub in_hand : ToSeal
  pub has : c.hand ≡ Some in_hand
  pub holds : IsInHand b c.host in_hand

-- the book has the one event of the send more, and neither has anything in this hand any more
pub record IsSettled (old new : BookView) (seat : ℕ) (before after : CoprocView) : Type 0 where
  pub in_hand : ToSeal
  pub was : before.hand ≡ Some in_hand
  pub line : new ≡ with_line old seat (sealed_event old.plan.settings (now old).flow (Coproc before.host) in_hand.held.packet)
  pub coprocessor : after ≡ record before { hand = None }
  pub empty : hand_at (now new).flow.hands (hand_place new.plan.settings (Coproc before.host)) ≡ None
