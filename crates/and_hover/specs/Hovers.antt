-- A gateway's worker as contracts see it, and what its calls ask for and do.
use Rattle.std.specs.Prelude.{◌≡◌, ℕ, ◌≤◌, Bool, true, false, max, List, length, take, Option, Some, None, is_some, option_map}
use Rattle.and_policy.specs.declared.decision.GateDecision.{GateDecision}
use Rattle.and_policy.specs.declared.entry.Op.{Op}
use Rattle.and_policy.specs.Fitting.{IsLog}
use Rattle.and_policy.specs.Programmes.{entries}
use Rattle.and_events.specs.declared.event.Actor.TheVariants.{Gateway}
use Rattle.and_events.specs.declared.event.Endpoint.{Endpoint}
use Rattle.and_events.specs.declared.event.Endpoint.TheVariants as endpoints
use Rattle.and_events.specs.declared.event.Event.TheVariants.{Take}
use Rattle.and_events.specs.declared.event.Node.TheVariants.{Gate}
use Rattle.and_events.specs.declared.event.Queue.TheVariants.{Wire}
use Rattle.and_events.specs.Flow.{hand_at}
use Rattle.and_events.specs.Places.{hand_place, IsActor}
use Rattle.and_events.specs.State.{carried_at, installed_of, programme_of}
use Rattle.and_kept.specs.Settling.{gate_event}
use Rattle.and_book.specs.Settling.{gate_number}
use Rattle.and_book.specs.Views.{BookView, now, with_line, IsSeat, IsPacket}
use Rattle.and_agree.specs.declared.comparing.Settled.{Settled}
use Rattle.and_agree.specs.declared.comparing.Settled.TheVariants.{Done}
use Rattle.and_decide.specs.Deciding.{passage}
use Rattle.and_hover.specs.declared.hover.InHand.{InHand}

-- the gateway, how many operations are known to be the book's, and what is in hand
pub record HoverView : Type 0 where
  pub gateway : ℕ
  pub compared : ℕ
  pub hand : Option InHand

abbrev pub is_redirect : Endpoint → Bool
is_redirect (endpoints.Redirect g) = true
is_redirect _ = false

-- ---- with the book

-- what the gateway's worker has in hand is what the book has there, with its packet's parcel, network and address
pub record IsInHand (b : BookView) (gateway : ℕ) (x : InHand) : Type 0 where
  pub actor : IsActor b.plan.settings (Gateway gateway)
  pub held : hand_at (now b).flow.hands (hand_place b.plan.settings (Gateway gateway)) ≡ Some x.held
  pub packet : x.parcel.packet ≡ x.held.packet
  pub parcel : IsPacket b.plan x.parcel
  pub vni : x.vni ≡ (carried_at (now b) x.held.packet).net
  pub redirect : x.redirect ≡ is_redirect (carried_at (now b) x.held.packet).target

-- ---- take

-- the book has one line more, and its packet is in the worker's hand, undecided
pub record HasTaken (old new : BookView) (seat : ℕ) (before after : HoverView) : Type 0 where
  pub in_hand : InHand
  pub worker : after ≡ record before { hand = Some in_hand }
  pub line : new ≡ with_line old seat (Take (Gateway before.gateway) Wire in_hand.held.packet)
  pub queue : in_hand.held.queue ≡ Wire
  pub need : in_hand.held.need ≡ installed_of old.plan (now old) (Gate before.gateway)
  pub undecided : in_hand.decision ≡ None
  pub holds : IsInHand new before.gateway in_hand

-- ---- decide

-- a packet is in hand
abbrev pub HasPacket : HoverView → Type 0
HasPacket h = is_some h.hand ≡ true

-- how many operations a decision of it needs
abbrev pub need_in : Option InHand → ℕ
need_in None = 0
need_in (Some x) = x.held.need

abbrev pub needs : HoverView → ℕ
needs h = need_in h.hand

-- it was decided with these tables as they are
pub record IsDecided (tables : List Op) (x : InHand) (d : GateDecision) : Type 0 where
  pub is : x.decision ≡ Some d
  pub least : x.held.need ≤ length tables
  pub number : gate_number d ≡ length tables
  pub said : IsLog None (entries tables) → d ≡ passage tables x.redirect x.vni x.parcel

-- the packet that was in hand is decided now, and nothing else has changed
pub record HasDecided (tables : List Op) (before after : HoverView) : Type 0 where
  pub in_hand : InHand
  pub decision : GateDecision
  pub was : before.hand ≡ Some in_hand
  pub worker : after ≡ record before { hand = Some (record in_hand { decision = Some decision }) }
  pub decided : IsDecided tables (record in_hand { decision = Some decision }) decision

-- ---- settle

-- the first operations that were compared are the same
abbrev pub Agree : BookView → HoverView → List Op → Type 0
Agree b h tables = take h.compared tables ≡ take h.compared (programme_of b.plan (now b) (Gate h.gateway))

-- the seat is the worker's, it has the packet that the book has in its hand, decided with these tables as they are, and what it has
-- compared is the same
pub record MaySettle (b : BookView) (tables : List Op) (seat : ℕ) (h : HoverView) : Type 0 where
  pub is_seat : IsSeat b seat (Gateway h.gateway)
  pub in_hand : InHand
  pub has : h.hand ≡ Some in_hand
  pub holds : IsInHand b h.gateway in_hand
  pub decision : GateDecision
  pub decided : IsDecided tables in_hand decision
  pub agree : Agree b h tables

-- without what was decided of it
abbrev pub forgotten : Option InHand → Option InHand
forgotten hand = option_map (λ (x : InHand). record x { decision = None }) hand

-- the book has the one event of the decision more, and neither has anything in this hand any more
pub record IsSettled (old new : BookView) (tables : List Op) (seat : ℕ) (before after : HoverView) : Type 0 where
  pub in_hand : InHand
  pub decision : GateDecision
  pub was : (before.hand ≡ Some in_hand) × (in_hand.decision ≡ Some decision)
  pub line : new ≡ with_line old seat (gate_event old.plan.settings (now old).flow (Gateway before.gateway) in_hand.held.packet decision)
  pub worker : after ≡ record before { hand = None; compared = max before.compared (length tables) }
  pub empty : hand_at (now new).flow.hands (hand_place new.plan.settings (Gateway before.gateway)) ≡ None
  pub agree : Agree new after tables

-- what settling does, by its answer
abbrev pub HasSettled : BookView → BookView → List Op → ℕ → HoverView → HoverView → Settled → Type 0
HasSettled old new tables seat before after Done = IsSettled old new tables seat before after
HasSettled old new tables seat before after _ = (new ≡ old) × (after ≡ record before { hand = forgotten before.hand })
