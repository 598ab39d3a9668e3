-- A host's worker as contracts see it, and what its calls ask for and do.
use Rattle.std.specs.Prelude.{◌≡◌, ℕ, ◌≤◌, Bool, true, false, max, List, ◌++◌, length, take, Option, Some, None, is_some, option_map}
use Rattle.and_policy.specs.declared.cached.Cached.{Cached}
use Rattle.and_policy.specs.declared.decision.Decision.{Decision}
use Rattle.and_policy.specs.declared.decision.Outcome.TheVariants as outcomes
use Rattle.and_policy.specs.declared.decision.Way.{Way}
use Rattle.and_policy.specs.declared.decision.Way.TheVariants as ways
use Rattle.and_policy.specs.declared.entry.FlowKey.{FlowKey}
use Rattle.and_policy.specs.declared.entry.Op.{Op}
use Rattle.and_policy.specs.Caches.{Cache, cache_by, decided, is_cached, way}
use Rattle.and_policy.specs.Fitting.{IsLog}
use Rattle.and_policy.specs.Programmes.{entries}
use Rattle.and_parcel.specs.Parcels.{ParcelView}
use Rattle.and_events.specs.declared.event.Actor.{Actor}
use Rattle.and_events.specs.declared.event.Actor.TheVariants as actors
use Rattle.and_events.specs.declared.event.Event.{Event}
use Rattle.and_events.specs.declared.event.Event.TheVariants.{Take}
use Rattle.and_events.specs.declared.event.Node.TheVariants.{Host}
use Rattle.and_events.specs.declared.event.Queue.{Queue}
use Rattle.and_events.specs.declared.event.Queue.TheVariants.{Out, Wire, Seal}
use Rattle.and_events.specs.declared.plan.Plan.{Plan}
use Rattle.and_events.specs.Flow.{hand_at}
use Rattle.and_events.specs.Places.{hand_place, IsActor}
use Rattle.and_events.specs.State.{State, carried_at, installed_of, programme_of}
use Rattle.and_kept.specs.Moves.{source_in}
use Rattle.and_book.specs.Settling.{MaySettleEgress, MaySettleIngress, egress_event, ingress_event}
use Rattle.and_book.specs.Views.{BookView, now, with_line, IsSeat, IsPacket}
use Rattle.and_agree.specs.declared.comparing.Settled.{Settled}
use Rattle.and_agree.specs.declared.comparing.Settled.TheVariants.{Done}
use Rattle.and_tables.specs.HostViews.{HostView}
use Rattle.and_decide.specs.Deciding.{AreRight, arrival, departure, landing_key, leaving_key, rules_landing, rules_leaving}
use Rattle.and_worker.specs.declared.worker.InHand.{InHand}

-- the host, the number there, the flow cache, how many operations are known to be the book's, and what is in hand
pub record WorkerView : Type 0 where
  pub host : ℕ
  pub index : ℕ
  pub cache : Cache
  pub compared : ℕ
  pub hand : Option InHand

abbrev pub actor_of : WorkerView → Actor
actor_of w = actors.Worker w.host w.index

-- ---- with the book

-- the book and the worker both have a packet in this worker's hand, or neither has
abbrev pub HoldsAsBook : BookView → WorkerView → Type 0
HoldsAsBook b w = is_some (hand_at (now b).flow.hands (hand_place b.plan.settings (actor_of w))) ≡ is_some w.hand

-- what the actor has in hand is what the book has there, with its packet's parcel and network
pub record IsInHand (b : BookView) (a : Actor) (x : InHand) : Type 0 where
  pub actor : IsActor b.plan.settings a
  pub held : hand_at (now b).flow.hands (hand_place b.plan.settings a) ≡ Some x.held
  pub packet : x.parcel.packet ≡ x.held.packet
  pub parcel : IsPacket b.plan x.parcel
  pub vni : x.vni ≡ (carried_at (now b) x.held.packet).net

-- ---- take

-- the book has one line more, and its packet is in the worker's hand, undecided
pub record HasTaken (old new : BookView) (seat : ℕ) (before after : WorkerView) : Type 0 where
  pub in_hand : InHand
  pub worker : after ≡ record before { hand = Some in_hand }
  pub line : new ≡ with_line old seat (Take (actor_of before) in_hand.held.queue in_hand.held.packet)
  pub queue : in_hand.held.queue ≡ source_in old.plan.settings (now old).flow (actor_of before)
  pub need : in_hand.held.need ≡ installed_of old.plan (now old) (Host before.host)
  pub undecided : in_hand.decision ≡ None
  pub holds : IsInHand new (actor_of before) in_hand

-- ---- decide

-- a packet is in hand, the tables are the host's, and each entry of the cache is what their first operations say, as many as its stamp
pub record MayDecide (t : HostView) (w : WorkerView) : Type 0 where
  pub has : is_some w.hand ≡ true
  pub host : t.host ≡ w.host
  pub right : AreRight t w.cache

-- how many operations a decision of it needs
abbrev pub need_in : Option InHand → ℕ
need_in None = 0
need_in (Some x) = x.held.need

abbrev pub needs : WorkerView → ℕ
needs w = need_in w.hand

-- what the tables and the cache say of a packet from this queue: one from the VMs leaves, any other has come
abbrev pub decision_by : Queue → HostView → Cache → ParcelView → ℕ → Decision
decision_by Out t c parcel vni = departure t c parcel
decision_by _ t c parcel vni = arrival t c vni parcel

abbrev pub decision_of : HostView → Cache → InHand → Decision
decision_of t c x = decision_by x.held.queue t c x.parcel x.vni

-- how many live rules the network has that decides
abbrev pub rules_by : Queue → HostView → ParcelView → ℕ → ℕ
rules_by Out t parcel vni = rules_leaving t parcel
rules_by _ t parcel vni = rules_landing t vni

abbrev pub rules_of : HostView → InHand → ℕ
rules_of t x = rules_by x.held.queue t x.parcel x.vni

abbrev pub rules_in : HostView → Option InHand → ℕ
rules_in t None = 0
rules_in t (Some x) = rules_of t x

abbrev pub rules_for : HostView → WorkerView → ℕ
rules_for t w = rules_in t w.hand

-- the packet in hand was decided fast
abbrev pub is_fast : Way → Bool
is_fast ways.Fast = true
is_fast ways.Slow = false

abbrev pub IsFastIn : Option InHand → Type 0
IsFastIn None = ⊥
IsFastIn (Some x) = option_map (λ (d : Decision). d.way) x.decision ≡ Some ways.Fast

abbrev pub IsFast : WorkerView → Type 0
IsFast w = IsFastIn w.hand

-- it was decided with these tables as they are, and with this cache
pub record IsDecided (t : HostView) (c : Cache) (x : InHand) (d : Decision) : Type 0 where
  pub is : x.decision ≡ Some d
  pub least : x.held.need ≤ length t.ops
  pub number : d.at ≡ length t.ops
  pub said : IsLog None (entries t.ops) → d ≡ decision_of t c x

-- the packet that was in hand is decided now, and nothing else has changed
pub record HasDecided (t : HostView) (before after : WorkerView) : Type 0 where
  pub in_hand : InHand
  pub decision : Decision
  pub was : before.hand ≡ Some in_hand
  pub worker : after ≡ record before { hand = Some (record in_hand { decision = Some decision }) }
  pub decided : IsDecided t before.cache (record in_hand { decision = Some decision }) decision

-- ---- settle

-- the first operations that were compared are the same
abbrev pub Agree : BookView → WorkerView → List Op → Type 0
Agree b w ops = take w.compared ops ≡ take w.compared (programme_of b.plan (now b) (Host w.host))

-- the seat is the worker's, it has the packet that the book has in its hand, decided with these tables as they are, and what it has
-- compared is the same. The tables are the host's, with the plan's number of gateways
pub record MaySettle (b : BookView) (t : HostView) (seat : ℕ) (w : WorkerView) : Type 0 where
  pub is_seat : IsSeat b seat (actor_of w)
  pub in_hand : InHand
  pub has : w.hand ≡ Some in_hand
  pub holds : IsInHand b (actor_of w) in_hand
  pub decision : Decision
  pub decided : IsDecided t w.cache in_hand decision
  pub agree : Agree b w t.ops
  pub host : t.host ≡ w.host
  pub gateways : t.gateways ≡ b.plan.settings.gateways

-- the packet from this queue may be settled by the decision
abbrev pub MayPutDownFrom : Queue → Plan → State → Actor → ℕ → Decision → Type 0
MayPutDownFrom Out plan s a i d = MaySettleEgress plan s a i d
MayPutDownFrom _ plan s a i d = MaySettleIngress plan s a i d

abbrev pub MayPutDown : Plan → State → Actor → InHand → Decision → Type 0
MayPutDown plan s a x d = MayPutDownFrom x.held.queue plan s a x.parcel.packet d

-- the event of the decision
abbrev pub event_of : Plan → State → Actor → Queue → ℕ → Decision → Event
event_of plan s a Out i d = egress_event plan s a i d.at d.way
event_of plan s a _ i d = ingress_event plan s a i d.at d.way

-- without what was decided of it
abbrev pub forgotten : Option InHand → Option InHand
forgotten hand = option_map (λ (x : InHand). record x { decision = None }) hand

-- by which a packet from this queue is looked for in the cache
abbrev pub key_of : Queue → ParcelView → ℕ → FlowKey
key_of Out parcel vni = leaving_key parcel
key_of _ parcel vni = landing_key vni parcel

-- the cache after the decision: it is put where it was found by the tables alone, and is not that the VM is not live
abbrev pub kept_after : Cache → FlowKey → Decision → Cache
kept_after c key d = cache_by (is_cached d.outcome) (is_fast d.way) c (record { key = key; stamp = d.at; outcome = d.outcome })

-- the book has the one event of the decision more, which names its way, neither has anything in this hand any more, and what was found by
-- the tables alone is in the cache. Over the book's programme the way and the cache are those of the definition
pub record IsSettled (old new : BookView) (t : HostView) (seat : ℕ) (before after : WorkerView) : Type 0 where
  pub in_hand : InHand
  pub decision : Decision
  pub was : (before.hand ≡ Some in_hand) × (in_hand.decision ≡ Some decision)
  pub line : new ≡ with_line old seat (event_of old.plan (now old) (actor_of before) in_hand.held.queue in_hand.held.packet decision)
  pub worker : after ≡ record before {
    hand = None;
    compared = max before.compared (length t.ops);
    cache = kept_after before.cache (key_of in_hand.held.queue in_hand.parcel in_hand.vni) decision;
  }
  pub empty : hand_at (now new).flow.hands (hand_place new.plan.settings (actor_of before)) ≡ None
  pub agree : Agree new after t.ops
  pub right : AreRight t before.cache → AreRight t after.cache
  pub found : decision.way ≡ way old.plan.settings.gateways before.cache (programme_of old.plan (now old) (Host before.host)) decision.at (key_of in_hand.held.queue in_hand.parcel in_hand.vni)
  pub kept : after.cache ≡ decided old.plan.settings.gateways before.cache (programme_of old.plan (now old) (Host before.host)) decision.at (key_of in_hand.held.queue in_hand.parcel in_hand.vni)

-- what settling does, by its answer
abbrev pub HasSettled : BookView → BookView → HostView → ℕ → WorkerView → WorkerView → Settled → Type 0
HasSettled old new t seat before after Done = IsSettled old new t seat before after
HasSettled old new t seat before after _ = (new ≡ old) × (after ≡ record before { hand = forgotten before.hand })

-- ---- caches

-- a cache that is right for tables is right for tables with more operations
abbrev pub StaysRight : Type 0
StaysRight = (t u : HostView) (more : List Op) (c : Cache) → u.gateways ≡ t.gateways → u.ops ≡ t.ops ++ more → AreRight t c → AreRight u c
