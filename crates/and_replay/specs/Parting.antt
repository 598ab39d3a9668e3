-- What the actors keep beside the book, as it has to be after a history.
use Rattle.std.specs.Prelude.{◌≡◌, ℕ, ◌*◌, ◌<◌, ◌≤◌, List, [], take, drop, Option, Some, None}
use Rattle.and_policy.specs.declared.entry.Op.{Op}
use Rattle.and_policy.specs.Caches.{empty}
use Rattle.and_parcel.specs.Parcels.{ParcelView}
use Rattle.and_events.specs.declared.event.Actor.{Actor}
use Rattle.and_events.specs.declared.event.Actor.TheVariants.{Coproc, Gateway}
use Rattle.and_events.specs.declared.event.Event.{Event}
use Rattle.and_events.specs.declared.event.Held.{Held}
use Rattle.and_events.specs.declared.event.Node.{Node}
use Rattle.and_events.specs.declared.event.Node.TheVariants.{Host, Gate}
use Rattle.and_events.specs.declared.plan.Plan.{Plan}
use Rattle.and_events.specs.declared.plan.Settings.{Settings}
use Rattle.and_events.specs.Flow.{hand_at}
use Rattle.and_events.specs.Places.{hand_place}
use Rattle.and_events.specs.State.{state, announced_of, installed_of, programme_of, carried_at}
use Rattle.and_others.specs.Ways.{cache_after}
use Rattle.and_book.specs.Views.{IsPacket}
use Rattle.and_tables.specs.HostViews.{HostView}
use Rattle.and_decide.specs.Deciding.{AreRight}
use Rattle.and_worker.specs.declared.worker.InHand.{InHand}
use Rattle.and_worker.specs.Workers.{WorkerView, actor_of}
use Rattle.and_hover.specs.declared.coproc.ToSeal.{ToSeal}
use Rattle.and_hover.specs.declared.hover.InHand.{InHand as HoverHand}
use Rattle.and_hover.specs.Coprocs.{CoprocView}
use Rattle.and_hover.specs.Hovers.{HoverView, is_redirect}
use Rattle.and_replay.specs.declared.parts.Parts.{Parts}
use Rattle.and_replay.specs.Rows.{AreAt}

-- ---- the tables of a node

-- what is installed at the node
abbrev pub installed_ops : Plan → List Event → Node → List Op
installed_ops plan h node = take (installed_of plan (state plan h) node) (programme_of plan (state plan h) node)

-- the tables of a host are those of what is installed there
abbrev pub host_tables : Plan → List Event → ℕ → HostView
host_tables plan h host = record { host = host; gateways = plan.settings.gateways; ops = installed_ops plan h (Host host) }

-- what is announced and not installed
abbrev pub announced_ops : Plan → List Event → Node → List Op
announced_ops plan h node = drop (installed_of plan (state plan h) node) (take (announced_of plan (state plan h) node) (programme_of plan (state plan h) node))

-- an installer that has no batch has nothing to install, and one that has a batch what is announced and not installed
abbrev pub IsBatch : Plan → List Event → Node → Option (List Op) → Type 0
IsBatch plan h node None = installed_of plan (state plan h) node ≡ announced_of plan (state plan h) node
IsBatch plan h node (Some ops) = ops ≡ announced_ops plan h node

-- ---- what is in hand

-- this packet is in the actor's hand, with its parcel and network
pub record Has (plan : Plan) (h : List Event) (a : Actor) (g : Held) (its : ParcelView) (net : ℕ) : Type 0 where
  pub held : hand_at (state plan h).flow.hands (hand_place plan.settings a) ≡ Some g
  pub packet : its.packet ≡ g.packet
  pub parcel : IsPacket plan its
  pub vni : net ≡ (carried_at (state plan h) g.packet).net

abbrev pub HasNothing : Plan → List Event → Actor → Type 0
HasNothing plan h a = hand_at (state plan h).flow.hands (hand_place plan.settings a) ≡ None

abbrev pub WorkerHas : Plan → List Event → Actor → Option InHand → Type 0
WorkerHas plan h a None = HasNothing plan h a
WorkerHas plan h a (Some x) = Has plan h a x.held x.parcel x.vni

abbrev pub HoverHas : Plan → List Event → Actor → Option HoverHand → Type 0
HoverHas plan h a None = HasNothing plan h a
HoverHas plan h a (Some x) = Has plan h a x.held x.parcel x.vni × (x.redirect ≡ is_redirect (carried_at (state plan h) x.held.packet).target)

-- this packet is in the coprocessor's hand, with its parcel
pub record HasToSeal (plan : Plan) (h : List Event) (a : Actor) (x : ToSeal) : Type 0 where
  pub held : hand_at (state plan h).flow.hands (hand_place plan.settings a) ≡ Some x.held
  pub packet : x.parcel.packet ≡ x.held.packet
  pub parcel : IsPacket plan x.parcel

abbrev pub CoprocHas : Plan → List Event → Actor → Option ToSeal → Type 0
CoprocHas plan h a None = HasNothing plan h a
CoprocHas plan h a (Some x) = HasToSeal plan h a x

-- ---- workers

-- a host's worker has in hand what the book says, has compared no more than is installed, and its cache is the definition's, and right
-- for the host's tables
pub record IsWorking (plan : Plan) (h : List Event) (w : WorkerView) : Type 0 where
  pub hand : WorkerHas plan h (actor_of w) w.hand
  pub compared : w.compared ≤ installed_of plan (state plan h) (Host w.host)
  pub right : AreRight (host_tables plan h w.host) w.cache
  pub cache : w.cache ≡ cache_after plan h w.host w.index

-- it stands at the place of its hand
pub record IsWorkerAt (plan : Plan) (h : List Event) (n : ℕ) (w : WorkerView) : Type 0 where
  pub host : w.host < plan.settings.hosts
  pub index : w.index < plan.settings.workers
  pub place : hand_place plan.settings (actor_of w) ≡ n
  pub working : IsWorking plan h w

-- a host's coprocessor has in hand what the book says
abbrev pub IsSealing : Plan → List Event → CoprocView → Type 0
IsSealing plan h c = CoprocHas plan h (Coproc c.host) c.hand

pub record IsCoprocAt (plan : Plan) (h : List Event) (n : ℕ) (c : CoprocView) : Type 0 where
  pub host : c.host ≡ n
  pub sealing : IsSealing plan h c

-- a gateway's worker has in hand what the book says, and has compared no more than is installed
pub record IsPassing (plan : Plan) (h : List Event) (v : HoverView) : Type 0 where
  pub hand : HoverHas plan h (Gateway v.gateway) v.hand
  pub compared : v.compared ≤ installed_of plan (state plan h) (Gate v.gateway)

pub record IsHoverAt (plan : Plan) (h : List Event) (n : ℕ) (v : HoverView) : Type 0 where
  pub gateway : v.gateway ≡ n
  pub passing : IsPassing plan h v

-- ---- all parts

abbrev pub AreHosts : Plan → List Event → List HostView → Type 0
AreHosts plan h ts = AreAt (λ (n : ℕ) (t : HostView). t ≡ host_tables plan h n) plan.settings.hosts ts

abbrev pub AreGates : Plan → List Event → List (List Op) → Type 0
AreGates plan h ts = AreAt (λ (n : ℕ) (t : List Op). t ≡ installed_ops plan h (Gate n)) plan.settings.gateways ts

abbrev pub AreHostBatches : Plan → List Event → List (Option (List Op)) → Type 0
AreHostBatches plan h xs = AreAt (λ (n : ℕ) (x : Option (List Op)). IsBatch plan h (Host n) x) plan.settings.hosts xs

abbrev pub AreGateBatches : Plan → List Event → List (Option (List Op)) → Type 0
AreGateBatches plan h xs = AreAt (λ (n : ℕ) (x : Option (List Op)). IsBatch plan h (Gate n) x) plan.settings.gateways xs

abbrev pub AreWorkers : Plan → List Event → List WorkerView → Type 0
AreWorkers plan h ws = AreAt (IsWorkerAt plan h) (plan.settings.hosts * plan.settings.workers) ws

abbrev pub AreCoprocs : Plan → List Event → List CoprocView → Type 0
AreCoprocs plan h cs = AreAt (IsCoprocAt plan h) plan.settings.hosts cs

abbrev pub AreHovers : Plan → List Event → List HoverView → Type 0
AreHovers plan h vs = AreAt (IsHoverAt plan h) plan.settings.gateways vs

-- each part is what it has to be after the history
pub record AreParts (plan : Plan) (h : List Event) (p : Parts) : Type 0 where
  pub hosts : AreHosts plan h p.hosts.items
  pub gates : AreGates plan h p.gates.items
  pub host_batches : AreHostBatches plan h p.host_batches.items
  pub gate_batches : AreGateBatches plan h p.gate_batches.items
  pub workers : AreWorkers plan h p.workers.items
  pub coprocs : AreCoprocs plan h p.coprocs.items
  pub hovers : AreHovers plan h p.hovers.items

-- ---- before the first turn

-- a worker at this place that has done nothing
pub record IsFresh (s : Settings) (n : ℕ) (w : WorkerView) : Type 0 where
  pub host : w.host < s.hosts
  pub index : w.index < s.workers
  pub place : hand_place s (actor_of w) ≡ n
  pub cache : w.cache ≡ empty
  pub compared : w.compared ≡ 0
  pub hand : w.hand ≡ None

abbrev pub FreshHosts : Settings → ℕ → List HostView → Type 0
FreshHosts s count ts = AreAt (λ (n : ℕ) (t : HostView). t ≡ record { host = n; gateways = s.gateways; ops = [] }) count ts

abbrev pub FreshGates : ℕ → List (List Op) → Type 0
FreshGates count ts = AreAt (λ (n : ℕ) (t : List Op). t ≡ []) count ts

abbrev pub FreshBatches : ℕ → List (Option (List Op)) → Type 0
FreshBatches count xs = AreAt (λ (n : ℕ) (x : Option (List Op)). x ≡ None) count xs

abbrev pub FreshWorkers : Settings → ℕ → List WorkerView → Type 0
FreshWorkers s count ws = AreAt (IsFresh s) count ws

abbrev pub FreshCoprocs : ℕ → List CoprocView → Type 0
FreshCoprocs count cs = AreAt (λ (n : ℕ) (c : CoprocView). c ≡ record { host = n; hand = None }) count cs

abbrev pub FreshHovers : ℕ → List HoverView → Type 0
FreshHovers count vs = AreAt (λ (n : ℕ) (v : HoverView). v ≡ record { gateway = n; compared = 0; hand = None }) count vs

-- parts before the first turn: tables of no operations, and workers and coprocessors that have done nothing
pub record AreFresh (s : Settings) (p : Parts) : Type 0 where
  pub hosts : FreshHosts s s.hosts p.hosts.items
  pub gates : FreshGates s.gateways p.gates.items
  pub host_batches : FreshBatches s.hosts p.host_batches.items
  pub gate_batches : FreshBatches s.gateways p.gate_batches.items
  pub workers : FreshWorkers s (s.hosts * s.workers) p.workers.items
  pub coprocs : FreshCoprocs s.hosts p.coprocs.items
  pub hovers : FreshHovers s.gateways p.hovers.items
