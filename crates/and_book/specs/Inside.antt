-- How a book's fields stand for the state after its lines.
use Rattle.std.specs.Prelude.{◌≡◌, ℕ, ◌+◌, ◌-◌, ◌<◌, ◌≤◌, true, List, length, map, None, vec_len, vec_capacity}
use Rattle.std.specs.List.{All}
use Rattle.and_policy.specs.declared.entry.Entry.{Entry}
use Rattle.and_policy.specs.declared.entry.Entry.TheVariants as entries
use Rattle.and_policy.specs.declared.port.Port.{Port}
use Rattle.and_events.specs.declared.event.Event.{Event}
use Rattle.and_events.specs.declared.event.Given.{Given}
use Rattle.and_events.specs.declared.event.Line.{Line}
use Rattle.and_events.specs.declared.event.Node.{Node}
use Rattle.and_events.specs.declared.event.Queue.TheVariants.{Wire}
use Rattle.and_events.specs.declared.plan.Plan.{Plan}
use Rattle.and_events.specs.Places.{queue_place, seat_of, actor_of, IsNode}
use Rattle.and_events.specs.Ports.{port_at}
use Rattle.and_events.specs.State.{State, NodeHolds, state}
use Rattle.and_events.specs.Run.{Run, past}
use Rattle.and_events.specs.Sound.{IsSound}
use Rattle.and_events.specs.Usage.{orders_of}
use Rattle.and_laws.specs.Fates.{in_hand_count}
use Rattle.and_laws.specs.Sizes.{HasSizes, HasNodes}
use Rattle.and_kept.specs.Lanes.{Roads, parcels_at}
use Rattle.and_kept.specs.Nodes.{Progressed, HasOrderRoom}
use Rattle.and_pins.specs.Pinned.{PinsView, ArePins, hairpin_entry}
use Rattle.and_review.specs.Views.{ReviewsView, Begins}
use Rattle.and_book.specs.declared.book.Book.TheInside.{Inside}
use Rattle.and_book.specs.Views.{BookView, IsPacket}
use Rattle.and_events.specs.Places.{IsSmall}
use Rattle.and_book.specs.Outers.{IsSentBy}

-- what is kept of the state
pub record Kept : Type 0 where
  pub next : ℕ
  pub progress : Progressed
  pub ports : List (List Port)
  pub pins : PinsView
  pub roads : Roads
  pub reviews : ReviewsView

abbrev pub kept_of : Inside → Kept
kept_of b = record { next = b.next; progress = b.progress; ports = b.ports; pins = b.pins; roads = b.traffic; reviews = b.reviews }

-- what is held at the nodes
abbrev pub holds_of : Kept → NodeHolds
holds_of k = record { install = k.progress.held; forward = k.roads.held }

abbrev pub view_of : Inside → BookView
view_of b = record { plan = b.plan; threads = b.threads; lines = b.lines.items; spare = vec_capacity b.lines - vec_len b.lines; prepared = b.prepared }

-- it is that part of the state
pub record Stands (k : Kept) (s : State) : Type 0 where
  pub next : k.next ≡ s.next
  pub programmes : k.progress.programmes ≡ s.programmes
  pub ports : k.ports ≡ s.ports
  pub flow : k.roads.flow ≡ s.flow
  pub holds : holds_of k ≡ s.node_holds
  pub usage : k.reviews.used ≡ s.usage

-- what never changes in it: the settings, and for how many entries there is room
pub record IsSized (plan : Plan) (k : Kept) : Type 0 where
  pub settings : k.roads.settings ≡ plan.settings
  pub limit : k.progress.limit ≡ length plan.log

-- there is room for the usage of a key for each step and one more, and the entries that a review knows are the first ones of the log
pub record HasReviews (plan : Plan) (k : Kept) : Type 0 where
  pub room : length plan.steps < k.reviews.room
  pub known : Begins k.reviews.known k.progress.programmes.log

-- the hairpins are those of the ports, kept with the number of entries that every node has installed; there is room for one more at each step
-- that is still to come
pub record HasPins (plan : Plan) (k : Kept) : Type 0 where
  pub standing : ArePins k.pins.pins k.ports
  pub least : k.pins.least ≡ k.progress.least
  pub room : length k.pins.pins + (length plan.steps - k.next) ≤ k.pins.room

-- hairpins that are those of the ports before are those of the ports after, and there are at most so many more
pub record PinsFollow (old new : PinsView) (ports ports' : List (List Port)) (more : ℕ) : Type 0 where
  pub standing : ArePins old.pins ports → ArePins new.pins ports'
  pub few : length new.pins ≤ length old.pins + more
  pub least : new.least ≡ old.least
  pub room : old.room ≤ new.room

-- a VM that the entry adds has no hairpin where it boots
abbrev pub BootsAnew : List (List Port) → Entry → Type 0
BootsAnew ports (entries.AddVm vm net mac ip host) = hairpin_entry (port_at ports host vm) ≡ None
BootsAnew ports _ = Unit {0}

-- each parcel in a queue has its packet's frame, the queues' packets are those of the parcels, and what came to a node by its
-- `wire` queue has the outer bytes of its packet's newest send
pub record HasParcels (plan : Plan) (h : List Event) (roads : Roads) : Type 0 where
  pub packets : All (λ ps. All (IsPacket plan) ps) roads.parcels
  pub numbers : map (λ ps. map (λ p. p.packet) ps) roads.parcels ≡ roads.flow.queues
  pub outers : (node : Node) → IsNode plan.settings node → All (IsSentBy plan h) (parcels_at roads.parcels (queue_place plan.settings node Wire))

-- the lines are a run of the plan, each with the seat of its actor, and what is kept is the state after them
pub record Keeps (plan : Plan) (threads : ℕ) (lines : List Line) (k : Kept) (spare : ℕ) : Type 0 where
  pub sound : IsSound plan
  pub run : Run plan (past lines)
  pub seats : All (λ l. l.seat ≡ seat_of threads plan.settings (actor_of l.event)) lines
  pub stands : Stands k (state plan (past lines))
  pub sized : IsSized plan k
  pub parcels : HasParcels plan (past lines) k.roads
  pub held : in_hand_count k.roads.flow ≤ spare
  pub small : IsSmall plan.settings
  pub sizes : HasSizes plan k.roads.flow
  pub nodes : HasNodes plan k.progress.programmes
  pub reviews : HasReviews plan k
  pub pins : HasPins plan k

-- the orders are those of a review of the usage so far, and have room
pub record AreDue (plan : Plan) (k : Kept) (orders : List Given) : Type 0 where
  pub are : orders ≡ orders_of plan.settings k.progress.programmes.log k.reviews.used
  pub room : HasOrderRoom k.progress orders

-- where it is prepared for a review, the orders are due
pub record IsBook (b : Inside) : Type 0 where
  pub keeps : Keeps b.plan b.threads b.lines.items (kept_of b) (vec_capacity b.lines - vec_len b.lines)
  pub due : b.prepared ≡ true → AreDue b.plan (kept_of b) b.orders.items
