-- The flow caches of host workers over a history, whose newest event is first.
use Rattle.std.specs.Prelude.{◌≡◌, ℕ, ◌==◌, ◌&&◌, Bool, false, if◌then◌else◌, List, [], ◌∷◌, Option, Some, None}
use Rattle.and_policy.specs.declared.decision.Way.{Way}
use Rattle.and_policy.specs.declared.decision.Way.TheVariants.{Slow}
use Rattle.and_policy.specs.declared.entry.FlowKey.{FlowKey}
use Rattle.and_policy.specs.declared.entry.Side.TheVariants as sides
use Rattle.and_policy.specs.Caches.{Cache, empty, way, decided}
use Rattle.and_events.specs.declared.event.Actor.{Actor}
use Rattle.and_events.specs.declared.event.Actor.TheVariants.{Worker}
use Rattle.and_events.specs.declared.event.Event.{Event}
use Rattle.and_events.specs.declared.event.Event.TheVariants.{Egress, Ingress}
use Rattle.and_events.specs.declared.event.Held.{Held}
use Rattle.and_events.specs.declared.event.Queue.{Queue}
use Rattle.and_events.specs.declared.event.Queue.TheVariants.{Out}
use Rattle.and_events.specs.declared.plan.Plan.{Plan}
use Rattle.and_events.specs.Flow.{hand_at}
use Rattle.and_events.specs.Places.{hand_place, node_of}
use Rattle.and_events.specs.State.{State, state, packet_at, tuple_at, programme_of, carried_at}
use Rattle.and_laws.specs.Choices.{WayRule}

-- the key of a packet that leaves its VM, whose number is the scope; and of one that comes, in the network that it carries
abbrev pub leaving_key : Plan → ℕ → FlowKey
leaving_key plan i = record { side = sides.Egress; scope = (packet_at plan i).vm; tuple = tuple_at plan i }

abbrev pub coming_key : Plan → State → ℕ → FlowKey
coming_key plan s i = record { side = sides.Ingress; scope = (carried_at s i).net; tuple = tuple_at plan i }

-- what an event asks a flow cache: who asks, for which key, at which number, and by which way it says it was found
pub record Asked : Type 0 where
  pub actor : Actor
  pub key : FlowKey
  pub at : ℕ
  pub way : Way

abbrev pub asked : Plan → State → Event → Option Asked
asked plan s (Egress a i at way d) = Some (record { actor = a; key = leaving_key plan i; at = at; way = way })
asked plan s (Ingress a i at way arrival) = Some (record { actor = a; key = coming_key plan s i; at = at; way = way })
asked plan s _ = None

-- the actor is this worker of this host. By cases, so that nothing of numbers is asked
abbrev pub is_worker : ℕ → ℕ → Actor → Bool
is_worker host index (Worker h w) = (h == host) && (w == index)
is_worker host index _ = false

-- a cache takes in what the policy says of the key, whatever became of the packet then
abbrev pub cache_step : Plan → State → ℕ → ℕ → Cache → Option Asked → Cache
cache_step plan s host index c None = c
cache_step plan s host index c (Some q) =
    if is_worker host index q.actor then decided plan.settings.gateways c (programme_of plan s (node_of q.actor)) q.at q.key else c

-- the cache of the worker: what its Egress and Ingress events make of an empty one
unfoldable pub cache_after : Plan → List Event → ℕ → ℕ → Cache
cache_after plan [] host index = empty
cache_after plan (e ∷ h) host index = cache_step plan (state plan h) host index (cache_after plan h host index) (asked plan (state plan h) e)

abbrev pub cache_of : Plan → List Event → Actor → Cache
cache_of plan h (Worker host index) = cache_after plan h host index
cache_of plan h _ = empty

abbrev pub IsWay : Plan → List Event → Option Asked → Type 0
IsWay plan h None = Unit {0}
IsWay plan h (Some q) =
    q.way ≡ way plan.settings.gateways (cache_of plan h q.actor) (programme_of plan (state plan h) (node_of q.actor)) q.at q.key

-- each event of a host worker names the way that its cache gives
unfoldable pub Ways : Plan → List Event → Type 0
Ways plan [] = Unit {0}
Ways plan (e ∷ h) = Ways plan h × IsWay plan h (asked plan (state plan h) e)

-- ---- as a rule

-- the key of a packet that was taken from such a queue
abbrev pub key_from : Plan → State → ℕ → Queue → FlowKey
key_from plan s i Out = leaving_key plan i
key_from plan s i _ = coming_key plan s i

abbrev pub way_by_hand : Plan → List Event → Actor → ℕ → Option Held → Way
way_by_hand plan h a at None = Slow
way_by_hand plan h a at (Some g) =
    way plan.settings.gateways (cache_of plan h a) (programme_of plan (state plan h) (node_of a)) at (key_from plan (state plan h) g.packet g.queue)

-- the way that a host worker's cache gives for the packet in its hand, at this number; no one else has a cache
unfoldable pub way_rule : Plan → WayRule
way_rule plan h (Worker host index) at =
    way_by_hand plan h (Worker host index) at (hand_at (state plan h).flow.hands (hand_place plan.settings (Worker host index)))
way_rule plan h _ at = Slow
