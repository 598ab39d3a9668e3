-- What a run says of its packets: what became of each, and where it is.
use Rattle.std.specs.Prelude.{◌≡◌, ℕ, ◌+◌, ◌<◌, ◌≤◌, List, length, is_some}
use Rattle.std.specs.List.{sum_by, count_by}
use Rattle.and_events.specs.declared.event.Event.{Event}
use Rattle.and_events.specs.declared.plan.Plan.{Plan}
use Rattle.and_events.specs.Flow.{Flow}
use Rattle.and_events.specs.State.{state}
use Rattle.and_events.specs.Run.{fate_of, fates, injected_by, injections, places}

-- each packet has together as many fates and places as it was injected: it is never lost without a fate, and never in
-- two places, or in a place after its fate
abbrev pub HasFatesAndPlaces : Plan → List Event → Type 0
HasFatesAndPlaces plan h = (i : ℕ) → length (fates h i) + places plan h i ≡ injections h i

-- no packet is injected twice, and only packets of the plan are
pub record IsInjectedOnce (plan : Plan) (h : List Event) : Type 0 where
  pub once : (i : ℕ) → injections h i ≤ 1
  pub known : (i : ℕ) → 0 < injections h i → i < length plan.packets

-- each injected packet has exactly one fate or place
abbrev pub HasOneFateOrPlace : Plan → List Event → Type 0
HasOneFateOrPlace plan h = (i : ℕ) → 0 < injections h i → length (fates h i) + places plan h i ≡ 1

-- each packet of the plan has exactly one fate, and there are no others
pub record HasOneFate (plan : Plan) (h : List Event) : Type 0 where
  pub one : (i : ℕ) → i < length plan.packets → length (fates h i) ≡ 1
  pub no_other : (i : ℕ) → length plan.packets ≤ i → length (fates h i) ≡ 0

-- ---- sums

-- how many events inject a packet, and how many are a fate
abbrev pub injection_count : List Event → ℕ
injection_count h = count_by (λ e. is_some (injected_by e)) h

abbrev pub fate_count : List Event → ℕ
fate_count h = count_by (λ e. is_some (fate_of e)) h

-- how many packets are queued, and how many in hand
abbrev pub queued_count : Flow → ℕ
queued_count f = sum_by length f.queues

abbrev pub in_hand_count : Flow → ℕ
in_hand_count f = count_by is_some f.hands

-- the packets injected so far are as many as the fates, the queued and the held together
abbrev pub IsAccounted : Plan → List Event → Type 0
IsAccounted plan h = injection_count h ≡ fate_count h + queued_count (state plan h).flow + in_hand_count (state plan h).flow
