-- What a run is counted by.
use Rattle.std.specs.Prelude.{ℕ, Bool, true, false, List, length}
use Rattle.std.specs.List.{sum_by, count_by}
use Rattle.and_policy.specs.declared.decision.Way.TheVariants.{Fast, Slow}
use Rattle.and_policy.specs.declared.decision.Dest.TheVariants.{Offload, Hover}
use Rattle.and_policy.specs.declared.entry.Op.{Op}
use Rattle.and_policy.specs.declared.entry.Op.TheVariants as ops
use Rattle.and_events.specs.declared.event.Departure.TheVariants.{Allowed}
use Rattle.and_events.specs.declared.event.Arrival.TheVariants.{Hairpin, Absent}
use Rattle.and_events.specs.declared.event.Event.{Event}
use Rattle.and_events.specs.declared.event.Event.TheVariants.{Egress, Ingress}
use Rattle.and_events.specs.declared.plan.Plan.{Plan}
use Rattle.and_events.specs.State.{state}
use Rattle.and_events.specs.OuterPackets.{sends_of}
use Rattle.and_report.specs.declared.fate.Fate.{Fate}
use Rattle.and_report.specs.Fates.{fates_of}

pub record Tally : Type 0 where
  pub fates : List Fate
  pub sends : ℕ  -- packets that entered a `wire` queue
  pub offload : ℕ  -- packets that left for a host
  pub hover : ℕ  -- packets that left for a gateway
  pub hairpin : ℕ  -- packets that followed a VM which had moved on
  pub redirect : ℕ  -- packets that found their VM absent
  pub fast : ℕ  -- a host's decisions by its cache
  pub slow : ℕ  -- a host's decisions by the policy
  pub orders : ℕ  -- offload orders

-- ---- kinds of events. How a try at a queue ends counts for none of them

abbrev pub is_offload : Event → Bool
is_offload (Egress a i at way (Allowed by sealed (Offload host net) end)) = true
is_offload _ = false

abbrev pub is_hover : Event → Bool
is_hover (Egress a i at way (Allowed by sealed (Hover gateway) end)) = true
is_hover _ = false

abbrev pub is_hairpin : Event → Bool
is_hairpin (Ingress a i at way (Hairpin vm host end)) = true
is_hairpin _ = false

abbrev pub is_absent : Event → Bool
is_absent (Ingress a i at way (Absent vm gateway end)) = true
is_absent _ = false

abbrev pub is_fast : Event → Bool
is_fast (Egress a i at Fast d) = true
is_fast (Ingress a i at Fast arrival) = true
is_fast _ = false

abbrev pub is_slow : Event → Bool
is_slow (Egress a i at Slow d) = true
is_slow (Ingress a i at Slow arrival) = true
is_slow _ = false

-- ---- orders

abbrev pub is_order : Op → Bool
is_order (ops.Offload order) = true
is_order _ = false

-- those of all programmes
abbrev pub orders_among : List (List Op) → ℕ
orders_among programmes = sum_by (count_by is_order) programmes

-- ---- the whole

-- the tally of a history, whose newest event is first
abbrev pub tally : Plan → List Event → Tally
tally plan h =
    record {
      fates = fates_of plan h;
      sends = length (sends_of plan h);
      offload = count_by is_offload h;
      hover = count_by is_hover h;
      hairpin = count_by is_hairpin h;
      redirect = count_by is_absent h;
      fast = count_by is_fast h;
      slow = count_by is_slow h;
      orders = orders_among (state plan h).programmes.ops;
    }
