-- The totals that the pass over the lines keeps.
use Rattle.std.specs.Prelude.{◌≡◌, ℕ, ◌<◌, List, ◌∷◌, length, slice_index}
use Rattle.std.specs.List.{count_by, filter_map}
use Rattle.and_events.specs.declared.event.Event.{Event}
use Rattle.and_events.specs.declared.plan.Plan.{Plan}
use Rattle.and_report.specs.declared.fate.Fate.{Fate}
use Rattle.and_report.specs.declared.totals.FateTotals.{FateTotals}
use Rattle.and_report.specs.declared.totals.Totals.{Totals}
use Rattle.and_report.specs.Report.{egress_key, ingress_key, route_key, is_received}
use Rattle.and_report.specs.Tally.{Tally}
use Rattle.and_report.specs.declared.counts.Traffic.{Traffic}
use Rattle.and_report.specs.Fates.{fates_of}
use Rattle.and_report.specs.Counts.{endings_of, traffic_of}
use Rattle.and_report.specs.Keys.{tallied}
use Rattle.and_report.specs.Nets.{nets_in}

-- how often each VM received a packet
pub record AreReceived (fates : List Fate) (received : List ℕ) : Type 0 where
  pub counts : (vm : ℕ) → vm < length received → slice_index received vm ≡ count_by (is_received vm) fates

-- the totals of these fates
pub record AreFateTotals (fates : List Fate) (t : FateTotals) : Type 0 where
  pub endings : t.endings ≡ endings_of fates
  pub egress : t.egress.entries ≡ tallied (filter_map egress_key fates)
  pub ingress : t.ingress.entries ≡ tallied (filter_map ingress_key fates)
  pub route : t.route.entries ≡ tallied (filter_map route_key fates)
  pub received : AreReceived fates t.received.items

-- totals of fates, and those of one fate more
abbrev pub AddsReceived : Fate → List ℕ → List ℕ → Type 0
AddsReceived fate old new = (fates : List Fate) → AreReceived fates old → AreReceived (fate ∷ fates) new

abbrev pub AddsFate : Fate → FateTotals → FateTotals → Type 0
AddsFate fate old new = (fates : List Fate) → AreFateTotals fates old → AreFateTotals (fate ∷ fates) new

-- the totals of a history
pub record AreTotals (plan : Plan) (h : List Event) (t : Totals) : Type 0 where
  pub traffic : t.traffic ≡ traffic_of h
  pub fates : AreFateTotals (fates_of plan h) t.fates
  pub names : length t.fates.received.items ≡ length plan.names

-- the tally's counts of events
abbrev pub IsTraffic : Tally → Traffic → Type 0
IsTraffic t c =
    (c.sends ≡ t.sends) × (c.offload ≡ t.offload) × (c.hover ≡ t.hover) × (c.hairpin ≡ t.hairpin) × (c.redirect ≡ t.redirect)
    × (c.fast ≡ t.fast) × (c.slow ≡ t.slow)

-- totals of a history, after which packets carry these networks, and those of one event more
abbrev pub AddsEvent : Plan → List ℕ → Event → Totals → Totals → Type 0
AddsEvent plan nets e old new = (h : List Event) → nets ≡ nets_in plan h → AreTotals plan h old → AreTotals plan (e ∷ h) new
