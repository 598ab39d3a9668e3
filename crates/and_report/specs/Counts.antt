-- Counts of fates and of events, one more at a time.
use Rattle.std.specs.Prelude.{ℕ, ◌+◌, Bool, true, false, List, cond}
use Rattle.std.specs.List.{count_by}
use Rattle.and_events.specs.declared.event.End.{End}
use Rattle.and_events.specs.declared.event.End.TheVariants.{Queued}
use Rattle.and_events.specs.declared.event.Departure.TheVariants.{Allowed}
use Rattle.and_events.specs.declared.event.Passage.TheVariants as passages
use Rattle.and_events.specs.declared.event.Return.TheVariants as returns
use Rattle.and_events.specs.declared.event.Arrival.TheVariants as arrivals
use Rattle.and_events.specs.declared.event.Event.{Event}
use Rattle.and_events.specs.declared.event.Event.TheVariants.{Egress, Sealed, Route, Redirect, Ingress}
use Rattle.and_report.specs.declared.fate.Fate.{Fate}
use Rattle.and_report.specs.declared.counts.Endings.{Endings}
use Rattle.and_report.specs.declared.counts.Traffic.{Traffic}
use Rattle.and_report.specs.Report as report
use Rattle.and_report.specs.Tally as tallies

abbrev pub one : Bool → ℕ
one b = cond b 1 0

-- ---- fates

abbrev pub with_fate : Endings → Fate → Endings
with_fate c f =
    record {
      delivered = c.delivered + one (report.is_delivered f);
      dropped = c.dropped + one (report.is_dropped f);
      spoofed = c.spoofed + one (report.is_spoofed f);
      novm = c.novm + one (report.is_novm f);
      noowner = c.noowner + one (report.is_noowner f);
      in_blackout = c.in_blackout + one (report.is_in_blackout f);
      at_full_queue = c.at_full_queue + one (report.is_at_full_queue f);
      out_of_hops = c.out_of_hops + one (report.is_out_of_hops f);
    }

abbrev pub endings_of : List Fate → Endings
endings_of fates =
    record {
      delivered = count_by report.is_delivered fates;
      dropped = count_by report.is_dropped fates;
      spoofed = count_by report.is_spoofed fates;
      novm = count_by report.is_novm fates;
      noowner = count_by report.is_noowner fates;
      in_blackout = count_by report.is_in_blackout fates;
      at_full_queue = count_by report.is_at_full_queue fates;
      out_of_hops = count_by report.is_out_of_hops fates;
    }

-- ---- events

abbrev pub is_queued : End → Bool
is_queued Queued = true
is_queued _ = false

-- the event is a send: its packet enters a `wire` queue. A packet that is to be sealed enters a `seal` queue first
abbrev pub is_send : Event → Bool
is_send (Egress a i at way (Allowed by false dest end)) = is_queued end
is_send (Sealed a i end) = is_queued end
is_send (Route a i at (passages.Send by net host end)) = is_queued end
is_send (Redirect a i at (returns.Send host end)) = is_queued end
is_send (Ingress a i at way (arrivals.Hairpin vm host end)) = is_queued end
is_send (Ingress a i at way (arrivals.Absent vm gateway end)) = is_queued end
is_send _ = false

abbrev pub with_event : Traffic → Event → Traffic
with_event c e =
    record {
      sends = c.sends + one (is_send e);
      offload = c.offload + one (tallies.is_offload e);
      hover = c.hover + one (tallies.is_hover e);
      hairpin = c.hairpin + one (tallies.is_hairpin e);
      redirect = c.redirect + one (tallies.is_absent e);
      fast = c.fast + one (tallies.is_fast e);
      slow = c.slow + one (tallies.is_slow e);
    }

abbrev pub traffic_of : List Event → Traffic
traffic_of h =
    record {
      sends = count_by is_send h;
      offload = count_by tallies.is_offload h;
      hover = count_by tallies.is_hover h;
      hairpin = count_by tallies.is_hairpin h;
      redirect = count_by tallies.is_absent h;
      fast = count_by tallies.is_fast h;
      slow = count_by tallies.is_slow h;
    }
