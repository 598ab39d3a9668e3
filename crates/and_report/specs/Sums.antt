-- What the report's numbers of packets add up to.
use Rattle.std.specs.Prelude.{ℕ, ◌+◌, Bool, List}
use Rattle.std.specs.List.{count_by}
use Rattle.std.specs.Option.{is_some}
use Rattle.and_events.specs.declared.event.Event.{Event}
use Rattle.and_events.specs.Run.{fate_of}
use Rattle.and_report.specs.declared.fate.Fate.{Fate}
use Rattle.and_report.specs.Report.{is_delivered, is_dropped, is_in_blackout, is_at_full_queue, is_out_of_hops}

-- the event is a packet's fate
abbrev pub is_fate : Event → Bool
is_fate e = is_some (fate_of e)

-- the packets of the lines `delivered`, `dropped`, `lost blackout`, `lost queue` and `lost hops`
abbrev pub ended : List Fate → ℕ
ended fates =
    count_by is_delivered fates + count_by is_dropped fates + count_by is_in_blackout fates + count_by is_at_full_queue fates + count_by is_out_of_hops fates
