-- What a run says of a packet before it is decided of, and which packets were injected.
use Rattle.std.specs.Prelude.{◌≡◌, ℕ, nat_lt, if◌then◌else◌, List, [], Option, Some, None}
use Rattle.and_events.specs.declared.event.Event.{Event}
use Rattle.and_events.specs.Fresh.{Decided}
use Rattle.and_events.specs.Run.{fates, injections}
use Rattle.and_laws.specs.Fates.{injection_count}

-- where an event decides of a packet, the packet had no fate before
abbrev pub IsBeforeFate : List Event → Option Decided → Type 0
IsBeforeFate h None = Unit {0}
IsBeforeFate h (Some d) = fates h d.packet ≡ []

-- the packets injected so far are those whose numbers are below their count, each once
abbrev pub AreFirstInjected : List Event → Type 0
AreFirstInjected h = (i : ℕ) → injections h i ≡ (if nat_lt i (injection_count h) then 1 else 0)
