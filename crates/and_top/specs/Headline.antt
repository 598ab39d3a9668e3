-- The replay of a scenario and a capture: the run of their plan, and what is true of each of its packets.
use Rattle.std.specs.Prelude.{◌≡◌, ℕ, List, ◌++◌}
use Rattle.and_capture.specs.declared.capture.Capture.{Capture}
use Rattle.and_events.specs.declared.event.Event.{Event}
use Rattle.and_events.specs.declared.plan.Plan.{Plan}
use Rattle.and_events.specs.declared.plan.Scenario.{Scenario}
use Rattle.and_events.specs.Complete.{IsComplete}
use Rattle.and_events.specs.Fresh.{Fresh}
use Rattle.and_events.specs.Just.{Just}
use Rattle.and_events.specs.Ordered.{IsInPlainOrder}
use Rattle.and_events.specs.Planned.{planned}
use Rattle.and_events.specs.Run.{Run}
use Rattle.and_events.specs.Sound.{IsSound}
use Rattle.and_laws.specs.Fates.{HasOneFate, IsAccounted}
use Rattle.and_laws.specs.LivePorts.{HasRunningPorts}
use Rattle.and_laws.specs.Offloads.{HasRightOffloads}
use Rattle.and_others.specs.Ways.{Ways}
use Rattle.and_outputs.specs.Delivered.{delivered}
use Rattle.and_outputs.specs.Underlay.{underlay}
use Rattle.and_report.specs.Report.{report}
use Rattle.and_trace.specs.Spelling.{IsSpelled, trace}
use Rattle.and_top.specs.Inputs.{ScenarioAt, CaptureAt}
use Rattle.and_outside.specs.Disk.{Disk}
use Rattle.and_top.specs.Words.{Named}

-- What every command says of its run, in whatever order the actors took their turns. The history, whose newest event is first, is a run of the plan to its end.
-- Each packet of the plan has exactly one fate, for its reason, by decisions no older than what was installed when it was taken; and after each event the
-- packets injected so far are as many as the fates, the queued and the held together. A packet that is offloaded goes where the route of its network leads under the
-- same prefix, as a gateway would have sent it. At each moment a live VM outside a blackout runs at one host, and one in a blackout at none. Each event has a spelling: no other history whose events have one has this trace
pub record IsWholeRun (plan : Plan) (h : List Event) : Type 0 where
  pub run : Run plan h
  pub complete : IsComplete plan h
  pub fates : HasOneFate plan h
  pub just : (packet : ℕ) → Just plan h packet
  pub fresh : (packet : ℕ) → Fresh plan h packet
  pub offloads : HasRightOffloads plan h
  pub ports : (later earlier : List Event) → h ≡ later ++ earlier → HasRunningPorts plan earlier
  pub accounted : (later earlier : List Event) → h ≡ later ++ earlier → IsAccounted plan earlier
  pub spelled : IsSpelled h

-- What `replay` says besides: of the actors that may act the first one acts, and each decision at a host is found in the way that its worker's flow cache gives.
-- No other history is such a run, so that the plan says what is written
pub record IsReplay (plan : Plan) (h : List Event) : Type 0 where
  pub whole : IsWholeRun plan h
  pub ordered : IsInPlainOrder plan h
  pub ways : Ways plan h
  pub only : (other : List Event) → Run plan other → IsComplete plan other → IsInPlainOrder plan other → Ways plan other → other ≡ h

-- both files as they were when the call began, where they are told; what they plan is sound, and it was run
pub record Ran (names : Named) (files : Disk) : Type 0 where
  pub scenario : Scenario
  pub capture : Capture
  pub scenario_at : ScenarioAt files names.scenario scenario
  pub capture_at : CaptureAt files names.capture capture
  pub sound : IsSound (planned scenario capture)
  pub history : List Event
  pub replays : IsReplay (planned scenario capture) history

-- its trace; the frames that it delivered, as the input capture has them; the packets that it sent over the underlay; and its report
abbrev pub trace_in : (names : Named) (files : Disk) → Ran names files → List ℕ
trace_in names files ran = trace ran.history

abbrev pub delivered_in : (names : Named) (files : Disk) → Ran names files → List ℕ
delivered_in names files ran = delivered (planned ran.scenario ran.capture) ran.history

abbrev pub underlay_in : (names : Named) (files : Disk) → Ran names files → List ℕ
underlay_in names files ran = underlay (planned ran.scenario ran.capture) ran.history

abbrev pub report_in : (names : Named) (files : Disk) → Ran names files → List ℕ
report_in names files ran = report (planned ran.scenario ran.capture) ran.history
