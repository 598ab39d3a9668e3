-- What a replay writes, and the names of its files.
use Rattle.std.specs.Prelude.{◌≡◌, ℕ, List, ◌++◌, codes, string_bytes}
use Rattle.and_capture.specs.declared.capture.Capture.{Capture}
use Rattle.and_events.specs.declared.event.Event.{Event}
use Rattle.and_events.specs.declared.plan.Scenario.{Scenario}
use Rattle.and_events.specs.Planned.{planned}
use Rattle.and_outputs.specs.Delivered.{delivered}
use Rattle.and_outputs.specs.Underlay.{underlay}
use Rattle.and_report.specs.Report.{report}
use Rattle.and_trace.specs.Spelling.{trace}
use Rattle.and_top.specs.declared.texts.Texts.{Texts}
use Rattle.and_top.specs.declared.replaying.Written.{Written}
use Rattle.and_top.specs.Answers.{Outputs}
use Rattle.and_top.specs.Headline.{IsReplay}

-- the bytes of the four
abbrev pub outputs_of : Texts → Outputs
outputs_of texts = record { trace = texts.trace.items; delivered = texts.delivered.items; underlay = texts.underlay.items; report = texts.report.items }

-- the names of the files, which begin with this
pub record AreNames (out : List ℕ) (written : Written) : Type 0 where
  pub trace : string_bytes written.trace ≡ out ++ codes ".trace"
  pub delivered : string_bytes written.delivered ≡ out ++ codes ".delivered.pcap"
  pub underlay : string_bytes written.underlay ≡ out ++ codes ".underlay.pcap"

-- they are the trace, the captures and the report of one replay of the plan
pub record AreTexts (scenario : Scenario) (capture : Capture) (texts : Texts) : Type 0 where
  pub history : List Event
  pub replays : IsReplay (planned scenario capture) history
  pub trace : texts.trace.items ≡ trace history
  pub delivered : texts.delivered.items ≡ delivered (planned scenario capture) history
  pub underlay : texts.underlay.items ≡ underlay (planned scenario capture) history
  pub report : texts.report.items ≡ report (planned scenario capture) history
