-- The replay of a plan, from what the run promises and the laws of every run; and the answers of a replay.
use Rattle.std.proofs.Common.{◌≡◌, ◌≤◌, ℕ, List, [], ◌∷◌, ◌++◌, Result, Ok, Err, ap, refl, ◌∙◌, subst, inr, arith}
use Rattle.and_capture.specs.declared.capture.Capture.{Capture}
use Rattle.and_events.specs.declared.event.Event.{Event}
use Rattle.and_events.specs.declared.plan.Plan.{Plan}
use Rattle.and_events.specs.declared.plan.Scenario.{Scenario}
use Rattle.and_events.specs.Complete.{IsComplete}
use Rattle.and_events.specs.Ordered.{IsInPlainOrder}
use Rattle.and_events.specs.Planned.{planned}
use Rattle.and_events.specs.Run.{Run}
use Rattle.and_events.specs.Sound.{IsSound}
use Rattle.and_laws.proofs.Complete.{one_fate}
use Rattle.and_laws.proofs.Fates.{accounted}
use Rattle.and_laws.proofs.Following.{running_ports}
use Rattle.and_laws.proofs.Justified.{just}
use Rattle.and_laws.proofs.Offloading.{right_offloads}
use Rattle.and_laws.proofs.Needs.{fresh}
use Rattle.and_others.specs.Ways.{Ways}
use Rattle.and_others.proofs.Once.{one_way_run}
use Rattle.and_outputs.specs.Delivered.{delivered}
use Rattle.and_outputs.specs.Underlay.{underlay}
use Rattle.and_report.specs.Report.{report}
use Rattle.and_trace.specs.Spelling.{HaveSpellings, IsSpelled, trace}
use Rattle.and_trace.proofs.Runs.{runs_have_spellings}
use Rattle.and_top.specs.declared.texts.Texts.{Texts}
use Rattle.and_outside.specs.Disk.{Disk}
use Rattle.and_planner.proofs.Planned.{planned_is_sound}
use Rattle.and_top.specs.declared.answers.Which.TheVariants as which
use Rattle.and_top.specs.declared.answers.Fault.{Fault}
use Rattle.and_top.specs.declared.answers.Fault.TheVariants as faults
use Rattle.and_top.specs.Answers.{AllStand, Answers, Done, Outputs, Stands, Writes, outputs_in, trace_name, delivered_name, underlay_name}
use Rattle.and_top.specs.Headline.{IsReplay, IsWholeRun, Ran}
use Rattle.and_top.specs.Inputs.{ScenarioAt, CaptureAt}
use Rattle.and_top.specs.Outside.{Calls, Stays}
use Rattle.and_top.proofs.Storing.{calls_more, failed_more, stands_later}
use Rattle.and_planner.specs.Plans.{CanPlan}
use Rattle.and_outside.specs.Stream.{Stream}
use Rattle.and_top.specs.Words.{Named}
use Rattle.and_top.proofs.PlansLemmas.{can_plan}
use Rattle.and_top.specs.Texts.{AreTexts, outputs_of}

-- what comes before an event of a run is a run
earlier_runs : (plan : Plan) (later earlier : List Event) → Run plan (later ++ earlier) → Run plan earlier
unfolding Run
earlier_runs plan [] earlier run = run
earlier_runs plan (e ∷ later) earlier run = earlier_runs plan later earlier run.0

-- what every run of a sound plan to its end has
pub is_whole_run : (plan : Plan) (h : List Event) → IsSound plan → Run plan h → IsComplete plan h → (HaveSpellings h → IsSpelled h) → IsWholeRun plan h
is_whole_run plan h sound run complete spelled =
    record {
      run = run;
      complete = complete;
      fates = one_fate plan h sound run complete;
      just = just plan h sound run;
      fresh = fresh plan h run;
      offloads = right_offloads plan h sound run;
      ports = λ later earlier is. running_ports plan earlier sound (earlier_runs plan later earlier (subst (Run plan) is run));
      accounted = λ later earlier is. accounted plan earlier (earlier_runs plan later earlier (subst (Run plan) is run));
      spelled = spelled (runs_have_spellings plan h run);
    }

pub is_replay : (plan : Plan) (h : List Event) → IsSound plan → Run plan h → IsComplete plan h → IsInPlainOrder plan h → Ways plan h → (HaveSpellings h → IsSpelled h) → IsReplay plan h
is_replay plan h sound run complete ordered ways spelled =
    record {
      whole = is_whole_run plan h sound run complete spelled;
      ordered = ordered;
      ways = ways;
      only = λ other run' complete' ordered' ways'. one_way_run plan h other sound run complete ordered ways run' complete' ordered' ways';
    }

-- what a run of the plan writes
pub texts_are : (scenario : Scenario) (capture : Capture) (plan other : Plan) (h : List Event) (texts : Texts) → plan ≡ planned scenario capture → IsSound plan → Run plan h → IsComplete plan h
    → IsInPlainOrder plan h → Ways plan h → other ≡ plan → (HaveSpellings h → IsSpelled h) → texts.trace.items ≡ trace h → texts.delivered.items ≡ delivered other h
    → texts.underlay.items ≡ underlay other h → texts.report.items ≡ report other h → AreTexts scenario capture texts
texts_are scenario capture plan other h texts is sound run complete ordered ways same spelled t d u r =
    record {
      history = h;
      replays = subst (λ p. IsReplay p h) is (is_replay plan h sound run complete ordered ways spelled);
      trace = t;
      delivered = d ∙ ap (λ p. delivered p h) (same ∙ is);
      underlay = u ∙ ap (λ p. underlay p h) (same ∙ is);
      report = r ∙ ap (λ p. report p h) (same ∙ is);
    }

-- ---- the answer

module _ (names : Named) (old mid new : Disk) (o : Outputs) (stays : Stays old mid) (two : Calls 2 old mid) where
  no_less : old.write_faults ≤ mid.write_faults
  no_less = omega (arith, stays.write_faults)

  later : (name text : List ℕ) → Stands name mid new text → Stands name old new text
  later name text s = stands_later name old mid new text (stays.contents name) stays.tells s

  all_later : AllStand names mid new o → AllStand names old new o
  all_later all = record {
    trace = later (trace_name names) o.trace all.trace;
    delivered = later (delivered_name names) o.delivered all.delivered;
    underlay = later (underlay_name names) o.underlay all.underlay;
  }

  -- what was written after the reads
  written : (before after : Stream) (result : Result (Unit {0}) Fault) → Writes 1 names mid new before after o result → Writes 3 names old new before after o result
  written before after (Ok done) w = (calls_more 2 3 old mid new stays.read_faults no_less stays.taken two w.0, all_later w.1, w.2)
  written before after (Err (faults.Write which.Trace)) w = (
    failed_more 2 1 old mid new stays.read_faults no_less stays.taken two w.0,
    w.1 ∙ stays.contents (delivered_name names),
    w.2 ∙ stays.contents (underlay_name names),
    w.3,
  )
  written before after (Err (faults.Write which.Delivered)) w = (
    failed_more 2 2 old mid new stays.read_faults no_less stays.taken two w.0,
    later (trace_name names) o.trace w.1,
    w.2 ∙ stays.contents (underlay_name names),
    w.3,
  )
  written before after (Err (faults.Write which.Underlay)) w = (
    failed_more 2 3 old mid new stays.read_faults no_less stays.taken two w.0,
    later (trace_name names) o.trace w.1,
    later (delivered_name names) o.delivered w.2,
    w.3,
  )
  written before after (Err (faults.Write which.Report)) w = (calls_more 2 3 old mid new stays.read_faults no_less stays.taken two w.0, all_later w.1, w.2)
  written before after (Err fault) w = absurd w

same_outputs : (t t' d d' u u' r r' : List ℕ) → t ≡ t' → d ≡ d' → u ≡ u' → r ≡ r' → let old : Outputs = record { trace = t; delivered = d; underlay = u; report = r } in
    let new : Outputs = record { trace = t'; delivered = d'; underlay = u'; report = r' } in old ≡ new
same_outputs t t' d d' u u' r r' et ed eu er = rw (et, ed, eu, er) refl

answer_done : (names : Named) (old new : Disk) (before after : Stream) (result : Result (Unit {0}) Fault) → Done names old new before after result → Answers names old new before after result
answer_done names old new before after (Ok done) d = d
answer_done names old new before after (Err fault) d = inr d

pub answers : (names : Named) (old mid new : Disk) (before after : Stream) (scenario : Scenario) (capture : Capture) (texts : Texts) (result : Result (Unit {0}) Fault)
    → Stays old mid → Calls 2 old mid → ScenarioAt old names.scenario scenario → CaptureAt old names.capture capture → AreTexts scenario capture texts
    → Writes 1 names mid new before after (outputs_of texts) result → Answers names old new before after result
answers names old mid new before after scenario capture texts result stays two at_scenario at_capture are w =
    let can : CanPlan scenario capture = can_plan at_scenario.bytes at_capture.bytes scenario capture at_scenario.text at_capture.reads in
    let ran : Ran names old = record {
      scenario = scenario;
      capture = capture;
      scenario_at = at_scenario;
      capture_at = at_capture;
      sound = planned_is_sound scenario capture can.is can.few_frames;
      history = are.history;
      replays = are.replays;
    } in
    let same : outputs_of texts ≡ outputs_in names old ran = same_outputs _ _ _ _ _ _ _ _ are.trace are.delivered are.underlay are.report in
    answer_done names old new before after result (ran, subst (λ o. Writes 3 names old new before after o result) same (written names old mid new (outputs_of texts) stays two before after result w))
