use Rattle.and_top.proofs.Failing.{scenario_unread, scenario_refused}
use Rattle.and_top.proofs.inputs.scenario_in.Goals as goal

pub returns-in-Err-clause-refused : goal.returns-in-Err-clause-refused
returns-in-Err-clause-refused g c = rw c.read_fault.ensures (scenario_unread _ _ c.args.name.now c.in-Err.answer (record {
  calls = c.in-Err.ensures.call.0;
  before = c.in-Err.ensures.call.1;
  failed = c.in-Err.ensures.failed;
  calm_told = c.in-Err.ensures.calm_told;
  too_long = c.in-Err.ensures.too_long;
  exact = c.in-Err.ensures.exact;
}))

pub returns-clause-refused : goal.returns-clause-refused
returns-clause-refused g c =
    rw c.scenario_fault.ensures (scenario_refused _ _ c.args.name.now c.in-Ok.bytes.items c.in-Err-read_scenario.fault c.in-Ok.ensures.told c.in-Ok.ensures.within
    (rw (← c.deref.ensures.value) c.in-Err-read_scenario.ensures.refused))
