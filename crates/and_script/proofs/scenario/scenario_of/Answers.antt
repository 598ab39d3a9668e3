use Rattle.serde_json.specs.View.{view}
use Rattle.and_script.proofs.Plannable.{answer_fits}
use Rattle.and_script.proofs.scenario.scenario_of.Goals as goal

pub returns-clause-fits : goal.returns-clause-fits
returns-clause-fits c = (answer_fits (view c.args.value.now) c.scenario_in.result c.scenario_in.ensures.found).0

pub returns-clause-defaults : goal.returns-clause-defaults
returns-clause-defaults c = (answer_fits (view c.args.value.now) c.scenario_in.result c.scenario_in.ensures.found).1
