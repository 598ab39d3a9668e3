use Rattle.std.proofs.Common.{rules}
use Rattle.and_planner.proofs.Planning.{plan_made}
use Rattle.and_planner.proofs.making.made.Goals as goal

pub returns : goal.returns
returns c = record {
  planned = plan_made c.args.scenario c.args.capture c.in_ok-planner.planner c.push.new.self c.in_ok-to_log.field-0 c.len-frames.result c.len.result
      (search rules) (search rules) (search rules) (search rules) (search rules);
}
