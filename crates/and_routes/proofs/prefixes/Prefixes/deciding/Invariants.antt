use Rattle.std.proofs.Common.{◌≡◌, ◌≤◌, List}
use Rattle.and_policy.specs.declared.entry.Entry.{Entry}
use Rattle.and_policy.specs.Logs as logs
use Rattle.and_policy.specs.Routes.{deciding_route}
use Rattle.and_routes.specs.Buckets.{IsPrefixes, best_below}
use Rattle.and_routes.proofs.prefixes.Prefixes.deciding.Given as goal

abbrev pub invariant-loop-length : goal.invariant-loop-length
invariant-loop-length l = record {
  within : l.length ≤ 33;
  same : (k : List Entry) → IsPrefixes l.self k → deciding_route l.address (logs.routes k l.net) ≡ best_below l.length l.address (logs.routes k l.net);
}

abbrev pub decreases-loop-length : goal.decreases-loop-length
decreases-loop-length l = l.length
