use Rattle.std.proofs.Common.{◌≡◌, ◌≤◌, length, drop}
use Rattle.std.specs.List.{list_any}
use Rattle.and_policy.specs.Deletions.{deletes_some_route}
use Rattle.and_policy.specs.Routes.{deciding_route}
use Rattle.and_policy.specs.Logged.{entries_in}
use Rattle.and_policy.specs.Logs as logs
use Rattle.and_policy.proofs.plain.routes.route_in.Given as goal

abbrev pub invariant-loop-at : goal.invariant-loop-at
invariant-loop-at g l = (l.at ≤ length l.log) × (l.some ≡ list_any (deletes_some_route l.net) (entries_in g.T.Logged.entry_of (drop l.at l.log))) × (l.best ≡ deciding_route l.address (logs.routes (entries_in g.T.Logged.entry_of (drop l.at l.log)) l.net))

abbrev pub decreases-loop-at : goal.decreases-loop-at
decreases-loop-at g l = l.at
