use Rattle.std.proofs.Common.{◌≡◌, ◌≤◌, ◌-◌, ◌++◌, length, take, drop}
use Rattle.and_policy.specs.Sorting.{place, smaller_route}
use Rattle.and_routes.proofs.bucket.place_of.Given as goal

abbrev pub invariant-loop-at : goal.invariant-loop-at
invariant-loop-at l = record {
  within : l.at ≤ length l.routes;
  placed : place smaller_route l.route l.routes ≡ take l.at l.routes ++ place smaller_route l.route (drop l.at l.routes);
}

abbrev pub decreases-loop-at : goal.decreases-loop-at
decreases-loop-at l = length l.routes - l.at
