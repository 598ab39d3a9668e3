use Rattle.std.proofs.Common.{take, length, ◌-◌}
use Rattle.and_policy.specs.Placements.{ArePlacements, HasRoom}
use Rattle.and_outputs.proofs.underlay.places_of.Given as goal

abbrev pub invariant-loop-entry : goal.invariant-loop-entry
invariant-loop-entry l = record {
  are : ArePlacements l.places (take l.entry-index l.log);
  room : HasRoom (length l.log - l.entry-index) l.places;
}
