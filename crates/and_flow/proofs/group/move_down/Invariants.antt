use Rattle.std.proofs.Common.{◌≡◌}
use Rattle.and_flow.proofs.Moved.{moved}
use Rattle.and_flow.proofs.group.move_down.Given as goal

abbrev pub invariant-loop-to : goal.invariant-loop-to
invariant-loop-to g l = l.list ≡ moved l.initial.list l.at l.to
