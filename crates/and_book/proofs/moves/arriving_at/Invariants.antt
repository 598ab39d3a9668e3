use Rattle.std.proofs.Common.{◌≡◌, ◌<◌, ℕ, false}
use Rattle.and_events.specs.Ports.{is_arriving, port_at}
use Rattle.and_book.proofs.moves.arriving_at.Given as goal

-- the VM arrives at no host so far
abbrev pub invariant-loop-host : goal.invariant-loop-host
invariant-loop-host l = record {
  none : (k : ℕ) → k < l.host → is_arriving (port_at l.ports k l.vm) ≡ false;
}
