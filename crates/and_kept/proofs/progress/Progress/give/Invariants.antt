use Rattle.std.proofs.Common.{◌≡◌, drop}
use Rattle.and_events.specs.Programming.{Orders, programmes_after}
use Rattle.and_kept.specs.Nodes.{nodes_in}
use Rattle.and_kept.proofs.OrdersLemmas.{CanGive}
use Rattle.and_kept.proofs.progress.Progress.give.Given as goal

-- the orders that are left make of the programmes what all of them make of the first ones
abbrev pub invariant-loop-given : goal.invariant-loop-given
invariant-loop-given l = record {
  programmes : programmes_after l.self.programmes (Orders (drop l.given-index l.orders)) ≡ programmes_after l.fn.self.programmes (Orders l.orders);
  limit : l.self.limit ≡ l.fn.self.limit;
  held : l.self.held ≡ l.fn.self.held;
  least : l.self.least ≡ l.fn.self.least;
  can : CanGive (nodes_in l.self) (drop l.given-index l.orders);
}
