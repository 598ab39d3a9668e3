use Rattle.std.proofs.Common.{◌≡◌, length, take}
use Rattle.std.specs.List.{All}
use Rattle.and_kept.specs.Nodes.{HasRoomFor}
use Rattle.and_kept.proofs.nodes.Nodes.room_for.Given as goal

-- the hosts of the orders so far have room
abbrev pub invariant-loop-given : goal.invariant-loop-given
invariant-loop-given l = record {
  programmes : l.self.programmes ≡ l.fn.self.programmes;
  limit : l.self.limit ≡ l.fn.self.limit;
  least : l.self.least ≡ l.fn.self.least;
  room : All (λ g. HasRoomFor l.self (length l.orders) g.host) (take l.given-index l.orders);
}
