use Rattle.std.proofs.Common.{◌∙◌, length, take, subst, arith}
use Rattle.std.specs.List.{All}
use Rattle.std.proofs.lemmas.List.{take_all}
use Rattle.std.proofs.lemmas.List.Elements.{All-more, All-weaker}
use Rattle.and_events.specs.declared.event.Given.{Given}
use Rattle.and_kept.specs.Nodes.{HasRoomFor}
use Rattle.and_kept.proofs.OrdersLemmas.{room_stays}
use Rattle.and_kept.proofs.nodes.Nodes.room_for.Goals as goal

pub loop-given-preserved : goal.loop-given-preserved
loop-given-preserved c =
    let v = c.loop-given.self in
    let v' = c.make_room.new.self in
    let orders = c.args.orders.now in
    record {
      programmes = c.make_room.ensures.programmes ∙ c.loop-given.invariant.programmes;
      limit = c.make_room.ensures.limit ∙ c.loop-given.invariant.limit;
      least = c.make_room.ensures.least ∙ c.loop-given.invariant.least;
      room = All-more (λ (g : Given). HasRoomFor v' (length orders) g.host) orders c.loop-given.given-index _ c.loop-given-test.true
          (All-weaker (λ (g : Given). HasRoomFor v (length orders) g.host) (λ g. HasRoomFor v' (length orders) g.host)
          (λ g. room_stays v v' (length orders) g.host c.make_room.ensures.programmes c.make_room.ensures.limit c.make_room.ensures.never_less) (take c.loop-given.given-index orders) c.loop-given.invariant.room)
          c.in_ok-make_room.ensures.room;
    }

pub returns-clause-room : goal.returns-clause-room
returns-clause-room c =
    let orders = c.args.orders.now in
    let all = take_all c.loop-given.given-index orders (omega arith) in
    subst (All (λ (g : Given). HasRoomFor c.loop-given.self (length orders) g.host)) all c.loop-given.invariant.room
