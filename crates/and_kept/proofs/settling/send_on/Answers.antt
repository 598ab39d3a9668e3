use Rattle.std.proofs.Common.{◌≡◌, ◌∙◌, ap}
use Rattle.and_events.specs.declared.event.Carried.{Carried}
use Rattle.and_events.specs.Flow.{carried_in}
use Rattle.and_events.specs.State.{send}
use Rattle.and_kept.specs.Moves.{hand_of, moved}
use Rattle.and_kept.proofs.settling.send_on.Goals as goal

pub returns-clause-moved : goal.returns-clause-moved
returns-clause-moved c =
    let t = c.args.traffic.now in
    let i = c.args.parcel.packet in
    let net : c.carried-net.result.net ≡ (carried_in t.flow.carried i).net =
    ap (λ (x : Carried). x.net) c.carried-net.ensures.is ∙ ap (λ j. (carried_in t.flow.carried j).net) c.packet.ensures in
    c.send.ensures.moved ∙ ap (λ n. moved t c.args.from c.args.parcel (send t.settings (hand_of t c.args.from) i c.send.result c.args.target n)) net
