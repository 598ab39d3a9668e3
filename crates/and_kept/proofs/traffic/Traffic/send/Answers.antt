use Rattle.std.proofs.Common.{◌≡◌, ◌∙◌, ap, subst, sym}
use Rattle.and_events.specs.declared.event.Node.{Node}
use Rattle.and_events.specs.declared.event.Queue.TheVariants.{Wire}
use Rattle.and_events.specs.declared.plan.Settings.{Settings}
use Rattle.and_events.specs.Flow.{Flow, Send, carried_in, pushed}
use Rattle.and_events.specs.Places.{hand_place, node_of, queue_place, IsSmall}
use Rattle.and_events.specs.State.{node_at}
use Rattle.and_kept.specs.Busy.{HallView}
use Rattle.and_kept.specs.Outers.{HasAddress, wrapped}
use Rattle.and_kept.specs.Settling.{queue_to}
use Rattle.and_kept.specs.Lanes.{Roads, with_parcel}
use Rattle.and_kept.specs.Moves.{hand_of, moved}
use Rattle.and_kept.proofs.MovesLemmas.{actor_node, addressed, sent_on}
use Rattle.and_kept.proofs.traffic.Traffic.send.Goals as goal

pub wrap_to-requires-clause-node : goal.wrap_to-requires-clause-node
wrap_to-requires-clause-node c =
    let t : Roads = c.args.self.now in
    let is = actor_node t.settings c.args.from.actor c.requires.may.actor c.requires.may.handles in
    let small = subst IsSmall c.settings-settings.ensures.is c.settings-settings.ensures.small in
    let settings : c.self.inside.hall.settings ≡ t.settings = ap (λ (v : Roads). v.settings) c.self.view_is in
    subst HasAddress (sym c.node_of.ensures) (addressed t.settings (node_of c.args.from.actor) (subst IsSmall settings small) is)

pub wrap_to-requires-clause-target : goal.wrap_to-requires-clause-target
wrap_to-requires-clause-target c =
    let t : Roads = c.args.self.now in
    let small = subst IsSmall c.settings-settings.ensures.is c.settings-settings.ensures.small in
    let settings : c.self.inside.hall.settings ≡ t.settings = ap (λ (v : Roads). v.settings) c.self.view_is in
    addressed t.settings (node_at c.args.target) (subst IsSmall settings small) c.requires.target

pub returns-clause-moved : goal.returns-clause-moved
returns-clause-moved c =
    let x = c.self.inside in
    let h : HallView = x.hall in
    let t : Roads = record { settings = h.settings; flow = record { queues = h.queues; hands = h.hands; carried = x.carried.items }; parcels = h.parcels; held = h.held } in
    let w = c.wrap_to.new.parcel in
    let q = c.queue_place-queue.result in
    let last : HallView = c.enter.new.self in
    let flow : Flow = record { queues = last.queues; hands = last.hands; carried = c.note_send.new.carried.items } in
    let cleared = c.clear.ensures in
    let settings = c.enter.ensures.settings ∙ ap (λ (y : HallView). y.settings) cleared in
    let held = c.enter.ensures.held ∙ ap (λ (y : HallView). y.held) cleared in
    let same = c.settings-settings.ensures.is in
    subst (λ (v : Roads). record { settings = last.settings; flow = flow; parcels = last.parcels; held = last.held }
    ≡ moved v c.args.from c.args.parcel (Send (hand_of v c.args.from) (queue_to v.settings c.args.target) c.args.parcel.packet c.args.net c.args.target)) c.self.view_is
    (ap (λ v. record { settings = v; flow = flow; parcels = last.parcels; held = last.held }) settings
    ∙ (ap (λ m. record { settings = h.settings; flow = flow; parcels = last.parcels; held = m }) held
    ∙ sent_on t c.args.from c.args.parcel w c.hand_place.result q c.packet-packet.result c.carried-carried.result c.args.net c.args.target
    last.queues last.hands c.note_send.new.carried.items last.parcels
    c.packet-packet.ensures (c.hand_place.ensures.place ∙ ap (λ (v : Settings). hand_place v c.args.from.actor) same)
    (c.queue_place-queue.ensures.place ∙ (ap (λ (n : Node). queue_place c.settings-settings.result n Wire) c.node_at.ensures ∙ ap (λ (v : Settings). queue_to v c.args.target) same))
    (c.carried-carried.ensures.is ∙ ap (λ (v : Roads). carried_in v.flow.carried c.packet-packet.result) (sym c.self.view_is))
    (c.wrap_to.ensures ∙ ap (λ n. wrapped n c.args.from.tuple c.carried-carried.result c.args.parcel c.args.net c.args.target) c.node_of.ensures)
    (c.if-enter.ensures.queues ∙ ap (λ (y : HallView). pushed y.queues q w.packet) cleared)
    (c.enter.ensures.hands ∙ ap (λ (y : HallView). y.hands) cleared) c.note_send.ensures
    (c.if-enter.ensures.parcels ∙ ap (λ (y : HallView). with_parcel y.parcels q w) cleared)))
