use Rattle.std.proofs.Common.{◌≡◌, ◌-◌, ◌∙◌, refl, sym, ap, subst, ◌∷◌, ◌++◌, [], List, vec_len, vec_capacity, length, arith}
use Rattle.and_policy.specs.declared.decision.Outcome.TheVariants as outcomes
use Rattle.and_events.specs.declared.event.Event.{Event}
use Rattle.and_events.specs.declared.event.Event.TheVariants.{Ingress}
use Rattle.and_events.specs.declared.event.Line.{Line}
use Rattle.and_events.specs.declared.event.Queue.TheVariants.{Wire}
use Rattle.and_events.specs.declared.plan.Plan.{Plan}
use Rattle.and_events.specs.Places.{hand_place, node_of}
use Rattle.and_events.specs.Flow.{carried_in}
use Rattle.and_events.specs.State.{State, state, move_of, tuple_at, host_of, arrives, carried_at}
use Rattle.and_events.specs.Run.{past}
use Rattle.and_laws.proofs.Capacity.{queues_within}
use Rattle.and_kept.specs.declared.traffic.Holder.{Holder}
use Rattle.and_kept.specs.Lanes.{Roads}
use Rattle.and_kept.specs.Moves.{hand_of}
use Rattle.and_kept.specs.Settling.{LeadsLanding, arrival_of}
use Rattle.and_book.specs.Views.{BookView, now, IsSeat, IsPacket}
use Rattle.and_book.specs.Settling.{MaySettleIngress, landing_said, ingress_event}
use Rattle.and_book.specs.Inside.{Kept, Keeps, kept_of}
use Rattle.and_book.proofs.More.{unprepared, seen, as_kept}
use Rattle.and_book.proofs.Arriving.{legal_ingress, leads_landing}
use Rattle.and_book.proofs.FromHand.{IsFrom, ingress_uses, arrives_from, ingress_moves}
use Rattle.and_book.proofs.Settled.{worker_handles}
use Rattle.and_book.proofs.Settling.{known_packet, may_move, settled_keeps}
use Rattle.and_book.proofs.book.Book.settle_ingress.Goals as goal

pub holder-from-requires : goal.holder-from-requires
holder-from-requires c =
    let x = c.self.inside in
    let ready = seen x c.args.self.now c.self.view_is (λ (b : BookView). MaySettleIngress b.plan (now b) c.args.actor c.args.parcel.packet c.args.decision) c.requires.ready in
    let known = known_packet x.plan x.threads x.lines.items (kept_of x) _ c.self.invariant.keeps c.args.actor ready.decides.need Wire c.args.parcel ready.decides.holds in
    omega (arith, known, c.packet-packet.ensures)

pub settle_landing-arrival-requires-clause-may : goal.settle_landing-arrival-requires-clause-may
settle_landing-arrival-requires-clause-may c =
    let x = c.self.inside in
    let a = c.args.actor in
    let ready = seen x c.args.self.now c.self.view_is (λ (b : BookView). MaySettleIngress b.plan (now b) a c.args.parcel.packet c.args.decision) c.requires.ready in
    may_move x.plan x.threads x.lines.items (kept_of x) _ c.self.invariant.keeps a ready.decides.need Wire c.args.parcel ready.decides.holds c.holder-from.result
    ready.decides.actor (worker_handles a ready.worker) (ap (λ (f : Holder). f.actor) c.holder-from.ensures)

pub settle_landing-arrival-requires-clause-leads : goal.settle_landing-arrival-requires-clause-leads
settle_landing-arrival-requires-clause-leads c =
    let x = c.self.inside in
    let inv = c.self.invariant.keeps in
    let here = host_of (node_of c.holder-from.result.actor) in
    let said = c.landing_in-said.result in
    subst (λ v. LeadsLanding v x.ports here said) (sym inv.sized.settings)
    (subst (λ rows. LeadsLanding x.plan.settings rows here said) (sym inv.stands.ports) (leads_landing x.plan (past x.lines.items) here said inv.sound inv.run))

pub invariant_of-self : goal.invariant_of-self
invariant_of-self c =
    let x = c.self.inside in
    let plan : Plan = x.plan in
    let s : State = state plan (past x.lines.items) in
    let k : Kept = kept_of x in
    let inv = c.self.invariant.keeps in
    let st = inv.stands in
    let a = c.args.actor in
    let i = c.args.parcel.packet in
    let d = c.args.decision in
    let f : Holder = c.holder-from.result in
    let arrival = c.settle_landing-arrival.result in
    let lines : List Line = x.lines.items in
    let lines' : List Line = c.note.new.lines.items in
    let spare' = vec_capacity c.note.new.lines - vec_len c.note.new.lines in
    let ready = seen x c.args.self.now c.self.view_is (λ (b : BookView). MaySettleIngress b.plan (now b) a i d) c.requires.ready in
    let parcel = seen x c.args.self.now c.self.view_is (λ (b : BookView). IsPacket b.plan c.args.parcel) c.requires.parcel in
    let seat = seen x c.args.self.now c.self.view_is (λ (b : BookView). IsSeat b c.args.seat a) c.requires.seat in
    let from : f ≡ record { actor = a; tuple = tuple_at plan i } = c.holder-from.ensures ∙ ap (λ j. record { actor = a; tuple = tuple_at plan j }) c.packet-packet.ensures in
    let e : Event = ingress_event plan s a i d.at d.way in
    let here = host_of (node_of a) in
    let word : outcomes.Landing c.landing_in-said.result ≡ outcomes.Landing (landing_said plan s a i d.at) = sym c.landing_in-said.ensures ∙ ready.said in
    let said : c.landing_in-said.result ≡ landing_said plan s a i d.at = cc word in
    let arrived : arrival ≡ arrival_of plan.settings s.flow s.ports here (tuple_at plan i) i (landing_said plan s a i d.at) =
    c.settle_landing-arrival.ensures.arrival
    ∙ (ap (λ (y : Holder). arrival_of k.roads.settings k.roads.flow k.ports (host_of (node_of y.actor)) y.tuple i c.landing_in-said.result) from
    ∙ (as_kept plan s k (λ v g. arrival_of v g k.ports here (tuple_at plan i) i c.landing_in-said.result) inv.sized.settings st.flow
    ∙ (ap (λ ps. arrival_of plan.settings s.flow ps here (tuple_at plan i) i c.landing_in-said.result) st.ports
    ∙ ap (arrival_of plan.settings s.flow s.ports here (tuple_at plan i) i) said))) in
    let is : Ingress a c.packet-packet.result d.at d.way arrival ≡ e = ap (λ j. Ingress a j d.at d.way arrival) c.packet-packet.ensures ∙ ap (Ingress a i d.at d.way) arrived in
    let move : arrives k.roads.settings (carried_in k.roads.flow.carried i) (hand_of k.roads f) i arrival ≡ move_of plan s e =
    ap (λ (y : Holder). arrives k.roads.settings (carried_in k.roads.flow.carried i) (hand_of k.roads y) i arrival) from
    ∙ (as_kept plan s k (λ v g. arrives v (carried_in g.carried i) (hand_place v a) i arrival) inv.sized.settings st.flow
    ∙ (ap (arrives plan.settings (carried_at s i) (hand_place plan.settings a) i) arrived ∙ ingress_moves plan s a i d.at d.way _)) in
    let sized = ap (λ g. length g.queues) (sym st.flow) ∙ inv.sizes.queues in
    let leads = leads_landing plan (past lines) here (landing_said plan s a i d.at) inv.sound inv.run in
    record {
      keeps = subst (λ (r : Roads). Keeps plan x.threads lines' (record k { roads = r }) spare') (sym c.settle_landing-arrival.ensures.moved)
          (settled_keeps plan x.threads lines k _ inv a ready.decides.need Wire c.args.parcel ready.decides.holds lines' spare' c.args.seat e f _ k.reviews
          (legal_ingress plan s a i d.at d.way ready.decides ready.worker inv.sound.settings.gateways.0 leads sized (queues_within plan (past lines) inv.run)) tt refl from seat
          (c.note.ensures.items ∙ ap (λ (y : Event). lines ++ record { seat = c.args.seat; event = y } ∷ []) is) parcel move
          (subst (IsFrom (hand_place plan.settings a) i) (ingress_moves plan s a i d.at d.way _) (arrives_from plan.settings (hand_place plan.settings a) i (carried_at s i) _))
          (omega (arith, c.note.ensures.len, c.note.ensures.capacity)) (ingress_uses plan a i d.at d.way _ k.reviews));
      due = unprepared c.note.new.prepared c.note.ensures.prepared;
    }
