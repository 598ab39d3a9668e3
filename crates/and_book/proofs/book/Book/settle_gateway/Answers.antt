use Rattle.std.proofs.Common.{◌≡◌, ◌-◌, ◌∙◌, sym, ap, subst, ◌∷◌, ◌++◌, [], List, vec_len, vec_capacity, length, arith}
use Rattle.and_policy.specs.declared.decision.GateDecision.{GateDecision}
use Rattle.and_events.specs.declared.event.Event.{Event}
use Rattle.and_events.specs.declared.event.Line.{Line}
use Rattle.and_events.specs.declared.event.Queue.TheVariants.{Wire}
use Rattle.and_events.specs.declared.plan.Plan.{Plan}
use Rattle.and_events.specs.Places.{hand_place}
use Rattle.and_events.specs.State.{State, state, move_of, tuple_at}
use Rattle.and_events.specs.Run.{past}
use Rattle.and_laws.proofs.Capacity.{queues_within}
use Rattle.and_kept.specs.declared.traffic.Holder.{Holder}
use Rattle.and_kept.specs.Lanes.{Roads}
use Rattle.and_kept.specs.Moves.{hand_of}
use Rattle.and_kept.specs.Settling.{LeadsGate, gate_event, gate_move}
use Rattle.and_book.specs.Views.{BookView, now, IsSeat, IsPacket}
use Rattle.and_book.specs.Settling.{MaySettleGateway}
use Rattle.and_book.specs.Inside.{Kept, Keeps, kept_of}
use Rattle.and_book.proofs.More.{unprepared, seen, as_kept}
use Rattle.and_book.proofs.FromHand.{IsFrom, gate_uses, gate_from, gate_moves, gate_settles}
use Rattle.and_book.proofs.Leading.{known_entries, leads_gate}
use Rattle.and_book.proofs.Settled.{legal_gate, gateway_node, gate_actor, gateway_handles}
use Rattle.and_book.proofs.Settling.{known_packet, may_move, settled_keeps}
use Rattle.and_book.proofs.book.Book.settle_gateway.Goals as goal

pub holder-from-requires : goal.holder-from-requires
holder-from-requires c =
    let x = c.self.inside in
    let ready = seen x c.args.self.now c.self.view_is (λ (b : BookView). MaySettleGateway b.plan (now b) c.args.actor c.args.parcel.packet c.args.decision) c.requires.ready in
    let known = known_packet x.plan x.threads x.lines.items (kept_of x) _ c.self.invariant.keeps c.args.actor ready.decides.need Wire c.args.parcel ready.decides.holds in
    omega (arith, known, c.packet.ensures)

pub settle_gate-event-requires-clause-may : goal.settle_gate-event-requires-clause-may
settle_gate-event-requires-clause-may c =
    let x = c.self.inside in
    let a = c.args.actor in
    let ready = seen x c.args.self.now c.self.view_is (λ (b : BookView). MaySettleGateway b.plan (now b) a c.args.parcel.packet c.args.decision) c.requires.ready in
    may_move x.plan x.threads x.lines.items (kept_of x) _ c.self.invariant.keeps a ready.decides.need Wire c.args.parcel ready.decides.holds c.holder-from.result
    ready.decides.actor (gateway_handles a ready.worker) (ap (λ (f : Holder). f.actor) c.holder-from.ensures)

pub settle_gate-event-requires-clause-leads : goal.settle_gate-event-requires-clause-leads
settle_gate-event-requires-clause-leads c =
    let x = c.self.inside in
    let inv = c.self.invariant.keeps in
    let ready = seen x c.args.self.now c.self.view_is (λ (b : BookView). MaySettleGateway b.plan (now b) c.args.actor c.args.parcel.packet c.args.decision) c.requires.ready in
    subst (λ v. LeadsGate v c.args.decision) (sym inv.sized.settings)
    (leads_gate x.plan (state x.plan (past x.lines.items)) c.args.actor c.args.parcel.packet c.args.decision
    (λ at. known_entries x.plan (past x.lines.items) c.args.actor at inv.sound inv.run (gateway_node x.plan.settings c.args.actor ready.worker ready.decides.actor)) ready.decision)

pub invariant_of-self : goal.invariant_of-self
invariant_of-self c =
    let x = c.self.inside in
    let plan : Plan = x.plan in
    let s : State = state plan (past x.lines.items) in
    let k : Kept = kept_of x in
    let inv = c.self.invariant.keeps in
    let st = inv.stands in
    let a = c.args.actor in
    let i = c.args.parcel.packet in
    let d : GateDecision = c.args.decision in
    let f : Holder = c.holder-from.result in
    let lines : List Line = x.lines.items in
    let lines' : List Line = c.note.new.lines.items in
    let spare' = vec_capacity c.note.new.lines - vec_len c.note.new.lines in
    let ready = seen x c.args.self.now c.self.view_is (λ (b : BookView). MaySettleGateway b.plan (now b) a i d) c.requires.ready in
    let parcel = seen x c.args.self.now c.self.view_is (λ (b : BookView). IsPacket b.plan c.args.parcel) c.requires.parcel in
    let seat = seen x c.args.self.now c.self.view_is (λ (b : BookView). IsSeat b c.args.seat a) c.requires.seat in
    let from : f ≡ record { actor = a; tuple = tuple_at plan i } = c.holder-from.ensures ∙ ap (λ j. record { actor = a; tuple = tuple_at plan j }) c.packet.ensures in
    let e : Event = gate_event plan.settings s.flow a i d in
    let is : c.settle_gate-event.result ≡ e =
    c.settle_gate-event.ensures.event
    ∙ (ap (λ (y : Holder). gate_event k.roads.settings k.roads.flow y.actor i d) from ∙ as_kept plan s k (λ v g. gate_event v g a i d) inv.sized.settings st.flow) in
    let move : gate_move k.roads.settings k.roads.flow (hand_of k.roads f) i d ≡ move_of plan s e =
    ap (λ (y : Holder). gate_move k.roads.settings k.roads.flow (hand_of k.roads y) i d) from
    ∙ (as_kept plan s k (λ v g. gate_move v g (hand_place v a) i d) inv.sized.settings st.flow ∙ gate_moves plan s a i d) in
    let leads = leads_gate plan s a i d
    (λ at. known_entries plan (past lines) a at inv.sound inv.run (gateway_node plan.settings a ready.worker ready.decides.actor)) ready.decision in
    let sized = ap (λ g. length g.queues) (sym st.flow) ∙ inv.sizes.queues in
    record {
      keeps = subst (λ (r : Roads). Keeps plan x.threads lines' (record k { roads = r }) spare') (sym c.settle_gate-event.ensures.moved)
          (settled_keeps plan x.threads lines k _ inv a ready.decides.need Wire c.args.parcel ready.decides.holds lines' spare' c.args.seat e f _ k.reviews
          (legal_gate plan s a i d ready leads sized (queues_within plan (past lines) inv.run)) (gate_settles plan.settings s.flow a i d) (sym (gate_actor plan s a i d)) from seat
          (c.note.ensures.items ∙ ap (λ (y : Event). lines ++ record { seat = c.args.seat; event = y } ∷ []) is) parcel move
          (subst (IsFrom (hand_place plan.settings a) i) (gate_moves plan s a i d) (gate_from plan.settings (hand_place plan.settings a) i s.flow d))
          (omega (arith, c.note.ensures.len, c.note.ensures.capacity)) (gate_uses plan plan.settings s.flow a i d k.reviews));
      due = unprepared c.note.new.prepared c.note.ensures.prepared;
    }
