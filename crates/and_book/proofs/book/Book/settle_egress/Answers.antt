use Rattle.std.proofs.Common.{ℕ, ◌≡◌, ◌<◌, ◌-◌, ◌∙◌, refl, sym, ap, subst, ◌∷◌, ◌++◌, [], List, vec_len, vec_capacity, length, arith}
use Rattle.std.specs.Prelude.{unwrap_or}
use Rattle.and_policy.specs.declared.decision.Outcome.TheVariants as outcomes
use Rattle.and_policy.specs.declared.port.UsageKey.{UsageKey}
use Rattle.and_policy.specs.Programmes.{net_of_vm}
use Rattle.and_events.specs.declared.event.Event.{Event}
use Rattle.and_events.specs.declared.event.Event.TheVariants.{Egress}
use Rattle.and_events.specs.declared.event.Line.{Line}
use Rattle.and_events.specs.declared.event.Queue.TheVariants.{Out, Seal}
use Rattle.and_events.specs.declared.plan.Plan.{Plan}
use Rattle.and_events.specs.Places.{hand_place, node_of, HasQueue}
use Rattle.and_events.specs.State.{State, state, host_of, move_of, tuple_at, source_net, departs, carried_at}
use Rattle.and_events.specs.Run.{past}
use Rattle.and_usage.specs.Counting.{bytes_of}
use Rattle.and_laws.proofs.Capacity.{queues_within}
use Rattle.and_kept.specs.declared.traffic.Holder.{Holder}
use Rattle.and_kept.specs.Lanes.{Roads}
use Rattle.and_kept.specs.Moves.{hand_of}
use Rattle.and_kept.specs.Settling.{LeadsLeaving, departure_of}
use Rattle.and_book.specs.Views.{BookView, now, IsSeat, IsPacket}
use Rattle.and_book.specs.Settling.{MaySettleEgress, leaving_said, egress_event}
use Rattle.and_book.specs.Inside.{Kept, Keeps, kept_of}
use Rattle.and_book.proofs.More.{unprepared, seen, as_kept}
use Rattle.and_book.proofs.Departing.{seals_at, leads_leaving, legal_egress}
use Rattle.and_book.proofs.FromHand.{IsFrom, IsUsed, egress_uses, departs_from, egress_moves}
use Rattle.and_book.proofs.Reviewing.{use_has_room}
use Rattle.and_book.proofs.Settled.{worker_handles}
use Rattle.and_book.proofs.Settling.{known_packet, may_move, own_net, settled_keeps}
use Rattle.and_book.proofs.Unsent.{all_hops}
use Rattle.and_book.proofs.Using.{sum_fits}
use Rattle.and_book.proofs.book.Book.settle_egress.Goals as goal

pub holder-from-requires : goal.holder-from-requires
holder-from-requires c =
    let x = c.self.inside in
    let ready = seen x c.args.self.now c.self.view_is (λ (b : BookView). MaySettleEgress b.plan (now b) c.args.actor c.args.parcel.packet c.args.decision) c.requires.ready in
    let known = known_packet x.plan x.threads x.lines.items (kept_of x) _ c.self.invariant.keeps c.args.actor ready.decides.need Out c.args.parcel ready.decides.holds in
    omega (arith, known, c.packet-packet.ensures)

pub settle_leaving-departure-requires-clause-may : goal.settle_leaving-departure-requires-clause-may
settle_leaving-departure-requires-clause-may c =
    let x = c.self.inside in
    let a = c.args.actor in
    let ready = seen x c.args.self.now c.self.view_is (λ (b : BookView). MaySettleEgress b.plan (now b) a c.args.parcel.packet c.args.decision) c.requires.ready in
    may_move x.plan x.threads x.lines.items (kept_of x) _ c.self.invariant.keeps a ready.decides.need Out c.args.parcel ready.decides.holds c.holder-from.result
    ready.decides.actor (worker_handles a ready.worker) (ap (λ (f : Holder). f.actor) c.holder-from.ensures)

pub settle_leaving-departure-requires-clause-seals : goal.settle_leaving-departure-requires-clause-seals
settle_leaving-departure-requires-clause-seals c =
    let x = c.self.inside in
    let ready = seen x c.args.self.now c.self.view_is (λ (b : BookView). MaySettleEgress b.plan (now b) c.args.actor c.args.parcel.packet c.args.decision) c.requires.ready in
    subst (λ (f : Holder). HasQueue (node_of f.actor) Seal) (sym c.holder-from.ensures) (seals_at c.args.actor ready.worker)

pub settle_leaving-departure-requires-clause-leads : goal.settle_leaving-departure-requires-clause-leads
settle_leaving-departure-requires-clause-leads c =
    let x = c.self.inside in
    let inv = c.self.invariant.keeps in
    let a = c.args.actor in
    let i = c.args.parcel.packet in
    let ready = seen x c.args.self.now c.self.view_is (λ (b : BookView). MaySettleEgress b.plan (now b) a i c.args.decision) c.requires.ready in
    let word : outcomes.Leaving c.leaving_in-said.result ≡ outcomes.Leaving (leaving_said x.plan (state x.plan (past x.lines.items)) a i c.args.decision.at) = sym c.leaving_in-said.ensures ∙ ready.said in
    let said : c.leaving_in-said.result ≡ leaving_said x.plan (state x.plan (past x.lines.items)) a i c.args.decision.at = cc word in
    let parcel = seen x c.args.self.now c.self.view_is (λ (b : BookView). IsPacket b.plan c.args.parcel) c.requires.parcel in
    let net : c.unwrap_or-own.result ≡ source_net x.plan i =
    c.unwrap_or-own.ensures
    ∙ ap (λ o. unwrap_or o 0) (c.net.ensures ∙ (ap (net_of_vm x.progress.programmes.log) (c.vm.ensures ∙ parcel.vm)
    ∙ own_net x.plan x.threads x.lines.items (kept_of x) _ inv a ready.decides.need Out c.args.parcel ready.decides.holds)) in
    subst (λ v. LeadsLeaving v c.unwrap_or-own.result c.leaving_in-said.result) (sym inv.sized.settings)
    (subst (λ n. LeadsLeaving x.plan.settings n c.leaving_in-said.result) (sym net)
    (subst (LeadsLeaving x.plan.settings (source_net x.plan i)) (sym said) (leads_leaving x.plan (past x.lines.items) a i c.args.decision.at inv.sound inv.run ready.decides.actor ready.worker)))

pub note_use-requires-clause-room : goal.note_use-requires-clause-room
note_use-requires-clause-room c =
    let x = c.self.inside in
    use_has_room x.plan x.threads x.lines.items (kept_of x) _ c.self.invariant.keeps

pub note_use-requires-clause-sum : goal.note_use-requires-clause-sum
note_use-requires-clause-sum c =
    let x = c.self.inside in
    let inv = c.self.invariant.keeps in
    let i = c.args.parcel.packet in
    let parcel = seen x c.args.self.now c.self.view_is (λ (b : BookView). IsPacket b.plan c.args.parcel) c.requires.parcel in
    let key : UsageKey = record { host = c.host_of.result; net = c.unwrap_or-own.result; ip = c.holder-from.result.tuple.destination } in
    omega (arith, sum_fits x.plan (past x.lines.items) key i inv.sound inv.run, ap (bytes_of key) inv.stands.usage, ap (length {A = ℕ}) (c.frame.ensures ∙ parcel.frame))

pub invariant_of-self : goal.invariant_of-self
invariant_of-self c =
    let x = c.self.inside in
    let plan : Plan = x.plan in
    let s : State = state plan (past x.lines.items) in
    let k : Kept = kept_of x in
    let inv = c.self.invariant.keeps in
    let st = inv.stands in
    let a = c.args.actor in
    let i = c.args.parcel.packet in
    let d = c.args.decision in
    let f : Holder = c.holder-from.result in
    let own = c.unwrap_or-own.result in
    let departure = c.settle_leaving-departure.result in
    let lines : List Line = x.lines.items in
    let lines' : List Line = c.note.new.lines.items in
    let spare' = vec_capacity c.note.new.lines - vec_len c.note.new.lines in
    let ready = seen x c.args.self.now c.self.view_is (λ (b : BookView). MaySettleEgress b.plan (now b) a i d) c.requires.ready in
    let parcel = seen x c.args.self.now c.self.view_is (λ (b : BookView). IsPacket b.plan c.args.parcel) c.requires.parcel in
    let seat = seen x c.args.self.now c.self.view_is (λ (b : BookView). IsSeat b c.args.seat a) c.requires.seat in
    let from : f ≡ record { actor = a; tuple = tuple_at plan i } = c.holder-from.ensures ∙ ap (λ j. record { actor = a; tuple = tuple_at plan j }) c.packet-packet.ensures in
    let e : Event = egress_event plan s a i d.at d.way in
    let here = node_of a in
    let net : own ≡ source_net plan i =
    c.unwrap_or-own.ensures
    ∙ ap (λ o. unwrap_or o 0) (c.net.ensures ∙ (ap (net_of_vm k.progress.programmes.log) (c.vm.ensures ∙ parcel.vm)
    ∙ own_net plan x.threads lines k _ inv a ready.decides.need Out c.args.parcel ready.decides.holds)) in
    let key : UsageKey = record { host = c.host_of.result; net = own; ip = f.tuple.destination } in
    let key_is : key ≡ record { host = host_of here; net = source_net plan i; ip = (tuple_at plan i).destination } =
    ap (λ n. record { host = n; net = own; ip = f.tuple.destination }) (c.host_of.ensures ∙ ap host_of c.node_of.ensures)
    ∙ (ap (λ n. record { host = host_of here; net = n; ip = f.tuple.destination }) net
    ∙ ap (λ (y : Holder). record { host = host_of here; net = source_net plan i; ip = y.tuple.destination }) from) in
    let word : outcomes.Leaving c.leaving_in-said.result ≡ outcomes.Leaving (leaving_said plan s a i d.at) = sym c.leaving_in-said.ensures ∙ ready.said in
    let said : c.leaving_in-said.result ≡ leaving_said plan s a i d.at = cc word in
    let departed : departure ≡ departure_of plan.settings s.flow here i (leaving_said plan s a i d.at) =
    c.settle_leaving-departure.ensures.departure
    ∙ (ap (λ (y : Holder). departure_of k.roads.settings k.roads.flow (node_of y.actor) i c.leaving_in-said.result) from
    ∙ (as_kept plan s k (λ v g. departure_of v g here i c.leaving_in-said.result) inv.sized.settings st.flow
    ∙ ap (departure_of plan.settings s.flow here i) said)) in
    let is : Egress a c.packet-packet.result d.at d.way departure ≡ e = ap (λ j. Egress a j d.at d.way departure) c.packet-packet.ensures ∙ ap (Egress a i d.at d.way) departed in
    let move : departs k.roads.settings own (hand_of k.roads f) i (node_of f.actor) departure ≡ move_of plan s e =
    ap (λ (y : Holder). departs k.roads.settings own (hand_of k.roads y) i (node_of y.actor) departure) from
    ∙ (as_kept plan s k (λ v g. departs v own (hand_place v a) i here departure) inv.sized.settings st.flow
    ∙ (ap (λ n. departs plan.settings n (hand_place plan.settings a) i here departure) net
    ∙ (ap (departs plan.settings (source_net plan i) (hand_place plan.settings a) i here) departed ∙ egress_moves plan s a i d.at d.way _))) in
    let sized = ap (λ g. length g.queues) (sym st.flow) ∙ inv.sizes.queues in
    let left = all_hops plan (past lines) a i d.at inv.sound inv.run ready.worker ready.decides in
    let hops : 0 < (carried_at s i).hops = omega (arith, left, inv.sound.settings.hop_limit.0) in
    let leads = leads_leaving plan (past lines) a i d.at inv.sound inv.run ready.decides.actor ready.worker in
    record {
      keeps = subst (λ (r : Roads). Keeps plan x.threads lines' (record k { roads = r; reviews = c.note_use.new.reviews }) spare') (sym c.settle_leaving-departure.ensures.moved)
          (settled_keeps plan x.threads lines k _ inv a ready.decides.need Out c.args.parcel ready.decides.holds lines' spare' c.args.seat e f _ c.note_use.new.reviews
          (legal_egress plan s a i d.at d.way ready.decides ready.worker hops leads sized (queues_within plan (past lines) inv.run)) tt refl from seat
          (c.note.ensures.items ∙ ap (λ (y : Event). lines ++ record { seat = c.args.seat; event = y } ∷ []) is) parcel move
          (subst (IsFrom (hand_place plan.settings a) i) (egress_moves plan s a i d.at d.way _) (departs_from plan.settings (hand_place plan.settings a) i (source_net plan i) here _))
          (omega (arith, c.note.ensures.len, c.note.ensures.capacity))
          (subst (λ (y : Event). IsUsed plan y k.reviews c.note_use.new.reviews) is
          (subst (λ j. IsUsed plan (Egress a j d.at d.way departure) k.reviews c.note_use.new.reviews) (sym c.packet-packet.ensures)
          (egress_uses plan a i d.at d.way departure key (length c.frame.result.now) k.reviews c.note_use.new.reviews key_is (ap (length {A = ℕ}) (c.frame.ensures ∙ parcel.frame))
          c.note_use.ensures.used c.note_use.ensures.room c.note_use.ensures.known))));
      due = unprepared c.note.new.prepared c.note.ensures.prepared;
    }
