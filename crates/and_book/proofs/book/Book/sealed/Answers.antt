use Rattle.std.proofs.Common.{◌≡◌, ◌-◌, ◌∙◌, ◌<◌, ◌^◌, refl, sym, ap, subst, ◌∷◌, ◌++◌, [], List, vec_len, vec_capacity, length, arith}
use Rattle.and_events.specs.declared.event.Carried.{Carried}
use Rattle.and_events.specs.declared.event.End.{End}
use Rattle.and_events.specs.declared.event.Event.{Event}
use Rattle.and_events.specs.declared.event.Event.TheVariants.{Sealed}
use Rattle.and_events.specs.declared.event.Line.{Line}
use Rattle.and_events.specs.declared.event.Queue.TheVariants.{Seal}
use Rattle.and_events.specs.declared.plan.Plan.{Plan}
use Rattle.and_events.specs.declared.plan.Settings.{Settings}
use Rattle.and_events.specs.Flow.{Flow, carried_in}
use Rattle.and_events.specs.Places.{hand_place, IsNode}
use Rattle.and_events.specs.State.{State, state, carried_at, node_at, move_of, send, tuple_at}
use Rattle.and_events.specs.Run.{past}
use Rattle.and_laws.proofs.Capacity.{queues_within}
use Rattle.and_laws.proofs.Leads.{to_nodes}
use Rattle.and_kept.specs.declared.traffic.Holder.{Holder}
use Rattle.and_kept.specs.Lanes.{Roads}
use Rattle.and_kept.specs.Moves.{hand_of}
use Rattle.and_kept.specs.Settling.{end_to}
use Rattle.and_book.specs.Views.{BookView, now, IsSeat, IsPacket}
use Rattle.and_book.specs.Settling.{MaySeal, sealed_event}
use Rattle.and_book.specs.Inside.{Kept, Keeps, kept_of}
use Rattle.and_book.proofs.More.{unprepared, seen, as_kept}
use Rattle.and_book.proofs.FromHand.{IsFrom, sealed_from, sealed_moves, sealed_uses}
use Rattle.and_book.proofs.Outgoing.{net_fits}
use Rattle.and_book.proofs.Settled.{legal_sealed, coproc_handles}
use Rattle.and_book.proofs.Settling.{known_packet, may_move, settled_keeps}
use Rattle.and_book.proofs.Unsent.{sealed_hops}
use Rattle.and_book.proofs.book.Book.sealed.Goals as goal

pub holder-from-requires : goal.holder-from-requires
holder-from-requires c =
    let x = c.self.inside in
    let ready = seen x c.args.self.now c.self.view_is (λ (b : BookView). MaySeal b.plan (now b) c.args.actor c.args.parcel.packet) c.requires.ready in
    let known = known_packet x.plan x.threads x.lines.items (kept_of x) _ c.self.invariant.keeps c.args.actor ready.need Seal c.args.parcel ready.holds in
    omega (arith, known, c.packet-packet.ensures)

pub carried-way-requires : goal.carried-way-requires
carried-way-requires c =
    let x = c.self.inside in
    let keeps = c.self.invariant.keeps in
    let ready = seen x c.args.self.now c.self.view_is (λ (b : BookView). MaySeal b.plan (now b) c.args.actor c.args.parcel.packet) c.requires.ready in
    let known = known_packet x.plan x.threads x.lines.items (kept_of x) _ keeps c.args.actor ready.need Seal c.args.parcel ready.holds in
    omega (arith, known, c.packet-packet.ensures, keeps.sizes.carried)

pub send-end-requires-clause-may : goal.send-end-requires-clause-may
send-end-requires-clause-may c =
    let x = c.self.inside in
    let a = c.args.actor in
    let ready = seen x c.args.self.now c.self.view_is (λ (b : BookView). MaySeal b.plan (now b) a c.args.parcel.packet) c.requires.ready in
    may_move x.plan x.threads x.lines.items (kept_of x) _ c.self.invariant.keeps a ready.need Seal c.args.parcel ready.holds c.holder-from.result
    ready.actor (coproc_handles a ready.coprocessor) (ap (λ (f : Holder). f.actor) c.holder-from.ensures)

pub send-end-requires-clause-net : goal.send-end-requires-clause-net
send-end-requires-clause-net c =
    let x = c.self.inside in
    let keeps = c.self.invariant.keeps in
    let k : Kept = kept_of x in
    let fits = net_fits x.plan (past x.lines.items) k.roads.flow c.packet-packet.result keeps.sound keeps.run keeps.stands.flow in
    subst (λ (w : Carried). w.net < 2 ^ 24) (sym c.carried-way.ensures.is) fits

pub send-end-requires-clause-target : goal.send-end-requires-clause-target
send-end-requires-clause-target c =
    let x = c.self.inside in
    let keeps = c.self.invariant.keeps in
    let k : Kept = kept_of x in
    let there = (to_nodes x.plan (past x.lines.items) keeps.sound keeps.run).carried c.packet-packet.result in
    let way = c.carried-way.ensures.is ∙ ap (λ (f : Flow). carried_in f.carried c.packet-packet.result) keeps.stands.flow in
    subst (λ (v : Settings). IsNode v (node_at c.carried-way.result.target)) (sym keeps.sized.settings)
    (subst (λ (w : Carried). IsNode x.plan.settings (node_at w.target)) (sym way) there)

pub invariant_of-self : goal.invariant_of-self
invariant_of-self c =
    let x = c.self.inside in
    let plan : Plan = x.plan in
    let h = past x.lines.items in
    let s : State = state plan h in
    let k : Kept = kept_of x in
    let inv = c.self.invariant.keeps in
    let st = inv.stands in
    let a = c.args.actor in
    let i = c.args.parcel.packet in
    let f : Holder = c.holder-from.result in
    let lines : List Line = x.lines.items in
    let lines' : List Line = c.note.new.lines.items in
    let spare' = vec_capacity c.note.new.lines - vec_len c.note.new.lines in
    let ready = seen x c.args.self.now c.self.view_is (λ (b : BookView). MaySeal b.plan (now b) a i) c.requires.ready in
    let parcel = seen x c.args.self.now c.self.view_is (λ (b : BookView). IsPacket b.plan c.args.parcel) c.requires.parcel in
    let seat = seen x c.args.self.now c.self.view_is (λ (b : BookView). IsSeat b c.args.seat a) c.requires.seat in
    let from : f ≡ record { actor = a; tuple = tuple_at plan i } = c.holder-from.ensures ∙ ap (λ j. record { actor = a; tuple = tuple_at plan j }) c.packet-packet.ensures in
    let way : c.carried-way.result ≡ carried_in k.roads.flow.carried i = c.carried-way.ensures.is ∙ ap (carried_in k.roads.flow.carried) c.packet-packet.ensures in
    let e : Event = sealed_event plan.settings s.flow a i in
    let end_is : c.send-end.result ≡ end_to plan.settings s.flow i (carried_at s i).target =
    c.send-end.ensures.end
    ∙ (ap (λ (w : Carried). end_to k.roads.settings k.roads.flow i w.target) way
    ∙ as_kept plan s k (λ v g. end_to v g i (carried_in g.carried i).target) inv.sized.settings st.flow) in
    let is : Sealed a c.packet-packet.result c.send-end.result ≡ e =
    ap (λ j. Sealed a j c.send-end.result) c.packet-packet.ensures ∙ ap (Sealed a i) end_is in
    let move : send k.roads.settings (hand_of k.roads f) i c.send-end.result c.carried-way.result.target c.carried-way.result.net ≡ move_of plan s e =
    ap (λ (n : End). send k.roads.settings (hand_of k.roads f) i n c.carried-way.result.target c.carried-way.result.net) end_is
    ∙ (ap (λ (w : Carried). send k.roads.settings (hand_of k.roads f) i (end_to plan.settings s.flow i (carried_at s i).target) w.target w.net) way
    ∙ (ap (λ (y : Holder). send k.roads.settings (hand_of k.roads y) i (end_to plan.settings s.flow i (carried_at s i).target) (carried_in k.roads.flow.carried i).target (carried_in k.roads.flow.carried i).net) from
    ∙ (as_kept plan s k (λ v g. send v (hand_place v a) i (end_to plan.settings s.flow i (carried_at s i).target) (carried_in g.carried i).target (carried_in g.carried i).net) inv.sized.settings st.flow
    ∙ sealed_moves plan s a i (end_to plan.settings s.flow i (carried_at s i).target)))) in
    let some : 0 < (carried_at s i).hops = omega (arith, sealed_hops plan h a i inv.sound inv.run ready, inv.sound.settings.hop_limit.0) in
    let sized = ap (λ g. length g.queues) (sym st.flow) ∙ inv.sizes.queues in
    let legal = legal_sealed plan s a i ready some ((to_nodes plan h inv.sound inv.run).carried i) sized (queues_within plan h inv.run) in
    record {
      keeps = subst (λ (r : Roads). Keeps plan x.threads lines' (record k { roads = r }) spare') (sym c.send-end.ensures.moved)
          (settled_keeps plan x.threads lines k _ inv a ready.need Seal c.args.parcel ready.holds lines' spare' c.args.seat e f _ k.reviews
          legal tt refl from seat
          (c.note.ensures.items ∙ ap (λ (y : Event). lines ++ record { seat = c.args.seat; event = y } ∷ []) is) parcel move
          (subst (IsFrom (hand_place plan.settings a) i) (sealed_moves plan s a i (end_to plan.settings s.flow i (carried_at s i).target))
          (sealed_from plan.settings (hand_place plan.settings a) i (carried_at s i) (end_to plan.settings s.flow i (carried_at s i).target)))
          (omega (arith, c.note.ensures.len, c.note.ensures.capacity)) (sealed_uses plan a i (end_to plan.settings s.flow i (carried_at s i).target) k.reviews));
      due = unprepared c.note.new.prepared c.note.ensures.prepared;
    }
