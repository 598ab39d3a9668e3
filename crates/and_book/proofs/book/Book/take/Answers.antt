use Rattle.std.proofs.Common.{◌≡◌, ◌-◌, ◌∙◌, refl, sym, ap, subst, vec_len, vec_capacity, length, arith, List, Some}
use Rattle.std.specs.Prelude.{slice_get}
use Rattle.and_events.specs.declared.event.Event.TheVariants.{Take}
use Rattle.and_events.specs.declared.event.Held.{Held}
use Rattle.and_events.specs.declared.event.Line.{Line}
use Rattle.and_events.specs.declared.event.Queue.{Queue}
use Rattle.and_events.specs.declared.event.Queue.TheVariants.{Wire}
use Rattle.and_events.specs.declared.plan.Plan.{Plan}
use Rattle.and_events.specs.declared.plan.Settings.{Settings}
use Rattle.and_events.specs.Places.{node_place, queue_place, hand_place, node_of, IsActor}
use Rattle.and_events.specs.Flow.{queue_at}
use Rattle.and_events.specs.Programming.{installed_at}
use Rattle.and_events.specs.State.{State, state, installed_of}
use Rattle.and_events.specs.Run.{past}
use Rattle.and_kept.specs.Lanes.{Roads}
use Rattle.and_kept.specs.Moves.{source_in, source_place, taken}
use Rattle.and_book.specs.Views.{BookView, now, IsSeat, IsPacket, MayTake}
use Rattle.and_book.specs.Inside.{Kept, Keeps, kept_of}
use Rattle.and_book.specs.Outers.{IsSentBy}
use Rattle.and_book.proofs.More.{unprepared, keeps_more, seen, room_kept, as_kept}
use Rattle.and_book.proofs.Taking.{legal_take, after_take, one_held, first_parcel, hand_fits}
use Rattle.and_kept.proofs.MovesLemmas.{actor_node}
use Rattle.and_book.proofs.Outgoing.{taken_from, first_sent}
use Rattle.and_book.proofs.book.Book.take.Goals as goal

pub take-parcel-requires-clause-actor : goal.take-parcel-requires-clause-actor
take-parcel-requires-clause-actor c =
    let x = c.self.inside in
    let ready = seen x c.args.self.now c.self.view_is (λ (b : BookView). MayTake b.plan (now b) c.args.actor) c.requires.ready in
    subst (λ (v : Settings). IsActor v c.args.actor) (sym c.self.invariant.keeps.sized.settings) ready.actor

pub take-parcel-requires-clause-some : goal.take-parcel-requires-clause-some
take-parcel-requires-clause-some c =
    let x = c.self.inside in
    let a = c.args.actor in
    let ready = seen x c.args.self.now c.self.view_is (λ (b : BookView). MayTake b.plan (now b) a) c.requires.ready in
    let same = as_kept x.plan (state x.plan (past x.lines.items)) (kept_of x) (λ v f. length (queue_at f.queues (queue_place v (node_of a) (source_in v f a)))) c.self.invariant.keeps.sized.settings c.self.invariant.keeps.stands.flow in
    omega (arith, ready.some, same)

pub invariant_of-self : goal.invariant_of-self
invariant_of-self c =
    let x = c.self.inside in
    let plan : Plan = x.plan in
    let s : State = state plan (past x.lines.items) in
    let k : Kept = kept_of x in
    let inv = c.self.invariant.keeps in
    let st = inv.stands in
    let a = c.args.actor in
    let held : Held = c.take-parcel.result.0 in
    let lines : List Line = x.lines.items in
    let lines' : List Line = c.note.new.lines.items in
    let spare' = vec_capacity c.note.new.lines - vec_len c.note.new.lines in
    let ready = seen x c.args.self.now c.self.view_is (λ (b : BookView). MayTake b.plan (now b) a) c.requires.ready in
    let seat = seen x c.args.self.now c.self.view_is (λ (b : BookView). IsSeat b c.args.seat a) c.requires.seat in
    let room = room_kept x c.args.self.now 2 c.self.view_is c.self.invariant c.requires.room in
    let need : held.need ≡ installed_of plan s (node_of a) =
    ap (λ (h : Held). h.need) c.take-parcel.ensures.held
    ∙ (c.installed-need.ensures
    ∙ (ap (λ p. installed_at p c.node_place-place.result) st.programmes
    ∙ ap (installed_at s.programmes) (c.node_place-place.ensures.place ∙ ap (node_place plan.settings) c.node_of.ensures))) in
    let source : held.queue ≡ source_in k.roads.settings k.roads.flow a = ap (λ (h : Held). h.queue) c.take-parcel.ensures.held in
    let is : held.queue ≡ source_in plan.settings s.flow a = source ∙ as_kept plan s k (λ v f. source_in v f a) inv.sized.settings st.flow in
    let first : slice_get (queue_at s.flow.queues (queue_place plan.settings (node_of a) held.queue)) 0 ≡ Some held.packet =
    ap (λ q. slice_get (queue_at s.flow.queues (queue_place plan.settings (node_of a) q)) 0) is
    ∙ (sym (as_kept plan s k (λ v f. slice_get (queue_at f.queues (queue_place v (node_of a) (source_in v f a))) 0) inv.sized.settings st.flow)
    ∙ (c.take-parcel.ensures.front ∙ ap Some (sym (ap (λ (h : Held). h.packet) c.take-parcel.ensures.held)))) in
    let within = hand_fits plan k.roads inv.sized.settings inv.sizes a ready.actor ready.handles in
    let more = one_held k.roads.flow (hand_place k.roads.settings a) (queue_place k.roads.settings (node_of a) held.queue) held within in
    record {
      keeps = subst (λ (r : Roads). Keeps plan x.threads lines' (record k { roads = r }) spare') (sym c.take-parcel.ensures.taken)
          (keeps_more plan x.threads lines lines' k (record k { roads = taken k.roads a held }) _ spare' c.args.seat (Take a held.queue held.packet)
          inv (legal_take plan s a held.queue held.packet ready is first) seat c.note.ensures.items
          (after_take plan s k a held st inv.sized.settings need)
          (taken_from plan (past lines) a held.queue held.packet k.roads (taken k.roads a held) (hand_place k.roads.settings a) (queue_place k.roads.settings (node_of a) held.queue) held refl refl inv.parcels)
          (omega (arith, room, more, c.note.ensures.len, c.note.ensures.capacity)));
      due = unprepared c.note.new.prepared c.note.ensures.prepared;
    }

pub returns-clause-held : goal.returns-clause-held
returns-clause-held c =
    let x = c.self.inside in
    let plan : Plan = x.plan in
    let s : State = state plan (past x.lines.items) in
    let k : Kept = kept_of x in
    let a = c.args.actor in
    let i = c.take-parcel.result.1.packet in
    let need : c.installed-need.result ≡ installed_of plan s (node_of a) =
    c.installed-need.ensures
    ∙ (ap (λ p. installed_at p c.node_place-place.result) c.self.invariant.keeps.stands.programmes
    ∙ ap (installed_at s.programmes) (c.node_place-place.ensures.place ∙ ap (node_place plan.settings) c.node_of.ensures)) in
    subst (λ (b : BookView). c.take-parcel.result.0 ≡ record { packet = i; need = installed_of b.plan (now b) (node_of a); queue = source_in b.plan.settings (now b).flow a }) c.self.view_is
    (c.take-parcel.ensures.held
    ∙ (ap (λ n. record { packet = i; need = n; queue = source_in k.roads.settings k.roads.flow a }) need
    ∙ ap (λ q. record { packet = i; need = installed_of plan s (node_of a); queue = q }) (as_kept plan s k (λ v f. source_in v f a) c.self.invariant.keeps.sized.settings c.self.invariant.keeps.stands.flow)))

pub returns-clause-parcel : goal.returns-clause-parcel
returns-clause-parcel c =
    let x = c.self.inside in
    subst (λ (b : BookView). IsPacket b.plan c.take-parcel.result.1) c.self.view_is
    (first_parcel (IsPacket x.plan) x.traffic.parcels (source_place x.traffic c.args.actor) c.take-parcel.result.1 c.self.invariant.keeps.parcels.packets c.take-parcel.ensures.parcel)

pub returns-clause-wire : goal.returns-clause-wire
returns-clause-wire c is =
    let x = c.self.inside in
    let plan : Plan = x.plan in
    let k : Kept = kept_of x in
    let a = c.args.actor in
    let q : Queue = source_in k.roads.settings k.roads.flow a in
    let ready = seen x c.args.self.now c.self.view_is (λ (b : BookView). MayTake b.plan (now b) a) c.requires.ready in
    let wire : q ≡ Wire = sym (ap (λ (h : Held). h.queue) c.take-parcel.ensures.held) ∙ is in
    subst (λ (b : BookView). IsSentBy b.plan (past b.lines) c.take-parcel.result.1) c.self.view_is
    (first_sent plan (past x.lines.items) k.roads (node_of a) q (source_place k.roads a) c.take-parcel.result.1 c.self.invariant.keeps.parcels
    (actor_node plan.settings a ready.actor ready.handles) (ap (λ v. queue_place v (node_of a) q) c.self.invariant.keeps.sized.settings) wire c.take-parcel.ensures.parcel)
