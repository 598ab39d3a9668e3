use Rattle.std.proofs.Common.{refl, List, [], Bool, ◌++◌, ◌≡◌, ◌+◌, ◌<◌, ◌-◌, ◌∙◌, sym, ap, subst, ◌∷◌, vec_len, vec_capacity, length, arith, Some}
use Rattle.std.specs.Prelude.{slice_get, unwrap_or, if◌then◌else◌}
use Rattle.std.proofs.lemmas.Option.{slice_get_within}
use Rattle.and_events.specs.declared.event.Actor.TheVariants.{Driver}
use Rattle.and_events.specs.declared.plan.Plan.{Plan}
use Rattle.and_events.specs.declared.plan.Step.TheVariants as steps
use Rattle.and_events.specs.State.{State, state}
use Rattle.and_events.specs.Run.{past}
use Rattle.and_book.specs.Views.{BookView, now, IsSeat}
use Rattle.and_events.specs.declared.event.Event.{Event}
use Rattle.and_events.specs.declared.event.Line.{Line}
use Rattle.and_events.specs.declared.plan.Settings.{Settings}
use Rattle.and_kept.specs.Lanes.{Roads}
use Rattle.and_kept.specs.Moves.{entered}
use Rattle.and_book.specs.Inside.{Kept, Keeps, kept_of}
use Rattle.and_book.proofs.More.{unprepared, keeps_more, seen, room_kept, as_kept}
use Rattle.and_events.specs.declared.event.Event.TheVariants.{Inject}
use Rattle.and_events.specs.Legal.{KnowsVm}
use Rattle.and_events.specs.declared.event.Node.TheVariants.{Host}
use Rattle.and_events.specs.declared.event.Queue.TheVariants.{Out}
use Rattle.and_events.specs.declared.event.End.TheVariants.{Queued, Full}
use Rattle.and_events.specs.Places.{queue_place, capacity_at}
use Rattle.and_events.specs.Flow.{end_at}
use Rattle.and_policy.specs.Owners.{place}
use Rattle.and_events.specs.State.{home, packet_at}
use Rattle.and_laws.proofs.Capacity.{queues_within}
use Rattle.and_book.specs.Views.{IsPacket}
use Rattle.and_book.proofs.Ends.{inject_ends}
use Rattle.and_book.proofs.Stepping.{legal_inject, after_inject, enter_holds}
use Rattle.and_book.proofs.Outgoing.{injected_to}
use Rattle.and_book.proofs.book.Book.inject.Goals as goal

pub overflow_add-self : goal.overflow_add-self
overflow_add-self c =
    let x = c.self.inside in
    let due = seen x c.args.self.now c.self.view_is (λ (b : BookView). slice_get b.plan.steps (now b).next ≡ Some (steps.Inject c.args.parcel.packet)) c.requires.due in
    omega (arith, slice_get_within x.plan.steps _ _ due, c.self.invariant.keeps.sound.few_steps, c.self.invariant.keeps.stands.next)

pub enter-full-requires : goal.enter-full-requires
enter-full-requires c =
    let x = c.self.inside in
    let plan : Plan = x.plan in
    let s : State = state plan (past x.lines.items) in
    let inv = c.self.invariant.keeps in
    let i = c.args.parcel.packet in
    let ready = seen x c.args.self.now c.self.view_is (λ (b : BookView). KnowsVm b.plan (now b) (home b.plan (now b) i) (packet_at b.plan i).vm) c.requires.ready in
    let parcel = seen x c.args.self.now c.self.view_is (λ (b : BookView). IsPacket b.plan c.args.parcel) c.requires.parcel in
    let host : c.unwrap_or-host.result ≡ home plan s i =
    c.unwrap_or-host.ensures
    ∙ ap (λ o. unwrap_or o 0)
    (c.place.ensures ∙ (ap (λ p. place p.log c.vm.result) inv.stands.programmes ∙ ap (place s.programmes.log) (c.vm.ensures ∙ parcel.vm))) in
    omega (arith, host, ready.2, ap (λ (v : Settings). v.hosts) inv.sized.settings)

pub invariant_of-self : goal.invariant_of-self
invariant_of-self c =
    let x = c.self.inside in
    let plan : Plan = x.plan in
    let s : State = state plan (past x.lines.items) in
    let k : Kept = kept_of x in
    let inv = c.self.invariant.keeps in
    let st = inv.stands in
    let i = c.args.parcel.packet in
    let full = c.enter-full.result in
    let h = c.unwrap_or-host.result in
    let q = queue_place plan.settings (Host (home plan s i)) Out in
    let lines : List Line = x.lines.items in
    let lines' : List Line = c.note.new.lines.items in
    let spare' = vec_capacity c.note.new.lines - vec_len c.note.new.lines in
    let due = seen x c.args.self.now c.self.view_is (λ (b : BookView). slice_get b.plan.steps (now b).next ≡ Some (steps.Inject i)) c.requires.due in
    let ready = seen x c.args.self.now c.self.view_is (λ (b : BookView). KnowsVm b.plan (now b) (home b.plan (now b) i) (packet_at b.plan i).vm) c.requires.ready in
    let parcel = seen x c.args.self.now c.self.view_is (λ (b : BookView). IsPacket b.plan c.args.parcel) c.requires.parcel in
    let seat = seen x c.args.self.now c.self.view_is (λ (b : BookView). IsSeat b c.args.seat Driver) c.requires.seat in
    let room = room_kept x c.args.self.now 1 c.self.view_is c.self.invariant c.requires.room in
    let host : h ≡ home plan s i =
    c.unwrap_or-host.ensures
    ∙ ap (λ o. unwrap_or o 0)
    (c.place.ensures ∙ (ap (λ p. place p.log c.vm.result) st.programmes ∙ ap (place s.programmes.log) (c.vm.ensures ∙ parcel.vm))) in
    let there : queue_place k.roads.settings (Host h) Out ≡ q = host in
    let within : q < length s.flow.queues = omega (arith, ready.2, inv.sizes.queues, ap (λ f. length f.queues) st.flow) in
    let ends : (if full then Full else Queued) ≡ end_at (capacity_at plan.settings q) s.flow.queues q =
    ap (λ (b : Bool). if b then Full else Queued) c.enter-full.ensures.full
    ∙ (as_kept plan s k (λ v f. end_at (capacity_at v (queue_place v (Host h) Out)) f.queues (queue_place v (Host h) Out)) inv.sized.settings st.flow
    ∙ ap (λ n. end_at (capacity_at plan.settings n) s.flow.queues n) host) in
    let ended = inject_ends plan s q full within (queues_within plan (past lines) inv.run) ends in
    let same = enter_holds k.roads.flow _ h i full refl in
    let after' = record k { next = k.next + 1; roads = entered k.roads h c.args.parcel full } in
    let is : Inject x.next c.packet-packet.result full ≡ Inject x.next i full = ap (λ j. Inject x.next j full) c.packet-packet.ensures in
    record {
      keeps = subst (λ (r : Roads). Keeps plan x.threads lines' (record k { next = k.next + 1; roads = r }) spare') (sym c.enter-full.ensures.entered)
          (keeps_more plan x.threads lines lines' k after' _ spare' c.args.seat (Inject x.next i full)
          inv (legal_inject plan s x.next i full st.next due ready ended) seat (c.note.ensures.items ∙ ap (λ (y : Event). lines ++ record { seat = c.args.seat; event = y } ∷ []) is)
          (after_inject plan s k x.next h c.args.parcel full st inv.sized.settings host)
          (injected_to plan (past lines) x.next k.roads after'.roads c.args.parcel h full (omega (arith, ready.2, host)) refl refl parcel inv.parcels)
          (omega (arith, room, same, c.note.ensures.len, c.note.ensures.capacity)));
      due = unprepared c.note.new.prepared c.note.ensures.prepared;
    }
