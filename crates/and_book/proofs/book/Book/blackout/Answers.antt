use Rattle.std.proofs.Common.{◌≡◌, ℕ, ◌≤◌, ◌-◌, ◌∙◌, sym, ap, vec_len, vec_capacity, arith, Some, None}
use Rattle.std.specs.Prelude.{slice_get, unwrap_or}
use Rattle.std.proofs.lemmas.Option.{slice_get_within}
use Rattle.and_policy.specs.Owners.{place}
use Rattle.and_events.specs.declared.event.Actor.TheVariants.{Driver}
use Rattle.and_events.specs.declared.event.Event.TheVariants.{Blackout}
use Rattle.and_events.specs.declared.plan.Plan.{Plan}
use Rattle.and_events.specs.declared.plan.Step.TheVariants as steps
use Rattle.and_events.specs.Legal.{KnowsVm}
use Rattle.and_events.specs.Ports.{port_at}
use Rattle.and_events.specs.Run.{past}
use Rattle.and_events.specs.State.{State, state}
use Rattle.and_laws.specs.Fates.{in_hand_count}
use Rattle.and_pins.specs.Pinned.{hairpin_entry}
use Rattle.and_book.specs.Views.{BookView, now, IsSeat}
use Rattle.and_book.specs.Inside.{Kept, kept_of}
use Rattle.and_book.proofs.More.{unprepared, keeps_more, seen, room_kept}
use Rattle.and_book.proofs.Moved.{stops_at, legal_blackout, after_blackout}
use Rattle.and_book.proofs.Outgoing.{still}
use Rattle.and_book.proofs.Pinning.{paused_pins}
use Rattle.and_book.proofs.book.Book.blackout.Goals as goal

pub overflow_add-self : goal.overflow_add-self
overflow_add-self c = omega (arith, slice_get_within c.self.inside.plan.steps c.self.inside.next _ c.due_blackout-due.ensures, c.self.invariant.keeps.sound.few_steps)

pub invariant_of-self : goal.invariant_of-self
invariant_of-self c =
    let x = c.self.inside in
    let plan : Plan = x.plan in
    let s : State = state plan (past x.lines.items) in
    let k : Kept = kept_of x in
    let inv = c.self.invariant.keeps in
    let st = inv.stands in
    let vm : ℕ = c.due_blackout-due.result.0 in
    let host : ℕ = c.due_blackout-due.result.1 in
    let home : ℕ = c.unwrap_or-home.result in
    let away = c.take_away.ensures in
    let told : slice_get plan.steps s.next ≡ Some (steps.Blackout vm host) = ap (slice_get plan.steps) (sym st.next) ∙ c.due_blackout-due.ensures in
    let ready : KnowsVm plan s host vm =
    seen x c.args.self.now c.self.view_is (λ (b : BookView). (v g : ℕ) → slice_get b.plan.steps (now b).next ≡ Some (steps.Blackout v g) → KnowsVm b.plan (now b) g v) c.requires.ready vm host told in
    let seat = seen x c.args.self.now c.self.view_is (λ (b : BookView). IsSeat b c.args.seat Driver) c.requires.seat in
    let room = room_kept x c.args.self.now 1 c.self.view_is c.self.invariant c.requires.room in
    let fits : in_hand_count k.roads.flow ≤ vec_capacity c.note.new.lines - vec_len c.note.new.lines = omega (arith, room, c.note.ensures.len, c.note.ensures.capacity) in
    let at : home ≡ unwrap_or (place s.programmes.log vm) 0 = c.unwrap_or-home.ensures ∙ ap (λ o. unwrap_or o 0) (c.place.ensures ∙ ap (λ p. place p.log vm) st.programmes) in
    let none : hairpin_entry (port_at k.ports home vm) ≡ None =
    ap (λ rows. hairpin_entry (port_at rows home vm)) st.ports ∙ (ap (λ h. hairpin_entry (port_at s.ports h vm)) at ∙ stops_at plan (past x.lines.items) inv.sound inv.run x.next vm host st.next c.due_blackout-due.ensures) in
    record {
      keeps = keeps_more plan x.threads x.lines.items c.note.new.lines.items k _ _ (vec_capacity c.note.new.lines - vec_len c.note.new.lines) c.args.seat (Blackout x.next)
          inv (legal_blackout plan s x.next vm host st.next c.due_blackout-due.ensures ready) seat c.note.ensures.items
          (after_blackout plan s k c.pause.new.self c.take_away.new.self x.next vm home host st c.due_blackout-due.ensures at c.pause.ensures
          (paused_pins k.pins c.take_away.new.self k.ports c.pause.new.self vm home host none c.pause.ensures away.pins away.fewer away.least away.room))
          (still plan (past x.lines.items) (Blackout x.next) k.roads tt inv.parcels) fits;
      due = unprepared c.note.new.prepared c.note.ensures.prepared;
    }
