use Rattle.std.proofs.Common.{◌≡◌, ◌≤◌, ◌-◌, ◌∙◌, sym, ap, subst, vec_len, vec_capacity, length, arith, Some}
use Rattle.std.specs.Prelude.{slice_get}
use Rattle.std.proofs.lemmas.Option.{slice_get_within}
use Rattle.and_policy.specs.declared.entry.Entry.{Entry}
use Rattle.and_events.specs.declared.event.Actor.TheVariants.{Driver}
use Rattle.and_events.specs.declared.plan.Plan.{Plan}
use Rattle.and_events.specs.declared.plan.Step.TheVariants as steps
use Rattle.and_events.specs.State.{State, state}
use Rattle.and_events.specs.Run.{past}
use Rattle.and_laws.specs.Fates.{in_hand_count}
use Rattle.and_book.specs.Views.{BookView, IsSeat}
use Rattle.and_book.specs.Inside.{BootsAnew, Kept, kept_of}
use Rattle.and_book.proofs.More.{unprepared, keeps_more, seen, room_kept}
use Rattle.and_events.specs.declared.event.Event.TheVariants.{Append}
use Rattle.and_book.proofs.Moved.{boots_anew}
use Rattle.and_book.proofs.Plans.{log_room}
use Rattle.and_book.proofs.Outgoing.{still}
use Rattle.and_book.proofs.Stepping.{legal_append, after_append}
use Rattle.and_book.proofs.book.Book.append.Goals as goal

pub append-requires : goal.append-requires
append-requires c =
    let x = c.self.inside in
    let st = c.self.invariant.keeps.stands in
    let e : Entry = c.due_entry-entry.result in
    let due : slice_get x.plan.steps (state x.plan (past x.lines.items)).next ≡ Some (steps.Append e) = ap (slice_get x.plan.steps) (sym st.next) ∙ c.due_entry-entry.ensures in
    let room = log_room x.plan (past x.lines.items) (steps.Append e) tt c.self.invariant.keeps.sound c.self.invariant.keeps.run due in
    omega (arith, room, ap (λ p. length p.log) st.programmes, c.self.invariant.keeps.sized.limit)

pub note_ports-requires : goal.note_ports-requires
note_ports-requires c =
    let x = c.self.inside in
    let inv = c.self.invariant.keeps in
    let e : Entry = c.due_entry-entry.result in
    subst (λ ports. BootsAnew ports e) (sym inv.stands.ports) (boots_anew x.plan (past x.lines.items) inv.sound inv.run x.next e inv.stands.next c.due_entry-entry.ensures)

pub overflow_add-self : goal.overflow_add-self
overflow_add-self c = omega (arith, slice_get_within c.self.inside.plan.steps c.self.inside.next _ c.due_entry-entry.ensures, c.self.invariant.keeps.sound.few_steps)

pub invariant_of-self : goal.invariant_of-self
invariant_of-self c =
    let x = c.self.inside in
    let plan : Plan = x.plan in
    let s : State = state plan (past x.lines.items) in
    let k : Kept = kept_of x in
    let st = c.self.invariant.keeps.stands in
    let e : Entry = c.due_entry-entry.result in
    let seat = seen x c.args.self.now c.self.view_is (λ (b : BookView). IsSeat b c.args.seat Driver) c.requires.seat in
    let room = room_kept x c.args.self.now 1 c.self.view_is c.self.invariant c.requires.room in
    let fits : in_hand_count k.roads.flow ≤ vec_capacity c.note.new.lines - vec_len c.note.new.lines = omega (arith, room, c.note.ensures.len, c.note.ensures.capacity) in
    record {
      keeps = keeps_more plan x.threads x.lines.items c.note.new.lines.items k _ _ (vec_capacity c.note.new.lines - vec_len c.note.new.lines) c.args.seat (Append x.next)
          c.self.invariant.keeps (legal_append plan s x.next e st.next c.due_entry-entry.ensures) seat c.note.ensures.items
          (after_append plan s k c.append.new.self c.note_ports.new.ports c.note_ports.new.pins x.next e st c.due_entry-entry.ensures c.append.ensures.programmes c.note_ports.ensures.ports c.note_ports.ensures.pins c.append.ensures.limit c.append.ensures.held
          c.append.ensures.least)
          (still plan (past x.lines.items) (Append x.next) k.roads tt c.self.invariant.keeps.parcels) fits;
      due = unprepared c.note.new.prepared c.note.ensures.prepared;
    }
