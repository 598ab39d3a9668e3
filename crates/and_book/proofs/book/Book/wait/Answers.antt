use Rattle.std.proofs.Common.{◌≡◌, ◌≤◌, ◌-◌, vec_len, vec_capacity, arith, Some}
use Rattle.std.specs.Prelude.{slice_get}
use Rattle.and_events.specs.declared.event.Actor.TheVariants.{Driver}
use Rattle.and_events.specs.declared.event.Event.TheVariants.{Wait}
use Rattle.and_events.specs.declared.plan.Plan.{Plan}
use Rattle.and_events.specs.declared.plan.Step.TheVariants as steps
use Rattle.and_events.specs.State.{State, state}
use Rattle.and_events.specs.Legal.{IsAtRest}
use Rattle.and_events.specs.Run.{past}
use Rattle.and_laws.specs.Fates.{in_hand_count}
use Rattle.and_book.specs.Views.{BookView, now, IsSeat}
use Rattle.and_book.specs.Inside.{Kept, kept_of}
use Rattle.and_book.proofs.More.{unprepared, keeps_more, seen, room_kept}
use Rattle.and_book.proofs.Outgoing.{still}
use Rattle.and_book.proofs.Stepping.{legal_wait, after_wait}
use Rattle.and_book.proofs.book.Book.wait.Goals as goal

pub invariant_of-self : goal.invariant_of-self
invariant_of-self c =
    let x = c.self.inside in
    let plan : Plan = x.plan in
    let s : State = state plan (past x.lines.items) in
    let k : Kept = kept_of x in
    let due = seen x c.args.self.now c.self.view_is (λ (b : BookView). slice_get b.plan.steps (now b).next ≡ Some steps.Wait) c.requires.due in
    let ready = seen x c.args.self.now c.self.view_is (λ (b : BookView). IsAtRest b.plan (now b)) c.requires.ready in
    let seat = seen x c.args.self.now c.self.view_is (λ (b : BookView). IsSeat b c.args.seat Driver) c.requires.seat in
    let room = room_kept x c.args.self.now 1 c.self.view_is c.self.invariant c.requires.room in
    let fits : in_hand_count k.roads.flow ≤ vec_capacity c.note.new.lines - vec_len c.note.new.lines = omega (arith, room, c.note.ensures.len, c.note.ensures.capacity) in
    record {
      keeps = keeps_more plan x.threads x.lines.items c.note.new.lines.items k _ _ (vec_capacity c.note.new.lines - vec_len c.note.new.lines) c.args.seat (Wait x.next)
          c.self.invariant.keeps (legal_wait plan s x.next c.self.invariant.keeps.stands.next due ready) seat c.note.ensures.items
          (after_wait plan s k x.next c.self.invariant.keeps.stands) (still plan (past x.lines.items) (Wait x.next) k.roads tt c.self.invariant.keeps.parcels) fits;
      due = unprepared c.note.new.prepared c.note.ensures.prepared;
    }
