use Rattle.std.proofs.Common.{◌≤◌, ◌-◌, vec_len, vec_capacity, arith}
use Rattle.and_events.specs.declared.event.Actor.TheVariants.{Controller}
use Rattle.and_events.specs.declared.event.Event.TheVariants.{Unpin}
use Rattle.and_events.specs.declared.plan.Plan.{Plan}
use Rattle.and_events.specs.Legal.{CanUnpin}
use Rattle.and_events.specs.Run.{past}
use Rattle.and_events.specs.State.{State, state}
use Rattle.and_laws.specs.Fates.{in_hand_count}
use Rattle.and_book.specs.Views.{BookView, now, IsSeat}
use Rattle.and_book.specs.Inside.{Kept, kept_of}
use Rattle.and_book.proofs.More.{unprepared, keeps_more, seen, room_kept}
use Rattle.and_book.proofs.Moved.{legal_unpin, after_unpin}
use Rattle.and_book.proofs.Outgoing.{still}
use Rattle.and_book.proofs.Pinning.{unpinned_pins}
use Rattle.and_book.proofs.book.Book.unpin.Goals as goal

pub invariant_of-self : goal.invariant_of-self
invariant_of-self c =
    let x = c.self.inside in
    let plan : Plan = x.plan in
    let s : State = state plan (past x.lines.items) in
    let k : Kept = kept_of x in
    let inv = c.self.invariant.keeps in
    let host = c.args.host in
    let vm = c.args.vm in
    let away = c.take_away.ensures in
    let ready = seen x c.args.self.now c.self.view_is (λ (b : BookView). CanUnpin b.plan (now b) host vm) c.requires.ready in
    let seat = seen x c.args.self.now c.self.view_is (λ (b : BookView). IsSeat b c.args.seat Controller) c.requires.seat in
    let room = room_kept x c.args.self.now 1 c.self.view_is c.self.invariant c.requires.room in
    let fits : in_hand_count k.roads.flow ≤ vec_capacity c.note.new.lines - vec_len c.note.new.lines = omega (arith, room, c.note.ensures.len, c.note.ensures.capacity) in
    record {
      keeps = keeps_more plan x.threads x.lines.items c.note.new.lines.items k _ _ (vec_capacity c.note.new.lines - vec_len c.note.new.lines) c.args.seat (Unpin host vm)
          inv (legal_unpin plan s host vm ready) seat c.note.ensures.items
          (after_unpin plan s k c.unpin.new.self c.take_away.new.self host vm inv.stands c.unpin.ensures
          (unpinned_pins k.pins c.take_away.new.self k.ports c.unpin.new.self vm host c.unpin.ensures away.pins away.fewer away.least away.room))
          (still plan (past x.lines.items) (Unpin host vm) k.roads tt inv.parcels) fits;
      due = unprepared c.note.new.prepared c.note.ensures.prepared;
    }
