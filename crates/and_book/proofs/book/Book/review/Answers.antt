use Rattle.std.proofs.Common.{◌≡◌, ◌≤◌, ◌-◌, ◌∙◌, ap, true, vec_len, vec_capacity, arith, Some}
use Rattle.std.specs.Prelude.{slice_get}
use Rattle.std.proofs.lemmas.Option.{slice_get_within}
use Rattle.and_events.specs.declared.event.Actor.TheVariants.{Driver}
use Rattle.and_events.specs.declared.event.Event.TheVariants.{Review}
use Rattle.and_events.specs.declared.plan.Plan.{Plan}
use Rattle.and_events.specs.declared.plan.Step.TheVariants as steps
use Rattle.and_events.specs.State.{State, state}
use Rattle.and_events.specs.Run.{past}
use Rattle.and_laws.specs.Fates.{in_hand_count}
use Rattle.and_book.specs.Views.{BookView, now, IsSeat}
use Rattle.and_book.specs.Inside.{Kept, kept_of}
use Rattle.and_book.proofs.More.{unprepared, keeps_more, seen, room_kept}
use Rattle.and_book.proofs.Outgoing.{still}
use Rattle.and_book.proofs.Reviewing.{hosts_are_there, legal_review, after_review}
use Rattle.and_book.proofs.book.Book.review.Goals as goal

pub give-requires-clause-hosts : goal.give-requires-clause-hosts
give-requires-clause-hosts c =
    let x = c.self.inside in
    let is = seen x c.args.self.now c.self.view_is (λ (b : BookView). b.prepared ≡ true) c.requires.prepared in
    hosts_are_there x.plan x.threads x.lines.items (kept_of x) _ c.self.invariant.keeps c.deref.result.now (c.deref.ensures.value ∙ (c.self.invariant.due is).are)

pub overflow_add-self : goal.overflow_add-self
overflow_add-self c =
    let x = c.self.inside in
    let due = seen x c.args.self.now c.self.view_is (λ (b : BookView). slice_get b.plan.steps (now b).next ≡ Some steps.Review) c.requires.due in
    omega (arith, slice_get_within x.plan.steps _ _ due, c.self.invariant.keeps.sound.few_steps, c.self.invariant.keeps.stands.next)

pub invariant_of-self : goal.invariant_of-self
invariant_of-self c =
    let x = c.self.inside in
    let plan : Plan = x.plan in
    let s : State = state plan (past x.lines.items) in
    let k : Kept = kept_of x in
    let inv = c.self.invariant.keeps in
    let due = seen x c.args.self.now c.self.view_is (λ (b : BookView). slice_get b.plan.steps (now b).next ≡ Some steps.Review) c.requires.due in
    let is = seen x c.args.self.now c.self.view_is (λ (b : BookView). b.prepared ≡ true) c.requires.prepared in
    let seat = seen x c.args.self.now c.self.view_is (λ (b : BookView). IsSeat b c.args.seat Driver) c.requires.seat in
    let room = room_kept x c.args.self.now 1 c.self.view_is c.self.invariant c.requires.room in
    let fits : in_hand_count k.roads.flow ≤ vec_capacity c.note.new.lines - vec_len c.note.new.lines = omega (arith, room, c.note.ensures.len, c.note.ensures.capacity) in
    record {
      keeps = keeps_more plan x.threads x.lines.items c.note.new.lines.items k _ _ (vec_capacity c.note.new.lines - vec_len c.note.new.lines) c.args.seat (Review x.next)
          inv (legal_review plan s x.next inv.stands.next due) seat c.note.ensures.items
          (after_review plan s k c.give.new.self c.clear.new.self x.next c.deref.result.now inv.stands (ap (slice_get plan.steps) inv.stands.next ∙ due)
          (c.deref.ensures.value ∙ (c.self.invariant.due is).are) c.give.ensures.programmes c.give.ensures.limit c.give.ensures.held c.give.ensures.least c.clear.ensures.used c.clear.ensures.room c.clear.ensures.known)
          (still plan (past x.lines.items) (Review x.next) k.roads tt inv.parcels) fits;
      due = unprepared c.note.new.prepared c.note.ensures.prepared;
    }
