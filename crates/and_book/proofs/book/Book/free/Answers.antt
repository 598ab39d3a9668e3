use Rattle.std.proofs.Common.{◌≡◌, ◌∷◌, ◌≤◌, ◌-◌, ◌∙◌, sym, ap, subst, vec_len, vec_capacity, arith, Some, false}
use Rattle.std.specs.Prelude.{slice_get}
use Rattle.std.proofs.lemmas.Option.{slice_get_within}
use Rattle.and_events.specs.declared.event.Actor.TheVariants.{Driver}
use Rattle.and_events.specs.declared.event.Event.TheVariants.{Free}
use Rattle.and_events.specs.declared.event.Node.{Node}
use Rattle.and_events.specs.declared.plan.What.{What}
use Rattle.and_events.specs.declared.plan.Plan.{Plan}
use Rattle.and_events.specs.declared.plan.Settings.{Settings}
use Rattle.and_events.specs.declared.plan.Step.TheVariants as steps
use Rattle.and_events.specs.Places.{node_count, IsNode}
use Rattle.and_events.specs.State.{State, state}
use Rattle.and_events.specs.Run.{past}
use Rattle.and_laws.specs.Fates.{in_hand_count}
use Rattle.and_kept.specs.Lanes.{Roads}
use Rattle.and_book.specs.Views.{BookView, IsSeat}
use Rattle.and_book.specs.Inside.{Kept, kept_of}
use Rattle.and_book.proofs.Holding.{IsMarked, free_there, legal_free, after_free, parcels_stay}
use Rattle.and_book.proofs.More.{unprepared, keeps_more, seen, room_kept}
use Rattle.and_book.proofs.Outgoing.{still}
use Rattle.and_book.proofs.book.Book.free.Goals as goal

pub note_hold-requires-clause-node : goal.note_hold-requires-clause-node
note_hold-requires-clause-node c =
    let x = c.self.inside in
    let inv = c.self.invariant.keeps in
    let node : Node = c.due_free-due.result.0 in
    let told : slice_get x.plan.steps (state x.plan (past x.lines.items)).next ≡ Some (steps.Free node c.due_free-due.result.1) = ap (slice_get x.plan.steps) (sym inv.stands.next) ∙ c.due_free-due.ensures in
    subst (λ (v : Settings). IsNode v node) (sym inv.sized.settings) (free_there x.plan (past x.lines.items) node c.due_free-due.result.1 inv.sound told)

pub note_hold-requires-clause-nodes : goal.note_hold-requires-clause-nodes
note_hold-requires-clause-nodes c = c.self.invariant.keeps.nodes.ops ∙ ap (λ (v : Settings). node_count v) (sym c.self.invariant.keeps.sized.settings)

pub overflow_add-self : goal.overflow_add-self
overflow_add-self c = omega (arith, slice_get_within c.self.inside.plan.steps c.self.inside.next _ c.due_free-due.ensures, c.self.invariant.keeps.sound.few_steps)

pub invariant_of-self : goal.invariant_of-self
invariant_of-self c =
    let x = c.self.inside in
    let plan : Plan = x.plan in
    let s : State = state plan (past x.lines.items) in
    let k : Kept = kept_of x in
    let inv = c.self.invariant.keeps in
    let st = inv.stands in
    let node : Node = c.due_free-due.result.0 in
    let what : What = c.due_free-due.result.1 in
    let seat = seen x c.args.self.now c.self.view_is (λ (b : BookView). IsSeat b c.args.seat Driver) c.requires.seat in
    let room = room_kept x c.args.self.now 1 c.self.view_is c.self.invariant c.requires.room in
    let is : IsMarked k c.note_hold.new.progress c.note_hold.new.traffic node what false = record { installs = c.note_hold.ensures.installs; forwards = c.note_hold.ensures.forwards } in
    let fits : in_hand_count c.note_hold.new.traffic.flow ≤ vec_capacity c.note.new.lines - vec_len c.note.new.lines =
    omega (arith, ap (λ (t : Roads). in_hand_count t.flow) is.forwards, room, c.note.ensures.len, c.note.ensures.capacity) in
    record {
      keeps = keeps_more plan x.threads x.lines.items c.note.new.lines.items k _ _ (vec_capacity c.note.new.lines - vec_len c.note.new.lines) c.args.seat (Free x.next)
          inv (legal_free plan s x.next c.due_free-due.result.0 c.due_free-due.result.1 st.next c.due_free-due.ensures) seat c.note.ensures.items
          (after_free plan s k c.note_hold.new.progress c.note_hold.new.traffic x.next node what st inv.sized.settings c.due_free-due.ensures is)
          (parcels_stay plan (Free x.next ∷ past x.lines.items) k c.note_hold.new.progress c.note_hold.new.traffic node what false is (still plan (past x.lines.items) (Free x.next) k.roads tt inv.parcels)) fits;
      due = unprepared c.note.new.prepared c.note.ensures.prepared;
    }
