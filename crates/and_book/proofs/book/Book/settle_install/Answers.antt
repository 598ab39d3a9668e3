use Rattle.std.proofs.Common.{◌≤◌, ◌-◌, ◌∙◌, ap, vec_len, vec_capacity, arith}
use Rattle.and_events.specs.declared.plan.Plan.{Plan}
use Rattle.and_events.specs.declared.event.Event.TheVariants.{Installed}
use Rattle.and_events.specs.State.{State, state}
use Rattle.and_events.specs.Places.{installer_of}
use Rattle.and_events.specs.Legal.{CanInstall}
use Rattle.and_events.specs.Run.{past}
use Rattle.and_laws.specs.Fates.{in_hand_count}
use Rattle.and_book.specs.Views.{BookView, now, IsSeat}
use Rattle.and_book.specs.Inside.{Kept, kept_of}
use Rattle.and_book.proofs.More.{unprepared, keeps_more, seen, room_kept}
use Rattle.and_book.proofs.Outgoing.{still}
use Rattle.and_book.proofs.Stepping.{legal_installed, after_installed, upto_announced}
use Rattle.and_book.proofs.book.Book.settle_install.Goals as goal

pub invariant_of-self : goal.invariant_of-self
invariant_of-self c =
    let x = c.self.inside in
    let plan : Plan = x.plan in
    let s : State = state plan (past x.lines.items) in
    let k : Kept = kept_of x in
    let ready = seen x c.args.self.now c.self.view_is (λ (b : BookView). CanInstall b.plan (now b) c.args.node) c.requires.ready in
    let seat = seen x c.args.self.now c.self.view_is (λ (b : BookView). IsSeat b c.args.seat (installer_of c.args.node)) c.requires.seat in
    let room = room_kept x c.args.self.now 1 c.self.view_is c.self.invariant c.requires.room in
    let fits : in_hand_count k.roads.flow ≤ vec_capacity c.note.new.lines - vec_len c.note.new.lines = omega (arith, room, c.note.ensures.len, c.note.ensures.capacity) in
    let upto = c.install-upto.ensures.upto ∙ upto_announced plan s k c.args.node c.node_place-place.result c.self.invariant.keeps.stands c.node_place-place.ensures.place in
    record {
      keeps = keeps_more plan x.threads x.lines.items c.note.new.lines.items k _ _ (vec_capacity c.note.new.lines - vec_len c.note.new.lines) c.args.seat (Installed c.args.node c.install-upto.result)
          c.self.invariant.keeps (legal_installed plan s c.args.node c.install-upto.result ready upto) seat c.note.ensures.items
          (after_installed plan s k c.install-upto.new.self c.ripen.new.self c.args.node c.node_place-place.result c.install-upto.result c.self.invariant.keeps.stands c.node_place-place.ensures.place c.install-upto.ensures.programmes c.install-upto.ensures.limit c.install-upto.ensures.held
          (c.ripen.ensures ∙ ap (λ n. record k.pins { least = n }) c.least.ensures.is))
          (still plan (past x.lines.items) (Installed c.args.node c.install-upto.result) k.roads tt c.self.invariant.keeps.parcels) fits;
      due = unprepared c.note.new.prepared c.note.ensures.prepared;
    }
