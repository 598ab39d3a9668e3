use Rattle.std.proofs.Common.{◌≡◌, ◌≢◌, ℕ, ◌+◌, ◌<◌, ◌≤◌, ◌-◌, ◌∙◌, List, length, sym, ap, vec_len, vec_capacity, arith, Some, None}
use Rattle.std.specs.Prelude.{slice_get, unwrap_or}
use Rattle.std.proofs.lemmas.Option.{slice_get_within}
use Rattle.and_policy.specs.Owners.{place}
use Rattle.and_policy.specs.declared.entry.Entry.TheVariants as entries
use Rattle.and_policy.specs.declared.port.Port.{Port}
use Rattle.and_events.specs.declared.event.Actor.TheVariants.{Driver}
use Rattle.and_events.specs.declared.event.Event.TheVariants.{Resume}
use Rattle.and_events.specs.declared.plan.Plan.{Plan}
use Rattle.and_events.specs.declared.plan.Step.TheVariants as steps
use Rattle.and_events.specs.Ports.{comes_to, ports_of, port_at}
use Rattle.and_events.specs.Run.{past}
use Rattle.and_events.specs.State.{State, state}
use Rattle.and_laws.specs.Fates.{in_hand_count}
use Rattle.and_pins.specs.Pinned.{hairpin_entry}
use Rattle.and_book.specs.Views.{BookView, IsSeat}
use Rattle.and_book.specs.Inside.{Kept, kept_of}
use Rattle.and_book.proofs.More.{unprepared, keeps_more, seen, room_kept}
use Rattle.and_book.proofs.Moved.{goes_on, legal_resume, after_resume}
use Rattle.and_book.proofs.Outgoing.{still}
use Rattle.and_book.proofs.Pinning.{arrived_pins}
use Rattle.and_book.proofs.Plans.{log_longer, log_room, log_short}
use Rattle.and_book.proofs.book.Book.resume.Goals as goal

pub arriving_at-host-requires : goal.arriving_at-host-requires
arriving_at-host-requires c =
    let x = c.self.inside in
    let inv = c.self.invariant.keeps in
    let vm : ℕ = c.due_resume-vm.result in
    let facts = goes_on x.plan (past x.lines.items) inv.sound inv.run x.next vm inv.stands.next c.due_resume-vm.ensures in
    omega (arith, ap (λ rows. length (ports_of rows vm)) inv.stands.ports, facts.1)

pub append-requires : goal.append-requires
append-requires c =
    let x = c.self.inside in
    let inv = c.self.invariant.keeps in
    let vm : ℕ = c.due_resume-vm.result in
    let due : slice_get x.plan.steps (state x.plan (past x.lines.items)).next ≡ Some (steps.Resume vm) = ap (slice_get x.plan.steps) (sym inv.stands.next) ∙ c.due_resume-vm.ensures in
    let room = log_room x.plan (past x.lines.items) (steps.Resume vm) tt inv.sound inv.run due in
    omega (arith, room, ap (λ p. length p.log) inv.stands.programmes, inv.sized.limit)

pub overflow_cast-entry : goal.overflow_cast-entry
overflow_cast-entry c =
    let x = c.self.inside in
    let inv = c.self.invariant.keeps in
    let vm : ℕ = c.due_resume-vm.result in
    let due : slice_get x.plan.steps (state x.plan (past x.lines.items)).next ≡ Some (steps.Resume vm) = ap (slice_get x.plan.steps) (sym inv.stands.next) ∙ c.due_resume-vm.ensures in
    let room = log_room x.plan (past x.lines.items) (steps.Resume vm) tt inv.sound inv.run due in
    let one = log_longer x.progress.programmes c.append.new.self.programmes _ c.append.ensures.programmes in
    omega (arith, ap length c.log.ensures, one, ap (λ p. length p.log) inv.stands.programmes, room, log_short x.plan inv.sound)

pub put-requires : goal.put-requires
put-requires c =
    let x = c.self.inside in
    let inv = c.self.invariant.keeps in
    let within = slice_get_within x.plan.steps x.next _ c.due_resume-vm.ensures in
    record { room = omega (arith, within, inv.pins.room) }

pub overflow_add-self : goal.overflow_add-self
overflow_add-self c = omega (arith, slice_get_within c.self.inside.plan.steps c.self.inside.next _ c.due_resume-vm.ensures, c.self.invariant.keeps.sound.few_steps)

pub invariant_of-self : goal.invariant_of-self
invariant_of-self c =
    let x = c.self.inside in
    let plan : Plan = x.plan in
    let s : State = state plan (past x.lines.items) in
    let k : Kept = kept_of x in
    let inv = c.self.invariant.keeps in
    let st = inv.stands in
    let vm : ℕ = c.due_resume-vm.result in
    let home : ℕ = c.unwrap_or-home.result in
    let host : ℕ = c.arriving_at-host.result in
    let put = c.put.ensures in
    let row : List Port = ports_of s.ports vm in
    let facts = goes_on plan (past x.lines.items) inv.sound inv.run x.next vm st.next c.due_resume-vm.ensures in
    let way = facts.2 in
    let seat = seen x c.args.self.now c.self.view_is (λ (b : BookView). IsSeat b c.args.seat Driver) c.requires.seat in
    let room = room_kept x c.args.self.now 1 c.self.view_is c.self.invariant c.requires.room in
    let fits : in_hand_count k.roads.flow ≤ vec_capacity c.note.new.lines - vec_len c.note.new.lines = omega (arith, room, c.note.ensures.len, c.note.ensures.capacity) in
    let at : home ≡ unwrap_or (place s.programmes.log vm) 0 = c.unwrap_or-home.ensures ∙ ap (λ o. unwrap_or o 0) (c.place.ensures ∙ ap (λ p. place p.log vm) st.programmes) in
    let from = at ∙ way.leaves in
    let to : host ≡ comes_to row = c.arriving_at-host.ensures ∙ ap (λ rows. comes_to (ports_of rows vm)) st.ports in
    let one = log_longer k.progress.programmes c.append.new.self.programmes (entries.Place vm host) c.append.ensures.programmes in
    let number : length c.log.result.now ≡ length s.programmes.log + 1 = ap length c.log.ensures ∙ (one ∙ ap (λ p. length p.log + 1) st.programmes) in
    let there : vm < length k.ports = omega (arith, facts.0, ap (λ (rows : List (List Port)). length rows) st.ports) in
    let within : home < length (ports_of k.ports vm) = omega (arith, way.within, at, ap (λ rows. length (ports_of rows vm)) st.ports) in
    let apart : host ≢ home = λ e. way.apart (sym to ∙ (e ∙ at)) in
    let none : hairpin_entry (port_at k.ports host vm) ≡ None = ap (λ rows. hairpin_entry (port_at rows host vm)) st.ports ∙ (ap (λ h. hairpin_entry (port_at s.ports h vm)) to ∙ way.arriving) in
    record {
      keeps = keeps_more plan x.threads x.lines.items c.note.new.lines.items k _ _ (vec_capacity c.note.new.lines - vec_len c.note.new.lines) c.args.seat (Resume x.next)
          inv (legal_resume plan s x.next vm st.next c.due_resume-vm.ensures) seat c.note.ensures.items
          (after_resume plan s k c.append.new.self c.resume.new.self c.put.new.self x.next vm home host (length c.log.result.now) st c.due_resume-vm.ensures (slice_get_within plan.steps x.next _ c.due_resume-vm.ensures)
          from to number c.append.ensures.programmes c.resume.ensures
          (arrived_pins k.pins c.put.new.self k.ports c.resume.new.self vm home host (length c.log.result.now) there within apart none c.resume.ensures put.pins put.more put.least put.room)
          c.append.ensures.limit c.append.ensures.held c.append.ensures.least)
          (still plan (past x.lines.items) (Resume x.next) k.roads tt inv.parcels) fits;
      due = unprepared c.note.new.prepared c.note.ensures.prepared;
    }
