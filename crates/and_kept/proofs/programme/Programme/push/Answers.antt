use Rattle.std.proofs.Common.{◌≡◌, ◌<◌, sym, ap, subst, arith, length, vec_capacity}
use Rattle.and_policy.specs.declared.entry.Op.TheVariants as ops
use Rattle.and_kept.specs.Nodes.{Programmed, with_entry}
use Rattle.and_kept.proofs.NodesLemmas.{entries_short, counts_more, programmed_more}
use Rattle.and_kept.proofs.programme.Programme.push.Goals as goal

pub overflow_add-self : goal.overflow_add-self
overflow_add-self c =
    let n : Programmed = record { ops = c.self.inside.ops.items; announced = c.self.inside.announced; installed = c.self.inside.installed; limit = c.self.inside.limit } in
    let room : length n.ops < n.limit = subst (λ (m : Programmed). length m.ops < m.limit) (sym c.self.view_is) c.requires in
    omega (arith, entries_short c.self.inside.ops.items, c.self.invariant.1.all_are, c.self.invariant.0.small, room)

pub invariant_of-self : goal.invariant_of-self
invariant_of-self c =
    let n : Programmed = record { ops = c.self.inside.ops.items; announced = c.self.inside.announced; installed = c.self.inside.installed; limit = c.self.inside.limit } in
    let n' : Programmed = record n { ops = c.push_reserved.new.self.items } in
    let room : length n.ops < n.limit = subst (λ (m : Programmed). length m.ops < m.limit) (sym c.self.view_is) c.requires in
    let is : n' ≡ with_entry c.args.entry n = ap (λ xs. record n { ops = xs }) c.push_reserved.ensures.items in (
      programmed_more n n' (ops.Entry c.args.entry) (vec_capacity c.self.inside.ops) (vec_capacity c.push_reserved.new.self) c.self.invariant.0 room is c.push_reserved.ensures.capacity,
      counts_more n n' c.self.inside.entry_count c.self.inside.announced_entries c.self.inside.installed_entries (vec_capacity c.self.inside.ops) c.args.entry c.self.invariant.0 c.self.invariant.1 is,
    )
