use Rattle.std.proofs.Common.{◌≡◌, ◌<◌, sym, ap, subst, length, vec_capacity}
use Rattle.and_policy.specs.declared.entry.Op.TheVariants as ops
use Rattle.and_kept.specs.Nodes.{Programmed, with_op}
use Rattle.and_kept.proofs.NodesLemmas.{programmed_more}
use Rattle.and_kept.proofs.OrdersLemmas.{counts_order}
use Rattle.and_kept.proofs.programme.Programme.give.Goals as goal

pub invariant_of-self : goal.invariant_of-self
invariant_of-self c =
    let n : Programmed = record { ops = c.self.inside.ops.items; announced = c.self.inside.announced; installed = c.self.inside.installed; limit = c.self.inside.limit } in
    let n' : Programmed = record n { ops = c.push_reserved.new.self.items } in
    let room : length n.ops < n.limit = subst (λ (m : Programmed). length m.ops < m.limit) (sym c.self.view_is) c.requires in
    let is : n' ≡ with_op (ops.Offload c.args.order) n = ap (λ xs. record n { ops = xs }) c.push_reserved.ensures.items in (
      programmed_more n n' (ops.Offload c.args.order) (vec_capacity c.self.inside.ops) (vec_capacity c.push_reserved.new.self) c.self.invariant.0 room is c.push_reserved.ensures.capacity,
      counts_order n n' c.self.inside.entry_count c.self.inside.announced_entries c.self.inside.installed_entries (vec_capacity c.self.inside.ops) c.args.order c.self.invariant.0 c.self.invariant.1 is,
    )
