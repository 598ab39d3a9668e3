use Rattle.std.proofs.Common.{arith, rules, ℕ, subst, sym}
use Rattle.std.specs.Prelude.{◌==◌, ◌&&◌}
use Rattle.and_policy.specs.declared.entry.Order.{Order}
use Rattle.and_tables.specs.Chains.{IsChain}
use Rattle.and_tables.specs.Numbers.{at, at_pair}
use Rattle.and_tables.specs.Orders.{any_alive, hits}
use Rattle.and_tables.proofs.Chaining.{orders_few, touched_more}
use Rattle.and_tables.proofs.index.Index.apply.Goals as goal

pub link-requires-clause-into : goal.link-requires-clause-into
link-requires-clause-into c = rw c.touch.ensures.into (omega (arith, c.requires.chained.into.long, orders_few c.args.ops.now, c.requires.here))

pub link-requires-clause-until : goal.link-requires-clause-until
link-requires-clause-until c = rw c.touch.ensures.until (omega (arith, c.requires.chained.until.long, orders_few c.args.ops.now, c.requires.here))

pub returns-clause-chained : goal.returns-clause-chained
returns-clause-chained c =
    let p = c.args.ops.now in
    let entered : ℕ → ℕ = at c.args.self.now.entered in
    let ordered : ℕ → ℕ → ℕ = at_pair c.args.self.now.ordered in
    record {
      into = c.link.ensures.into p c.requires.here (subst (IsChain (λ (o : Order). o.to_net) p) (sym c.touch.ensures.into) c.requires.chained.into);
      until = c.link.ensures.until p c.requires.here (subst (IsChain (λ (o : Order). o.until) p) (sym c.touch.ensures.until) c.requires.chained.until);
      touched = touched_more p c.args.op.now c.args.name c.args.here (at c.args.self.now.touched) (at c.link.new.self.touched)
          (λ net. any_alive p c.args.ticks entered ordered (λ o. hits c.args.name c.args.op.now c.args.now o && (o.net == net))) (omega (arith, c.requires.here))
          (λ net. search rules) c.requires.chained.touched;
    }
