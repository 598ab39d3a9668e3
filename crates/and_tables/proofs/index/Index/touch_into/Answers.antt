use Rattle.std.proofs.Common.{◌∙◌, ℕ, refl}
use Rattle.and_policy.specs.declared.entry.Order.{Order}
use Rattle.and_tables.specs.Chains.{IsLastLink, keyed}
use Rattle.and_tables.specs.Numbers.{at, at_pair}
use Rattle.and_tables.proofs.Alive.{alive_into, into_past, none_alive}
use Rattle.and_tables.proofs.Walking.{walk_none}
use Rattle.and_tables.proofs.index.Index.touch_into.Goals as goal

pub returns-then-first-eq0-clause-touched : goal.returns-then-first-eq0-clause-touched
returns-then-first-eq0-clause-touched c = λ net.
    let p = c.args.ops.now in
    let entered : ℕ → ℕ = at c.args.self.now.entered in
    let ordered : ℕ → ℕ → ℕ = at_pair c.args.self.now.ordered in
    let last : IsLastLink (keyed (λ (o : Order). o.to_net) c.in-Some.net) p c.last-first.result = rw c.last-first.ensures (c.requires.chained.into.lasts c.in-Some.net) in
    walk_none (λ (o : Order). o.to_net) p c.args.ticks entered ordered c.in-Some.net c.args.here (at c.args.self.now.touched) c.last-first.result last c.if-first-eq0.true net
    ∙ rw (c.in-Some.is, alive_into p c.args.ticks entered ordered c.in-Some.net net) refl

pub returns-clause-touched : goal.returns-clause-touched
returns-clause-touched c = λ net.
    let p = c.args.ops.now in
    let entered : ℕ → ℕ = at c.args.self.now.entered in
    let ordered : ℕ → ℕ → ℕ = at_pair c.args.self.now.ordered in
    c.touch_ended.ensures (λ (o : Order). o.to_net) c.in-Some.net c.last-first.ensures c.requires.chained.into (rw c.last-floor.ensures (into_past p c.args.ticks entered ordered c.in-Some.net)) net
    ∙ rw (c.in-Some.is, alive_into p c.args.ticks entered ordered c.in-Some.net net) refl

pub returns-in_default-clause-touched : goal.returns-in_default-clause-touched
returns-in_default-clause-touched c = λ net.
    rw (c.in_default.is, none_alive c.args.ops.now c.args.ticks (at c.args.self.now.entered) (at_pair c.args.self.now.ordered)) refl
