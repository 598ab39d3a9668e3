use Rattle.std.proofs.Common.{◌≡◌, ◌∙◌, ◌&&◌, ℕ, sym, ap, refl}
use Rattle.std.specs.Prelude.{◌==◌}
use Rattle.and_policy.specs.Programmes.{is_net}
use Rattle.and_tables.specs.Numbers.{at, at_pair}
use Rattle.and_tables.specs.Orders.{any_alive, hits}
use Rattle.and_tables.proofs.Alive.{alike, hits_into, none_alive}
use Rattle.and_tables.proofs.index.Index.touch.Goals as goal

pub returns-in-Offload-clause-touched : goal.returns-in-Offload-clause-touched
returns-in-Offload-clause-touched c = λ net.
    rw (c.in-Offload.is, none_alive c.args.ops.now c.args.ticks (at c.args.self.now.entered) (at_pair c.args.self.now.ordered)) refl

pub returns-in_default : goal.returns-in_default
returns-in_default c =
    let p = c.args.ops.now in
    let entered : ℕ → ℕ = at c.args.self.now.entered in
    let ordered : ℕ → ℕ → ℕ = at_pair c.args.self.now.ordered in
    let same : (net : ℕ) → any_alive p c.args.ticks entered ordered (λ o. is_net c.args.name o.to_net && (o.net == net)) ≡ any_alive p c.args.ticks entered ordered (λ o. hits c.args.name c.args.op.now c.args.now o && (o.net == net)) =
    λ net. alike p c.args.ticks entered ordered (λ o. is_net c.args.name o.to_net && (o.net == net)) (λ o. hits c.args.name c.args.op.now c.args.now o && (o.net == net))
    (λ o h. ap (λ b. b && (o.net == net)) (sym (hits_into c.args.name c.args.op.now c.in-Entry.entry c.args.now o c.in-Entry.is c.in_default.not-Tick))) in
    record {
      entered = c.touch_into.ensures.entered;
      ordered = c.touch_into.ensures.ordered;
      into = c.touch_into.ensures.into;
      until = c.touch_into.ensures.until;
      touched = λ net. c.touch_into.ensures.touched net ∙ rw (same net) refl;
    }
