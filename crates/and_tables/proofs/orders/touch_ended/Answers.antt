use Rattle.std.proofs.Common.{◌≡◌, ℕ, arith, refl}
use Rattle.std.specs.Prelude.{if◌then◌else◌, ◌==◌}
use Rattle.and_tables.specs.Numbers.{at, at_pair}
use Rattle.and_tables.specs.Orders.{meets}
use Rattle.and_tables.proofs.Chaining.{touched_on}
use Rattle.and_tables.proofs.Walking.{walk_starts, walk_step, walk_ends}
use Rattle.and_tables.proofs.orders.touch_ended.Goals as goal
use Rattle.and_tables.proofs.orders.touch_ended.Goals.{in-Some, in_default}

pub loop-link-init : goal.loop-link-init
loop-link-init c = record {
  touched = c.requires.touched;
  walked = λ by key first is.
      walk_starts by c.args.ops.now c.args.ticks (at c.args.entered.now) (at_pair c.args.ordered.now) key c.args.here (at c.args.touched.now) c.args.last
      (rw first (is.lasts key));
}

pub loop-link-preserved : goal.loop-link-preserved
loop-link-preserved c =
    let t2 : ℕ → ℕ = at c.loop-link.touched in
    let t3 : ℕ → ℕ = at c.match-alive_at.touched in
    let numbers : (net : ℕ) → t3 net ≡ (if meets (λ o. o.net == net) c.alive_at.result then c.args.here else t2 net) =
    elim c.match-alive_at.branch as (λ _. (net : ℕ) → t3 net ≡ (if meets (λ o. o.net == net) c.alive_at.result then c.args.here else t2 net)) [
      | in-Some w ↦ λ net. rw (w.touched-is, w.in-Some.is) (w.change.ensures net)
      | in_default w ↦ λ net. rw (w.touched-is, w.in_default.is) refl
    ] in
    record {
      touched = touched_on c.args.ops.now c.args.here t2 t3 (λ net. meets (λ o. o.net == net) c.alive_at.result) c.requires.here numbers c.loop-link.invariant.touched;
      walked = λ by key first is.
          rw c.before-link.ensures.before
          (walk_step by c.args.ops.now c.args.ticks (at c.args.entered.now) (at_pair c.args.ordered.now) key c.args.here (at c.args.touched.now) c.args.chain.now is c.loop-link.link t2 t3 c.alive_at.result
          (omega (arith, c.loop-link-test.true)) (c.loop-link.invariant.walked by key first is) c.alive_at.ensures numbers);
    }

pub returns-else-link-floor : goal.returns-else-link-floor
returns-else-link-floor c = λ by key first is none.
    walk_ends by c.args.ops.now c.args.ticks (at c.args.entered.now) (at_pair c.args.ordered.now) key c.args.here (at c.args.touched.now) c.args.floor c.loop-link.link (at c.loop-link.touched)
    (λ some h. omega (arith, c.if-link-floor.false, h)) none (c.loop-link.invariant.walked by key first is)

pub returns-after-loop-link : goal.returns-after-loop-link
returns-after-loop-link c = λ by key first is none.
    walk_ends by c.args.ops.now c.args.ticks (at c.args.entered.now) (at_pair c.args.ordered.now) key c.args.here (at c.args.touched.now) c.args.floor c.loop-link.link (at c.loop-link.touched)
    (λ some h. omega (arith, c.loop-link-test.false, some)) none (c.loop-link.invariant.walked by key first is)
