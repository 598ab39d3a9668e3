use Rattle.std.proofs.Common.{◌≡◌, ◌-◌, ◌∙◌, ℕ, arith, ap, sym}
use Rattle.and_policy.specs.Logs as logs
use Rattle.and_routes.specs.Buckets.{best_below}
use Rattle.and_routes.proofs.Lengths.{best_found, best_missed, best_none}
use Rattle.and_routes.proofs.prefixes.Prefixes.deciding.Goals as goal

pub returns-in-Some : goal.returns-in-Some
returns-in-Some c = λ k is.
    sym (c.loop-length.invariant.same k is
    ∙ best_found c.loop-length.length (c.loop-length.length - 1) c.args.address (logs.routes k c.args.net) c.in-Some.route (omega (arith, c.loop-length-test.true)) (sym (c.first.ensures k is) ∙ c.in-Some.is))

pub loop-length-preserved : goal.loop-length-preserved
loop-length-preserved c = record {
  within = omega (arith, c.loop-length.invariant.within);
  same = λ k is.
      c.loop-length.invariant.same k is
      ∙ best_missed c.loop-length.length (c.loop-length.length - 1) c.args.address (logs.routes k c.args.net) (omega (arith, c.loop-length-test.true)) (sym (c.first.ensures k is) ∙ c.in-None.is);
}

pub returns : goal.returns
returns c = λ k is.
    let zero : c.loop-length.length ≡ 0 = omega (arith, c.loop-length-test.false) in
    sym (c.loop-length.invariant.same k is ∙ ap (λ (n : ℕ). best_below n c.args.address (logs.routes k c.args.net)) zero ∙ best_none c.args.address (logs.routes k c.args.net))
