use Rattle.std.proofs.Common.{◌≡◌, ◌∙◌, get_or, take, subst, sym, suc, ℕ, ap, add-one, arith, rules}
use Rattle.and_agree.proofs.Places.{differs, one_more}
use Rattle.and_agree.proofs.comparing.first_difference.Goals as goal

pub returns-then-not-is_same-clause-some : goal.returns-then-not-is_same-clause-some
returns-then-not-is_same-clause-some c =
    differs c.args.tables.now c.args.programme.now c.loop-place.place _ _ (omega arith) (omega (arith, c.requires.longer)) c.loop-place.invariant (c.is_same.ensures.other c.if-not-is_same.true)

pub loop-place-preserved : goal.loop-place-preserved
loop-place-preserved c =
    subst (λ (n : ℕ). take n c.args.tables.now ≡ take n c.args.programme.now) (sym (add-one c.loop-place.place))
    (one_more c.args.tables.now c.args.programme.now c.loop-place.place _ _ (omega arith) (omega (arith, c.requires.longer)) c.loop-place.invariant (c.is_same.ensures.same c.if-not-is_same.false))
