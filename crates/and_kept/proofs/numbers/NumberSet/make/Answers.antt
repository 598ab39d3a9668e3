use Rattle.std.proofs.Common.{◌≡◌, ◌+◌, ◌/◌, arith, sym, ap, ◌∙◌}
use Rattle.std.proofs.lemmas.List.{length-replicate}
use Rattle.std.specs.Prelude.{replicate}
use Rattle.and_kept.specs.Numbers.{has_in}
use Rattle.and_kept.proofs.NumbersLemmas.{has_none, rank_none}
use Rattle.and_kept.proofs.numbers.NumberSet.make.Goals as goal

pub invariant_of-result : goal.invariant_of-result
invariant_of-result c =
    let zeros : c.in-Ok.words.items ≡ replicate (c.args.size / 64 + 1) 0 = c.in-Ok.ensures.items_if_clones_equal (λ y h. h) in
    record {
      wide = rw zeros (simp length-replicate (omega arith));
      small = c.requires;
      counted = rw zeros (sym (rank_none (c.args.size / 64 + 1) c.args.size));
    }

pub returns-in-Ok-clause-none : goal.returns-in-Ok-clause-none
returns-in-Ok-clause-none c n =
    let zeros : c.in-Ok.words.items ≡ replicate (c.args.size / 64 + 1) 0 = c.in-Ok.ensures.items_if_clones_equal (λ y h. h) in
    ap (λ ws. has_in ws n) zeros ∙ has_none (c.args.size / 64 + 1) n
