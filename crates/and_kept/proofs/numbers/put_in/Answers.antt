use Rattle.std.proofs.Common.{◌/◌, arith, subst}
use Rattle.std.specs.Prelude.{slice_index_or}
use Rattle.and_kept.specs.Numbers.{IsPut}
use Rattle.and_kept.proofs.numbers.put_in.Goals as goal
use Rattle.and_kept.proofs.NumbersLemmas.{has_put}

pub returns-clause-has : goal.returns-clause-has
returns-clause-has c =
    has_put c.args.words.now.items c.args.n c.with_bit-word.result c.args.on (omega (arith, c.requires))
    (subst (λ ws. IsPut (slice_index_or ws (c.args.n / 64) 0) c.with_bit-word.result c.args.n c.args.on) c.deref.ensures.value
    (subst (λ w. IsPut w c.with_bit-word.result c.args.n c.args.on) c.word_of.ensures c.with_bit-word.ensures))
