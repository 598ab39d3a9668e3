use Rattle.std.proofs.Common.{◌≡◌, ◌<◌, arith, ap, ◌∙◌, sym, subst}
use Rattle.and_kept.specs.Numbers.{Numbers, one_if, has_in}
use Rattle.and_kept.proofs.NumbersLemmas.{count_within, rank_has, rank_put}
use Rattle.and_kept.proofs.numbers.NumberSet.put.Goals as goal

pub recount-self-inside-requires-clause-small : goal.recount-self-inside-requires-clause-small
recount-self-inside-requires-clause-small c = omega (arith, count_within (has_in c.self.inside.words.items) c.self.inside.size)

pub recount-self-inside-requires-clause-some : goal.recount-self-inside-requires-clause-some
recount-self-inside-requires-clause-some c =
    let within : c.args.n < c.self.inside.size = subst (λ (v : Numbers). c.args.n < v.size) (sym c.self.view_is) c.requires in
    let was : c.is_in-was.result ≡ has_in c.self.inside.words.items c.args.n = c.is_in-was.ensures ∙ ap (λ ws. has_in ws c.args.n) c.deref.ensures.value in
    rw was (omega (arith, rank_has c.self.inside.words.items c.args.n c.self.inside.size within))

pub invariant_of-self : goal.invariant_of-self
invariant_of-self c =
    let within : c.args.n < c.self.inside.size = subst (λ (v : Numbers). c.args.n < v.size) (sym c.self.view_is) c.requires in
    let one = ap one_if (c.is_in-was.ensures ∙ ap (λ ws. has_in ws c.args.n) c.deref.ensures.value) in
    record {
      wide = omega arith;
      small = c.self.invariant.small;
      counted = omega (arith, one, rank_put c.self.inside.words.items c.put_in.new.words.items c.args.n c.args.on c.put_in.ensures.has c.self.inside.size within);
    }
