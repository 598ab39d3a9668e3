use Rattle.std.proofs.Common.{◌≡◌, ◌<◌, ◌∷◌, [], ◌++◌, ◌∙◌, ap, arith, refl, List, length, length-append, subst, sym}
use Rattle.and_policy.specs.declared.entry.Entry.{Entry}
use Rattle.and_policy.specs.declared.entry.Op.{Op}
use Rattle.and_policy.specs.declared.entry.Op.TheVariants as ops
use Rattle.and_policy.specs.Programmes.{entries}
use Rattle.and_policy.proofs.Logging.{entries-append}
use Rattle.and_review.proofs.Ticks.{now-append, now-few, now-one}
use Rattle.and_review.proofs.known.KnownRoutes.add.Goals as goal

pub overflow_add-self : goal.overflow_add-self
overflow_add-self c =
    let room : length (entries c.self.inside.tables) < 4294967295 = subst (λ (k : List Entry). length k < 4294967295) (sym c.self.view_is) c.requires in
    omega (arith, now-few (entries c.self.inside.tables), now-one c.args.entry, c.self.invariant.ticks, c.ticks_of.ensures)

pub invariant_of-self-2 : goal.invariant_of-self-2
invariant_of-self-2 c =
    let p : List Op = c.self.inside.tables in
    let op : Op = ops.Entry c.args.entry in
    let ends : c.apply.new.self ≡ p ++ op ∷ [] = c.in_ok-apply.ensures.ok in
    let more : entries (p ++ op ∷ []) ≡ entries p ++ c.args.entry ∷ [] = entries-append p (op ∷ []) in
    record {
      alone = rw (ends, more, length-append p (op ∷ []), length-append (entries p) (c.args.entry ∷ []), c.self.invariant.alone) refl;
      ticks = rw (ends, more, now-append (entries p) c.args.entry, c.self.invariant.ticks, c.ticks_of.ensures) refl;
    }

pub returns-clause-ok : goal.returns-clause-ok
returns-clause-ok c =
    let p : List Op = c.self.inside.tables in
    let op : Op = ops.Entry c.args.entry in
    ap entries c.in_ok-apply.ensures.ok ∙ entries-append p (op ∷ []) ∙ ap (λ (k : List Entry). k ++ c.args.entry ∷ []) c.self.view_is
