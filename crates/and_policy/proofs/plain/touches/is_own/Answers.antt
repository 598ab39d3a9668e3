use Rattle.std.proofs.Common.{◌≡◌, ◌-◌, ◌∙◌, take, Some, ap, sym, arith}
use Rattle.std.specs.Prelude.{slice_get}
use Rattle.std.proofs.lemmas.Option.{slice_get-get_or}
use Rattle.and_policy.specs.declared.entry.Op.{Op}
use Rattle.and_policy.proofs.LoggedLemmas.{entries_of_ops}
use Rattle.and_policy.proofs.plain.touches.is_own.Goals as goal

pub returns-in-Some : goal.returns-in-Some
returns-in-Some c =
    let there : slice_get c.args.ops.now (c.args.place - 1) ≡ Some c.in-Some.op.now =
    slice_get-get_or c.args.ops.now (c.args.place - 1) c.in-Some.op.now (omega arith) ∙ ap (λ (op : Op). Some op) (sym c.in-Some.ensures.lookup.1) in
    rw (there, ← entries_of_ops (take c.args.place c.args.ops.now)) c.is_of.ensures
