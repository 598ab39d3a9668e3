use Rattle.std.proofs.Common.{subst, sym}
use Rattle.and_policy.specs.Sorting.{Ascends}
use Rattle.and_usage.specs.Counting.{used_before}
use Rattle.and_usage.proofs.Uses.{ascends_use}
use Rattle.and_usage.proofs.usage.Usage.add.Goals as goal

pub invariant_of-self : goal.invariant_of-self
invariant_of-self c =
    subst (Ascends used_before) (sym c.add_to.ensures.items) (ascends_use c.args.key c.args.bytes c.self.inside.used.items c.self.invariant)
