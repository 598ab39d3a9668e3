use Rattle.std.proofs.Common.{◌≡◌, ◌∙◌, ap, arith}
use Rattle.and_events.specs.Usage.{Used, Uses, usage_after, with_use}
use Rattle.deciding_rows.proofs.Adding.{use_bytes}
use Rattle.deciding_rows.proofs.usages.Counted.add.Goals as goal

pub invariant_of-self-2 : goal.invariant_of-self-2
unfolding usage_after
invariant_of-self-2 c = λ key.
    let is : c.add.new.self.used ≡ with_use c.args.key c.args.bytes c.self.inside.usage.used =
    c.add.ensures.used ∙ ap (with_use c.args.key c.args.bytes) c.reserve.ensures.used in
    rw is (omega (arith, use_bytes key c.args.key c.args.bytes c.self.inside.usage.used, c.self.invariant key, c.in-Some.ensures))
