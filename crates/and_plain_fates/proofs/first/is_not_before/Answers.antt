use Rattle.and_plain_fates.proofs.FirstLemmas.{implied}
use Rattle.and_plain_fates.proofs.first.is_not_before.Goals as goal

pub returns : goal.returns
returns c =
    implied c.implies.result c.is_enabled-enabled.result c.is_at_most-after.result c.implies.ensures c.is_enabled-enabled.ensures c.is_at_most-after.ensures
