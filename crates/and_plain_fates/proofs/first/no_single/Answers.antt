use Rattle.and_plain.proofs.Deciding.{both_are}
use Rattle.and_plain_fates.proofs.first.no_single.Goals as goal

pub returns : goal.returns
returns c =
    both_are c.both.result c.is_not_before-controller.result c.is_not_before-driver.result c.both.ensures c.is_not_before-controller.ensures
    c.is_not_before-driver.ensures
