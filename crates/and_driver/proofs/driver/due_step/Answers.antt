use Rattle.std.proofs.Common.{◌∙◌, sym}
use Rattle.and_driver.proofs.driver.due_step.Goals as goal

pub returns : goal.returns
returns c = sym c.next_step.ensures ∙ c.in-Some.is
