use Rattle.std.proofs.Common.{ap, ◌∙◌, unwrap_or}
use Rattle.and_tables.specs.Numbers.{pair_eq}
use Rattle.and_tables.proofs.Pairs.{chosen}
use Rattle.and_tables.proofs.maps.put_of.Goals as goal

pub returns : goal.returns
returns c = λ q r. ap (λ o. unwrap_or o 0) (c.in-Ok.ensures.updates.0 (q, r)) ∙ chosen (pair_eq (c.args.a, c.args.b) (q, r)) c.args.number _
