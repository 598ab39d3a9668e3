use Rattle.std.proofs.Common.{◌==◌, rules}
use Rattle.std.specs.Prelude.{not}
use Rattle.std.proofs.lemmas.Fn.{filter_same}
use Rattle.and_pins.proofs.place.take_out_all.Goals as goal

pub returns-clause-pins : goal.returns-clause-pins
returns-clause-pins c = filter_same _ (λ pin. not (pin.vm == c.args.vm)) _ (λ x b f' k. search rules) _ _ c.retain.ensures.filtered
