use Rattle.std.proofs.Common.{◌++◌, ap, ◌∙◌}
use Rattle.std.specs.List.{flat_map}
use Rattle.and_report.specs.Keys.{entry_line}
use Rattle.and_report.proofs.KeyLemmas.{keyed_text}
use Rattle.and_report.proofs.drops.put_stage.Goals as goal

pub returns : goal.returns
returns c = λ ks is. c.in_ok-put_keys.ensures ∙ ap (λ l. c.args.text.now.items ++ l) (ap (flat_map (entry_line c.args.stage)) is ∙ keyed_text c.args.stage ks)
