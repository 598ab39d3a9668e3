use Rattle.std.proofs.Common.{◌≡◌, ◌≤◌, ◌<◌, length, ◌+◌, ◌++◌, ◌∷◌, [], rules, option_map, ap, ◌∙◌}
use Rattle.and_script.specs.Grammar as grammar
use Rattle.and_script.specs.Grammar.{Written, number_of}
use Rattle.and_script.proofs.ItemLists.{after_item}
use Rattle.and_script.proofs.script.read_items.Goals as goal

pub loop-value-preserved : goal.loop-value-preserved
loop-value-preserved c =
    let so = c.loop-value.invariant in
    let w : Written = record { command = c.in-Ok.draft.command; values = c.in-Ok.draft.values.items; name = option_map (λ s. s.now) c.in-Ok.draft.name } in
    let pushed : c.push.new.self.items ≡ c.loop-value.items.items ++ c.item_with.result ∷ [] = search rules in
    let made : c.item_with.result ≡ grammar.item_with (number_of c.loop-value.names w.name) w.command w.values = search rules in
    let named : c.vm_number.new.names ≡ grammar.with_name c.loop-value.names w.name = search rules in
    let few : length c.vm_number.new.names ≤ c.loop-value.value-index + 1 = search rules in
    let below : c.loop-value.value-index < length c.args.list.now = search rules in (
      ap (λ n. n + 1) so.0,
      few,
      after_item c.args.list.now c.loop-value.value-index c.value-item.result so.2.0 w c.loop-value.names c.vm_number.new.names c.loop-value.items.items c.push.new.self.items
          below c.value-item.is c.in-Ok.ensures so.2.1 so.2.2 so.2.3 named (pushed ∙ ap (λ x. c.loop-value.items.items ++ x ∷ []) made),
    )
