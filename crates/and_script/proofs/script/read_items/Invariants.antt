use Rattle.std.proofs.Common.{◌≡◌, ◌≤◌, List, [], drop, length}
use Rattle.serde_json.specs.View.{items_view}
use Rattle.and_script.specs.Grammar as grammar
use Rattle.and_script.specs.Answers.{and_rest}
use Rattle.and_script.proofs.script.read_items.Given as goal

abbrev pub invariant-loop-value : goal.invariant-loop-value
invariant-loop-value l =
    (l.item ≡ l.value-index) × (length l.names ≤ l.value-index)
    × ((ws : List grammar.Written) × (grammar.items_of 0 (items_view l.list) ≡ and_rest ws (grammar.items_of l.value-index (items_view (drop l.value-index l.list))))
    × (l.names ≡ grammar.names_from [] ws) × (l.items.items ≡ grammar.items_from [] ws))
