use Rattle.std.proofs.Common.{◌≡◌, map}
use Rattle.serde_json.specs.View.{view, members_view}
use Rattle.serde_json.specs.Find.{as_object}
use Rattle.and_script.specs.Tables.{row_view}
use Rattle.and_script.specs.Grammar as grammar
use Rattle.and_script.specs.Answers.{unknown_in, known_names}
use Rattle.and_script.proofs.fields.first_unknown.Given as goal

abbrev pub invariant-loop-name : goal.invariant-loop-name
invariant-loop-name l = unknown_in (known_names l.item (map row_view l.rows)) (as_object (view l.object)) ≡ grammar.first_unknown (known_names l.item (map row_view l.rows)) (members_view l.name-iterator)
