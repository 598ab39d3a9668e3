use Rattle.std.proofs.Common.{◌≡◌, ◌<◌, ◌^◌, take}
use Rattle.and_script.specs.Words.{digits_value}
use Rattle.and_script.proofs.words.digits_value.Given as goal

abbrev pub invariant-loop-x : goal.invariant-loop-x
invariant-loop-x l = (l.value ≡ digits_value (take l.x-index l.text)) × (l.value < 10 ^ l.x-index)
