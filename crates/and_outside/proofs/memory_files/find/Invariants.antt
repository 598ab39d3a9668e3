use Rattle.std.proofs.Common.{◌≡◌, IfSome, length, option_map, drop}
use Rattle.std.specs.Option.{option_or}
use Rattle.and_outside.specs.Memory.{content_of}
use Rattle.and_outside.specs.Places.{kept_in, IsWithin, content_at}
use Rattle.and_outside.proofs.memory_files.find.Given as goal

-- the last among the places that are left, or else what was found, is the content
abbrev pub invariant-loop-place : goal.invariant-loop-place
invariant-loop-place l = record {
  rest : option_or (content_of (kept_in l.bytes (drop l.place-index l.places)) l.name) (option_map (content_at l.bytes) l.found)
      ≡ content_of (kept_in l.bytes l.places) l.name;
  within : IfSome l.found (IsWithin (length l.bytes));
}
