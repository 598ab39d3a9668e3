use Rattle.std.proofs.Common.{◌≡◌, take}
use Rattle.std.specs.List.{fold}
use Rattle.and_policy.specs.FlowHash.{hash_step}
use Rattle.and_policy.proofs.underlay.mixed.Given as goal

abbrev pub invariant-loop-byte : goal.invariant-loop-byte
invariant-loop-byte l = l.hash ≡ fold hash_step l.initial.hash (take l.byte-index l.bytes)
