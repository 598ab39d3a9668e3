use Rattle.std.proofs.Common.{◌≡◌, take}
use Rattle.and_agree.proofs.comparing.first_difference.Given as goal

abbrev pub invariant-loop-place : goal.invariant-loop-place
invariant-loop-place l = take l.place l.tables ≡ take l.place l.programme
