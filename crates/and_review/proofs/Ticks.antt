-- Ticks among entries.
use Rattle.std.proofs.Common.{◌≡◌, ◌+◌, ◌≤◌, List, [], ◌∷◌, ◌++◌, length, arith}
use Rattle.and_policy.specs.declared.entry.Entry.{Entry}
use Rattle.and_policy.specs.declared.entry.Entry.TheVariants.{Tick}
use Rattle.and_policy.specs.Logs.{now}

pub now-append : (k : List Entry) (e : Entry) → now (k ++ e ∷ []) ≡ now k + now (e ∷ [])
now-append [] e = omega arith
now-append (Tick ∷ k) e = omega (arith, now-append k e)
now-append (_ ∷ k) e = now-append k e

pub now-few : (k : List Entry) → now k ≤ length k
now-few [] = omega arith
now-few (Tick ∷ k) = omega (arith, now-few k)
now-few (_ ∷ k) = omega (arith, now-few k)

pub now-one : (e : Entry) → now (e ∷ []) ≤ 1
now-one Tick = omega arith
now-one _ = omega arith
