-- The last operation that touches a network, one place at a time.
use Rattle.std.proofs.Common.{◌≡◌, ℕ, zero, suc, ◌-◌, ◌<◌, true, false, List, ap, arith}
use Rattle.and_policy.specs.declared.entry.Op.{Op}
use Rattle.and_policy.specs.Programmes.{touched, touches}

pub touched_here : (p : List Op) (place net : ℕ) → 0 < place → touches p place net ≡ true → touched p place net ≡ place
touched_here p zero net h t = absurd (omega arith)
touched_here p (suc place) net h t = rw t

pub touched_earlier : (p : List Op) (place net : ℕ) → 0 < place → touches p place net ≡ false → touched p place net ≡ touched p (place - 1) net
touched_earlier p zero net h t = absurd (omega arith)
touched_earlier p (suc place) net h t = rw t (ap (λ n. touched p n net) (omega arith))
