-- Numbers in network byte order, the highest byte first.
use Rattle.std.specs.Prelude.{ℕ, zero, suc, ◌+◌, ◌*◌, ◌^◌, List, slice_index}
use Rattle.std.specs.Int.{bytes_high_first}

-- the number in the n bytes from place i
abbrev pub number_from : ℕ → ℕ → List ℕ → ℕ
number_from i zero xs = 0
number_from i (suc n) xs = slice_index xs i * 256 ^ n + number_from (suc i) n xs

-- the lowest n bytes of the number x
abbrev pub bytes_of : ℕ → ℕ → List ℕ
bytes_of n x = bytes_high_first n x
