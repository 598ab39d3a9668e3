-- How numbers, addresses and names are written. A text is a list of bytes.
use Rattle.std.specs.Prelude.{ℕ, zero, suc, ◌+◌, ◌-◌, ◌*◌, ◌/◌, ◌^◌, ◌==◌, ◌&&◌, ◌||◌, not, Bool, nat_lt, nat_le, if◌then◌else◌, List, [], ◌∷◌, length, slice_index, take, drop, position, Option, Some, None, option_and_then, option_map}
use Rattle.std.specs.List.{list_all, fold}
use Rattle.and_policy.specs.declared.entry.Prefix.{Prefix}
use Rattle.and_events.specs.declared.event.Node.{Node}
use Rattle.and_events.specs.declared.event.Node.TheVariants.{Host, Gate}

-- where a byte first stands in a text
abbrev pub first_at : ℕ → List ℕ → Option ℕ
first_at byte text = position (λ x. x == byte) text

abbrev pub is_digit : ℕ → Bool
is_digit x = nat_le 48 x && nat_le x 57

abbrev pub digits_value : List ℕ → ℕ
digits_value digits = fold (λ n x. 10 * n + (x - 48)) 0 digits

-- not empty, and no leading zero before another digit
abbrev pub starts_well : List ℕ → Bool
starts_well text = if nat_lt (length text) 2 then nat_lt 0 (length text) else not (slice_index text 0 == 48)

-- decimal digits without a leading zero, at most so many
abbrev pub is_decimal : ℕ → List ℕ → Bool
is_decimal most text = nat_le (length text) most && starts_well text && list_all is_digit text

-- the number that the text writes, of so many digits at most and up to this limit
abbrev pub decimal : ℕ → ℕ → List ℕ → Option ℕ
decimal most limit text = if is_decimal most text && nat_le (digits_value text) limit then Some (digits_value text) else None

-- a number below 256
abbrev pub octet : List ℕ → Option ℕ
octet text = decimal 3 255 text

-- where the next number of an address ends, and the address so far with it
abbrev pub next_octet : ℕ → List ℕ → Option (ℕ × ℕ)
next_octet high text = option_and_then (λ i. option_map (λ n. (i, 256 * high + n)) (octet (take i text))) (first_at 46 text)

-- what stands behind the separator at place i
abbrev pub behind : ℕ → List ℕ → List ℕ
behind i text = drop (i + 1) text

-- so many numbers more than one, with `.` between, behind those that gave `high`
abbrev pub dotted : ℕ → ℕ → List ℕ → Option ℕ
dotted zero high text = option_map (λ n. 256 * high + n) (octet text)
dotted (suc more) high text = option_and_then (λ next. dotted more next.1 (behind next.0 text)) (next_octet high text)

-- an IPv4 address: four numbers with `.` between
abbrev pub ip_of : List ℕ → Option ℕ
ip_of text = dotted 3 0 text

abbrev pub hex_digit : ℕ → Option ℕ
hex_digit x =
    if is_digit x then Some (x - 48)
    else (if nat_le 97 x && nat_le x 102 then Some (x - 87)
    else (if nat_le 65 x && nat_le x 70 then Some (x - 55) else None))

-- the number of the two hexadecimal digits at this place
abbrev pub hex_pair : ℕ → List ℕ → Option ℕ
hex_pair i text = option_and_then (λ h. option_map (λ l. 16 * h + l) (hex_digit (slice_index text (i + 1)))) (hex_digit (slice_index text i))

-- two pairs with a byte between, as a number of 16 bits
abbrev pub hex_four : ℕ → List ℕ → Option ℕ
hex_four i text = option_and_then (λ h. option_map (λ l. 256 * h + l) (hex_pair (i + 3) text)) (hex_pair i text)

abbrev pub six_pairs : List ℕ → Option ℕ
six_pairs text =
    option_and_then (λ a. option_and_then (λ b. option_map (λ c. 65536 * (65536 * a + b) + c) (hex_four 12 text)) (hex_four 6 text)) (hex_four 0 text)

-- `:` stands between the pairs
abbrev pub has_colons : List ℕ → Bool
has_colons text =
    (slice_index text 2 == 58) && (slice_index text 5 == 58) && (slice_index text 8 == 58) && (slice_index text 11 == 58) && (slice_index text 14 == 58)

-- an Ethernet address: six pairs of hexadecimal digits with `:` between
abbrev pub mac_of : List ℕ → Option ℕ
mac_of text = if (length text == 17) && has_colons text then six_pairs text else None

-- address bits past the length are taken as 0
abbrev pub masked : ℕ → ℕ → Prefix
masked address bits = record { address = address / 2 ^ (32 - bits) * 2 ^ (32 - bits); length = bits }

-- a prefix: an address, `/`, and a length of 0 to 32
abbrev pub prefix_of : List ℕ → Option Prefix
prefix_of text =
    option_and_then (λ i. option_and_then (λ a. option_map (masked a) (decimal 2 32 (drop (i + 1) text))) (ip_of (take i text))) (first_at 47 text)

-- ASCII letters and digits, `-`, `_` and `.`
abbrev pub is_name_byte : ℕ → Bool
is_name_byte x =
    is_digit x || (nat_le 65 x && nat_le x 90) || (nat_le 97 x && nat_le x 122) || (x == 45) || (x == 95) || (x == 46)

-- the name of a VM: 1 to 32 of these
abbrev pub is_name : List ℕ → Bool
is_name text = nat_lt 0 (length text) && nat_le (length text) 32 && list_all is_name_byte text

-- a node: `h` or `g`, and a number of at most nine digits
abbrev pub node_of : List ℕ → Option Node
node_of [] = None
node_of (x ∷ xs) =
    option_and_then (λ n. if x == 104 then Some (Host n) else (if x == 103 then Some (Gate n) else None)) (decimal 9 999999999 xs)
