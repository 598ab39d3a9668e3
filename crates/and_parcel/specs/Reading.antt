-- Reading an outer packet: the checks in order, and what the headers say. Byte numbers count from the IPv4 header on.
use Rattle.std.specs.Prelude.{ℕ, ◌-◌, ◌/◌, ◌%◌, ◌==◌, ◌&&◌, ◌||◌, not, Bool, nat_lt, List, [], ◌∷◌, ◌++◌, length, take, drop, slice_index, Result}
use Rattle.and_policy.specs.Checks.{first_failing, unless}
use Rattle.and_policy.specs.Numbers.{number_from}
use Rattle.and_policy.specs.Outer.{ones_sum}
use Rattle.and_parcel.specs.declared.outer.Outer.{Outer}
use Rattle.and_parcel.specs.declared.outer.WrapFault.{WrapFault}
use Rattle.and_parcel.specs.declared.outer.WrapFault.TheVariants.{Version, Header, Protocol, Port, Flag, Length, Checksum}

-- the UDP checksum, 0 where there is none
abbrev pub checksum_field : List ℕ → ℕ
checksum_field bytes = number_from 26 2 bytes

-- what the UDP checksum covers (RFC 768): the addresses, a zero byte, the protocol, the UDP length, and then UDP header,
-- VXLAN header and frame
abbrev pub covered : List ℕ → List ℕ
covered bytes = take 8 (drop 12 bytes) ++ (0 ∷ 17 ∷ (take 2 (drop 24 bytes) ++ drop 20 bytes))

-- what the headers say
abbrev pub said : List ℕ → Outer
said bytes =
    record {
      source = number_from 12 4 bytes;
      destination = number_from 16 4 bytes;
      ttl = slice_index bytes 8;
      vni = number_from 32 3 bytes;
      source_port = number_from 20 2 bytes;
      sealed = not (checksum_field bytes == 0);
    }

-- the checks in order, and whether each fails
abbrev pub outer_checks : List ℕ → List (Bool × WrapFault)
outer_checks bytes =
    (nat_lt (length bytes) 36, Length)
    ∷ (not (slice_index bytes 0 == 0x45), Version)
    ∷ (not (ones_sum (take 20 bytes) == 0xffff), Header)
    ∷ (not (number_from 2 2 bytes == length bytes) || not (number_from 24 2 bytes == length bytes - 20), Length)
    ∷ (not (slice_index bytes 9 == 17), Protocol)
    ∷ (not (number_from 22 2 bytes == 4789), Port)
    ∷ (not (checksum_field bytes == 0) && not (ones_sum (covered bytes) == 0xffff), Checksum)
    ∷ (slice_index bytes 28 / 8 % 2 == 0, Flag)
    ∷ []

-- the first failing check, or else what the headers say
unfoldable pub reading : List ℕ → Result Outer WrapFault
reading bytes = unless (first_failing (outer_checks bytes)) (said bytes)
