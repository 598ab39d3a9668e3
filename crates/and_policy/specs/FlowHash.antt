-- The flow hash, from which the source port of the outer packet (RFC 7348, section 5) and the gateway are taken.
use Rattle.std.specs.Prelude.{ℕ, ◌+◌, ◌*◌, ◌%◌, List, ◌++◌}
use Rattle.std.specs.List.{fold}
use Rattle.and_policy.specs.declared.packet.Tuple.{Tuple}
use Rattle.and_policy.specs.Numbers.{bytes_of}

-- protocol, addresses and ports, each the highest byte first: 13 bytes
abbrev pub tuple_bytes : Tuple → List ℕ
tuple_bytes x = bytes_of 1 x.protocol ++ bytes_of 4 x.source ++ bytes_of 4 x.destination ++ bytes_of 2 x.source_port ++ bytes_of 2 x.destination_port

abbrev pub hash_step : ℕ → ℕ → ℕ
hash_step h byte = (31 * h + byte) % 65536

abbrev pub flow_hash : Tuple → ℕ
flow_hash x = fold hash_step 0 (tuple_bytes x)

-- the gateway that a packet goes to, of this many
abbrev pub gateway_of : ℕ → Tuple → ℕ
gateway_of gateways x = flow_hash x % gateways
