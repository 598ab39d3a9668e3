-- Ethernet II frames with an IPv4 packet (RFC 791, section 3.1). The header of the packet begins at byte 14.
use Rattle.std.specs.Prelude.{ℕ, ◌+◌, ◌-◌, ◌*◌, ◌/◌, ◌%◌, ◌^◌, ◌==◌, ◌&&◌, ◌||◌, not, Bool, nat_lt, if◌then◌else◌, List, [], ◌∷◌, length, slice_index, Result}
use Rattle.and_policy.specs.declared.packet.Tuple.{Tuple}
use Rattle.and_policy.specs.declared.packet.Fields.{Fields}
use Rattle.and_policy.specs.declared.packet.Skip.{Skip}
use Rattle.and_policy.specs.declared.packet.Skip.TheVariants.{TooLong, Short, NotIp4, Cut, BadIp4, ShortPorts}
use Rattle.and_policy.specs.Checks.{first_failing, unless}
use Rattle.and_policy.specs.Numbers.{number_from}

-- the bytes behind the Ethernet header
abbrev pub packet_length : List ℕ → ℕ
packet_length frame = length frame - 14

abbrev pub ethernet_type : List ℕ → ℕ
ethernet_type frame = number_from 12 2 frame

abbrev pub version : List ℕ → ℕ
version frame = slice_index frame 14 / 16

-- in words of four bytes
abbrev pub header_words : List ℕ → ℕ
header_words frame = slice_index frame 14 % 16

-- the total length. Where the field is 0, it is what is there: captures under segmentation offload have it so
abbrev pub total_length : List ℕ → ℕ
total_length frame = let field = number_from 16 2 frame in if field == 0 then packet_length frame else field

-- MF is set (bit 13), or the fragment offset (the 13 bits below) is not 0
abbrev pub is_fragment : List ℕ → Bool
is_fragment frame = let flags = number_from 20 2 frame in (flags / 2 ^ 13 % 2 == 1) || nat_lt 0 (flags % 2 ^ 13)

abbrev pub protocol : List ℕ → ℕ
protocol frame = slice_index frame 23

-- TCP or UDP (RFC 9293 and 768, whose headers begin with both ports), and no fragment
abbrev pub has_ports : List ℕ → Bool
has_ports frame = not (is_fragment frame) && ((protocol frame == 6) || (protocol frame == 17))

-- the 16-bit number at this byte behind the IPv4 header, where the packet has ports; otherwise 0
abbrev pub port_at : ℕ → List ℕ → ℕ
port_at i frame = if has_ports frame then number_from (14 + 4 * header_words frame + i) 2 frame else 0

abbrev pub frame_checks : List ℕ → List (Bool × Skip)
frame_checks frame =
    (nat_lt 65499 (length frame), TooLong)
    ∷ (nat_lt (length frame) 14, Short)
    ∷ (not (ethernet_type frame == 0x0800), NotIp4)
    ∷ (nat_lt (packet_length frame) 20, Cut)
    ∷ (not (version frame == 4) || nat_lt (header_words frame) 5 || nat_lt (total_length frame) (4 * header_words frame), BadIp4)
    ∷ (nat_lt (packet_length frame) (total_length frame), Cut)
    ∷ (has_ports frame && nat_lt (total_length frame) (4 * header_words frame + 4), ShortPorts)
    ∷ []

abbrev pub tuple_in : List ℕ → Tuple
tuple_in frame =
    record {
      protocol = protocol frame;
      source = number_from 26 4 frame;
      destination = number_from 30 4 frame;
      source_port = port_at 0 frame;
      destination_port = port_at 2 frame;
    }

-- the first failing check, or else the Ethernet source address and the tuple
abbrev pub fields : List ℕ → Result Fields Skip
fields frame = unless (first_failing (frame_checks frame)) (record { source_mac = number_from 6 6 frame; tuple = tuple_in frame })
