-- Outer packets: IPv4 (RFC 791, section 3.1), UDP (RFC 768) and VXLAN (RFC 7348, section 5) before a frame. All numbers are in network byte order.
use Rattle.std.specs.Prelude.{ℕ, zero, suc, ◌+◌, ◌-◌, ◌*◌, ◌/◌, ◌%◌, ◌==◌, Bool, nat_lt, if◌then◌else◌, List, [], ◌∷◌, ◌++◌, length}
use Rattle.and_policy.specs.Numbers.{bytes_of}

-- the 16-bit words added as whole numbers, with a zero byte added to an odd length
abbrev pub words_sum : List ℕ → ℕ
words_sum [] = 0
words_sum (high ∷ []) = high * 256
words_sum (high ∷ low ∷ rest) = high * 256 + low + words_sum rest

-- the part above 16 bits is added to the rest until it fits. The first number bounds how often: each step makes a sum that does not fit smaller
abbrev pub folded : ℕ → ℕ → ℕ
folded zero sum = sum
folded (suc steps) sum = if nat_lt sum 65536 then sum else folded steps (sum / 65536 + sum % 65536)

-- the one's complement sum of the bytes (RFC 1071)
abbrev pub ones_sum : List ℕ → ℕ
ones_sum bytes = folded (words_sum bytes) (words_sum bytes)

-- the checksum: the complement of the sum
abbrev pub checksum : List ℕ → ℕ
checksum bytes = 65535 - ones_sum bytes

-- what the outer headers say
pub record Envelope : Type 0 where
  pub source : ℕ
  pub destination : ℕ
  pub ttl : ℕ
  pub vni : ℕ
  pub source_port : ℕ
  pub sealed : Bool

-- the IPv4 header, 20 bytes, with this checksum. Identification is 0, DF is set, the protocol is 17 (UDP)
abbrev pub ip_header : Envelope → ℕ → ℕ → List ℕ
ip_header o frame sum =
    bytes_of 2 0x4500 ++ bytes_of 2 (36 + frame) ++ bytes_of 2 0 ++ bytes_of 2 0x4000 ++ bytes_of 1 o.ttl ++ bytes_of 1 17
    ++ bytes_of 2 sum ++ bytes_of 4 o.source ++ bytes_of 4 o.destination

-- the UDP header, 8 bytes, with this checksum. VXLAN is at port 4789
abbrev pub udp_header : Envelope → ℕ → ℕ → List ℕ
udp_header o frame sum = bytes_of 2 o.source_port ++ bytes_of 2 4789 ++ bytes_of 2 (16 + frame) ++ bytes_of 2 sum

-- the VXLAN header, 8 bytes: the I flag, and the VNI
abbrev pub vxlan_header : Envelope → List ℕ
vxlan_header o = bytes_of 4 0x08000000 ++ bytes_of 3 o.vni ++ bytes_of 1 0

-- what the UDP checksum covers: the pseudo header, the UDP header with checksum 0, the VXLAN header and the frame
abbrev pub udp_covered : Envelope → List ℕ → List ℕ
udp_covered o frame =
    bytes_of 4 o.source ++ bytes_of 4 o.destination ++ bytes_of 1 0 ++ bytes_of 1 17 ++ bytes_of 2 (16 + length frame)
    ++ udp_header o (length frame) 0 ++ vxlan_header o ++ frame

-- a computed 0 is sent as ffff; 0 says that there is none
abbrev pub udp_checksum : Envelope → List ℕ → ℕ
udp_checksum o frame =
    if o.sealed then (let sum = checksum (udp_covered o frame) in if sum == 0 then 65535 else sum) else 0

-- the 36 bytes before the frame
abbrev pub outer_header : Envelope → List ℕ → List ℕ
outer_header o frame =
    ip_header o (length frame) (checksum (ip_header o (length frame) 0)) ++ udp_header o (length frame) (udp_checksum o frame) ++ vxlan_header o

-- the outer packet
abbrev pub outer_packet : Envelope → List ℕ → List ℕ
outer_packet o frame = outer_header o frame ++ frame

-- underlay addresses: 172.16.h.1 of host h
abbrev pub host_address : ℕ → ℕ
host_address host = 0xac100001 + 256 * host

-- 172.17.g.1 of gateway g, for packets to be routed and as the source of all its sends
abbrev pub route_address : ℕ → ℕ
route_address gateway = 0xac110001 + 256 * gateway

-- 172.17.g.2 of gateway g, for packets to be redirected
abbrev pub redirect_address : ℕ → ℕ
redirect_address gateway = 0xac110002 + 256 * gateway

-- the outer UDP source port of a flow (RFC 7348, section 5)
abbrev pub entropy_port : ℕ → ℕ
entropy_port hash = 49152 + hash % 16384
