-- The capture of a drill: its frames, each by three words of the generator.
use Rattle.std.specs.Prelude.{ℕ, suc, ◌+◌, ◌*◌, ◌/◌, ◌%◌, false, List, [], ◌∷◌, ◌++◌, length, replicate}
use Rattle.rand_core.specs.Steps.{first_words}
use Rattle.rand_pcg.specs.Lcg.{Lcg, started, increment_of}
use Rattle.rand_pcg.specs.Pcg.{multiplier_64, pcg32}
use Rattle.and_capture.specs.declared.capture.Taken.{Taken}
use Rattle.and_capture.specs.declared.capture.Capture.{Capture}
use Rattle.and_policy.specs.declared.packet.Fields.{Fields}
use Rattle.and_policy.specs.Numbers.{bytes_of}
use Rattle.and_make.specs.Vms.{mac_of, address_of}

-- ---- words

-- the generator of a drill of n packets: PCG with the state n and the stream 1
abbrev pub generator : ℕ → Lcg
generator n = started 64 multiplier_64 n (increment_of 64 1)

-- its words, in the order in which they are drawn: three for each packet
abbrev pub words : ℕ → List ℕ
words n = first_words pcg32 (3 * n) (generator n)

-- ---- what the words x, y and z say of a packet

abbrev pub source : ℕ → ℕ
source x = x % 40

-- a VM of the source's network
abbrev pub destination : ℕ → ℕ
destination x = source x % 4 + 4 * (x / 64 % 10)

-- how many bytes stand behind the TCP header
abbrev pub payload : ℕ → ℕ
payload y = y / 16 % 400

abbrev pub source_port : ℕ → ℕ
source_port z = 1024 + z % 4

abbrev pub destination_port : ℕ → ℕ
destination_port y = 80 + y % 12

-- ---- frames

abbrev pub ethernet_header : ℕ → ℕ → List ℕ
ethernet_header from to = bytes_of 6 (mac_of to) ++ bytes_of 6 (mac_of from) ++ bytes_of 2 0x0800

-- of 20 bytes and without a checksum, which nobody looks at. TTL 64, protocol 6
abbrev pub ip_header : ℕ → ℕ → ℕ → List ℕ
ip_header from to len =
    bytes_of 2 0x4500 ++ bytes_of 2 (40 + len) ++ bytes_of 2 0 ++ bytes_of 2 0 ++ bytes_of 1 64 ++ bytes_of 1 6 ++ bytes_of 2 0
    ++ bytes_of 4 (address_of from) ++ bytes_of 4 (address_of to)

-- of 20 bytes, with nothing but its length (five words) behind the ports
abbrev pub tcp_header : ℕ → ℕ → List ℕ
tcp_header from to = bytes_of 2 from ++ bytes_of 2 to ++ replicate 8 0 ++ 0x50 ∷ replicate 7 0

unfoldable pub frame : ℕ → ℕ → ℕ → List ℕ
frame x y z =
    ethernet_header (source x) (destination x) ++ ip_header (source x) (destination x) (payload y)
    ++ tcp_header (source_port z) (destination_port y) ++ replicate (payload y) 0

-- what the switch reads of it
abbrev pub fields_of : ℕ → ℕ → ℕ → Fields
fields_of x y z =
    record {
      source_mac = mac_of (source x);
      tuple = record {
        protocol = 6;
        source = address_of (source x);
        destination = address_of (destination x);
        source_port = source_port z;
        destination_port = destination_port y;
      };
    }

-- ---- the capture

-- frame i, captured whole after i seconds
abbrev pub taken : ℕ → ℕ → ℕ → ℕ → Taken
taken i x y z = record { seconds = i; fraction = 0; original = length (frame x y z); frame = frame x y z }

-- the frames from number i on, of the words that are left
unfoldable pub frames_from : ℕ → List ℕ → List Taken
frames_from i (x ∷ y ∷ z ∷ rest) = taken i x y z ∷ frames_from (suc i) rest
frames_from i _ = []

-- the capture of these words. Its times are in microseconds
abbrev pub capture : List ℕ → Capture
capture drawn = record { nanos = false; frames = frames_from 0 drawn }
