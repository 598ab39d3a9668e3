-- What a capture file is: the classic pcap format, in either byte order and with either unit of time.
use Rattle.std.specs.Prelude.{◌≡◌, ◌≤◌, ◌<◌, ◌^◌, ℕ, Bool, true, false, List, [], ◌∷◌, ◌++◌, length}
use Rattle.std.specs.List.{flat_map, starts_with, AllByRecursion}
use Rattle.std.specs.Prelude.{nat_eq}
use Rattle.byteorder.specs.Endian.{big_bytes, big_number, little_bytes, little_number}
use Rattle.and_capture.specs.declared.capture.Taken.{Taken}
use Rattle.and_capture.specs.declared.capture.Capture.{Capture}

-- the bytes of a capture's header, and of a record's header before the captured bytes
abbrev pub header_len : ℕ
header_len = 24

abbrev pub record_len : ℕ
record_len = 16

-- the most frames of a capture, and the most bytes of one
abbrev pub max_frames : ℕ
max_frames = 100000

abbrev pub max_frame_len : ℕ
max_frame_len = 262144

-- the order of the bytes of a file's numbers
pub data Order : Type 0 where
  little : Order
  big : Order

-- the number in the first n bytes
abbrev pub number_in : Order → ℕ → List ℕ → ℕ
number_in little n bytes = little_number n bytes
number_in big n bytes = big_number n bytes

-- a number as n bytes
abbrev pub bytes_in : Order → ℕ → ℕ → List ℕ
bytes_in little n x = little_bytes n x
bytes_in big n x = big_bytes n x

-- the number that a file begins with: it tells whether fractions are nanoseconds
abbrev pub magic_of : Bool → ℕ
magic_of false = 0xa1b2c3d4
magic_of true = 0xa1b23c4d

-- A file's header: the magic number, the major version 2, the minor version, time zone, accuracy and
-- snapshot length as they may be, and the link type.
abbrev pub header : Order → Bool → List ℕ → ℕ → List ℕ
header order nanos unread link = bytes_in order 4 (magic_of nanos) ++ (bytes_in order 2 2 ++ (unread ++ bytes_in order 4 link))

-- A record: the time stamp, the captured and the original length, and the captured bytes.
abbrev pub record_of : Order → Taken → List ℕ
record_of order t =
    bytes_in order 4 t.seconds ++ (bytes_in order 4 t.fraction ++ (bytes_in order 4 (length t.frame) ++ (bytes_in order 4 t.original ++ t.frame)))

-- a frame that a record can hold
pub record Fits (t : Taken) : Type 0 where
  pub seconds : t.seconds < 2 ^ 32
  pub fraction : t.fraction < 2 ^ 32
  pub original : t.original < 2 ^ 32
  pub len : length t.frame ≤ max_frame_len

-- a capture that a file can hold
pub record IsWithinLimits (capture : Capture) : Type 0 where
  pub count : length capture.frames ≤ max_frames
  pub each : AllByRecursion Fits capture.frames

-- The text is a file of the capture: a header of link type 1, Ethernet, then one record for each frame,
-- and nothing else.
pub record Spells (text : List ℕ) (capture : Capture) : Type 0 where
  pub order : Order
  pub unread : List ℕ
  pub unread_len : length unread ≡ 14
  pub parts : text ≡ header order capture.nanos unread 1 ++ flat_map (record_of order) capture.frames
  pub limits : IsWithinLimits capture

-- the header that is written: low byte first, version 2.4, no time zone and accuracy, and the largest frame as
-- snapshot length
abbrev pub written_header : Bool → ℕ → List ℕ
written_header nanos link = header little nanos (little_bytes 2 4 ++ (little_bytes 4 0 ++ (little_bytes 4 0 ++ little_bytes 4 max_frame_len))) link

-- the one file that is written for a capture under a link type
abbrev pub written : ℕ → Capture → List ℕ
written link capture = written_header capture.nanos link ++ flat_map (record_of little) capture.frames
