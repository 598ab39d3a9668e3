-- Reading a capture from left to right: the capture, or the first check that fails.
use Rattle.std.specs.Prelude.{◌≡◌, ℕ, zero, suc, ◌+◌, Bool, true, false, List, [], ◌∷◌, length, take, drop, Option, Some, None, Result, Ok, Err, nat_lt, ◌==◌, if◌then◌else◌}
use Rattle.byteorder.specs.Endian.{big_number, little_number}
use Rattle.and_capture.specs.declared.capture.Taken.{Taken}
use Rattle.and_capture.specs.declared.capture.Capture.{Capture}
use Rattle.and_capture.specs.declared.fault.CaptureFault.{CaptureFault}
use Rattle.and_capture.specs.declared.fault.CaptureFault.TheVariants.{CutHeader, Magic, Major, LinkType, CutRecord, LongRecord, TooMany, NoMemory}
use Rattle.and_capture.specs.Spelling.{header_len, record_len, max_frames, max_frame_len}
use Rattle.and_capture.specs.Spelling.{Order, little, big, number_in, magic_of}

infixl 10 ◌>>=◌
abbrev pub ◌>>=◌ : {A B : Type 0} → Result A CaptureFault → (A → Result B CaptureFault) → Result B CaptureFault
(Ok x) >>= f = f x
(Err e) >>= f = Err e

-- What a function returned, seen by view, is what reading gives, unless memory ran out.
abbrev pub Fails : {Y : Type 0} → CaptureFault → Result Y CaptureFault → Type 0
Fails NoMemory read = Unit {0}
Fails e read = read ≡ Err e

abbrev pub Gives : {X Y : Type 0} → (X → Y) → Result X CaptureFault → Result Y CaptureFault → Type 0
Gives view (Ok x) read = read ≡ Ok (view x)
Gives view (Err e) read = Fails e read

-- the record at the front of the bytes, which stand at a place of the file
unfoldable pub record_at : (ℕ → List ℕ → ℕ) → ℕ → List ℕ → Result Taken CaptureFault
record_at number at bytes =
    let captured = number 4 (drop 8 bytes) in
    if nat_lt (length bytes) record_len then Err (CutRecord at)
    else (if nat_lt max_frame_len captured then Err (LongRecord at)
    else (if nat_lt (length (drop record_len bytes)) captured then Err (CutRecord at)
    else Ok (record { seconds = number 4 bytes; fraction = number 4 (drop 4 bytes); original = number 4 (drop 12 bytes); frame = take captured (drop record_len bytes) })))

-- the frames of the records up to the end, where there is room for so many
unfoldable pub frames_at : (ℕ → List ℕ → ℕ) → ℕ → ℕ → List ℕ → Result (List Taken) CaptureFault
frames_at number room at [] = Ok []
frames_at number zero at (b ∷ bytes) = Err TooMany
frames_at number (suc room) at (b ∷ bytes) = do
  first ← record_at number at (b ∷ bytes)
  others ← frames_at number room (at + (record_len + length first.frame)) (drop (record_len + length first.frame) (b ∷ bytes))
  Ok (first ∷ others)

-- the capture of a file whose byte order and unit are known
unfoldable pub capture_in : (ℕ → List ℕ → ℕ) → Bool → List ℕ → Result Capture CaptureFault
capture_in number nanos bytes =
    if number 2 (drop 4 bytes) == 2 then
    (if number 4 (drop 20 bytes) == 1 then
    (frames_at number max_frames header_len (drop header_len bytes) >>= λ frames. Ok (record { nanos = nanos; frames = frames }))
    else Err LinkType)
    else Err Major

-- the byte order and the unit that the magic number at the front tells
abbrev pub style_at : List ℕ → Option (Order × Bool)
style_at bytes =
    if little_number 4 bytes == magic_of false then Some (little, false)
    else (if little_number 4 bytes == magic_of true then Some (little, true)
    else (if big_number 4 bytes == magic_of false then Some (big, false)
    else (if big_number 4 bytes == magic_of true then Some (big, true)
    else None)))

abbrev pub capture_by : Option (Order × Bool) → List ℕ → Result Capture CaptureFault
capture_by None bytes = Err Magic
capture_by (Some style) bytes = capture_in (number_in style.0) style.1 bytes

-- the capture that the bytes spell, or the first check that fails
unfoldable pub reading : List ℕ → Result Capture CaptureFault
reading bytes = if nat_lt (length bytes) header_len then Err CutHeader else capture_by (style_at bytes) bytes
