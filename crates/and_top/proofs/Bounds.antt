-- How many frames a capture has.
use Rattle.std.proofs.Common.{◌≡◌, ◌≤◌, ◌+◌, drop, ℕ, zero, suc, List, [], ◌∷◌, length, Bool, true, false, nat_lt, Option, Some, None, Result, Ok, Err, refl, ap, arith}
use Rattle.std.specs.Prelude.{if◌then◌else◌, codes, ◌==◌}
use Rattle.std.proofs.lemmas.Bool.Decides.{nat_tests}
use Rattle.and_capture.specs.declared.capture.Capture.{Capture}
use Rattle.and_capture.specs.declared.capture.Taken.{Taken}
use Rattle.and_capture.specs.declared.fault.CaptureFault.{CaptureFault}
use Rattle.and_capture.specs.declared.fault.CaptureFault.TheVariants.{CutHeader, LinkType, Major}
use Rattle.and_capture.specs.Reading as captures
use Rattle.and_capture.specs.Reading.{reading, style_at, capture_by, capture_in, frames_at, record_at}
use Rattle.and_capture.specs.Spelling.{Order, number_in, max_frames, header_len, record_len}

bound : {A B : Type 0} (r : Result A CaptureFault) (f : A → Result B CaptureFault) (y : B) → captures.◌>>=◌ r f ≡ Ok y → (x : A) × (r ≡ Ok x) × (f x ≡ Ok y)
bound (Ok x) f y h = (x, refl, h)
bound (Err e) f y h = absurd (cc)

frames_bound : (number : ℕ → List ℕ → ℕ) (room at : ℕ) (bytes : List ℕ) (frames : List Taken) → frames_at number room at bytes ≡ Ok frames → length frames ≤ room
unfolding frames_at
frames_bound number room at [] frames h =
    let e : frames ≡ [] = cc in
    rw e (omega arith)
frames_bound number zero at (b ∷ bytes) frames h = absurd (cc)
frames_bound number (suc room) at (b ∷ bytes) frames h =
    let (first, first_is, later) = bound (record_at number at (b ∷ bytes)) (λ first. captures.◌>>=◌ (frames_at number room (at + (record_len + length first.frame)) (drop (record_len + length first.frame) (b ∷ bytes))) (λ others. Ok (first ∷ others))) frames h in
    let (others, others_is, all) = bound (frames_at number room (at + (record_len + length first.frame)) (drop (record_len + length first.frame) (b ∷ bytes))) (λ others. Ok (first ∷ others)) frames later in
    let few : length others ≤ room = frames_bound number room (at + (record_len + length first.frame)) (drop (record_len + length first.frame) (b ∷ bytes)) others others_is in
    let e : frames ≡ first ∷ others = cc in
    rw e (omega (arith, few))

frames_few : (number : ℕ → List ℕ → ℕ) (nanos : Bool) (bytes : List ℕ) (capture : Capture) → capture_in number nanos bytes ≡ Ok capture → length capture.frames ≤ max_frames
unfolding capture_in
frames_few number nanos bytes capture h = by_tests (number 2 (drop 4 bytes) == 2) (number 4 (drop 20 bytes) == 1) h
  where
    body : Result Capture CaptureFault
    body = captures.◌>>=◌ (frames_at number max_frames header_len (drop header_len bytes)) (λ frames. Ok (record { nanos = nanos; frames = frames }))

    by_tests : (a b : Bool) → (if a then (if b then body else Err LinkType) else Err Major) ≡ Ok capture → length capture.frames ≤ max_frames
    by_tests false b h = absurd (cc)
    by_tests true false h = absurd (cc)
    by_tests true true h =
        let (frames, frames_are, is) = bound (frames_at number max_frames header_len (drop header_len bytes)) (λ frames. Ok (record { nanos = nanos; frames = frames })) capture h in
        let e : capture ≡ record { nanos = nanos; frames = frames } = cc in
        rw e (frames_bound number max_frames header_len (drop header_len bytes) frames frames_are)

by_style : (style : Option (Order × Bool)) (bytes : List ℕ) (capture : Capture) → capture_by style bytes ≡ Ok capture → length capture.frames ≤ max_frames
by_style None bytes capture h = absurd (cc)
by_style (Some style) bytes capture h = frames_few (number_in style.0) style.1 bytes capture h

unless_short : (short : Bool) (style : Option (Order × Bool)) (bytes : List ℕ) (capture : Capture) → (if short then Err CutHeader else capture_by style bytes) ≡ Ok capture → length capture.frames ≤ max_frames
unless_short true style bytes capture h = absurd (cc)
unless_short false style bytes capture h = by_style style bytes capture h

pub few_frames : (bytes : List ℕ) (capture : Capture) → reading bytes ≡ Ok capture → length capture.frames ≤ 100000
unfolding reading
few_frames bytes capture h = unless_short (nat_lt (length bytes) header_len) (style_at bytes) bytes capture h
