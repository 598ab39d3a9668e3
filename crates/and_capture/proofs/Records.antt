-- A record that is read is the record that was written, and what was written is read again.
use Rattle.std.proofs.Common.{◌≡◌, ℕ, zero, suc, ◌+◌, ◌<◌, ◌≤◌, Bool, true, false, cond, ltb, List, [], ◌∷◌, ◌++◌, length, take, drop, Result, Ok, Err, refl, sym, ap, subst, ◌∙◌, append_assoc, arith, length-append, length-drop}
use Rattle.std.specs.List.{flat_map, AllByRecursion}
use Rattle.std.proofs.lemmas.Bool.{ltb-false, le-ltb}
use Rattle.std.proofs.lemmas.List.{take_at, drop_at, take-append-drop, length-take, drop-drop}
use Rattle.and_capture.specs.declared.fault.CaptureFault.{CaptureFault}
use Rattle.and_capture.specs.declared.capture.Taken.{Taken}
use Rattle.and_capture.specs.Spelling.{record_len, max_frame_len}
use Rattle.and_capture.specs.Spelling.{Order, number_in, bytes_in, record_of, Fits}
use Rattle.and_capture.specs.Reading.{◌>>=◌, record_at, frames_at}
use Rattle.and_capture.proofs.Numbers.{IsBytes, IsBytes-drop, length-bytes_in, number_again, number_fits, bytes_4}

abbrev done : {A : Type 0} → A → Result A CaptureFault
done x = Ok x

pub ok_is : {A : Type 0} (x y : A) → done x ≡ done y → x ≡ y
ok_is x y e = cc

-- a test that did not fail
pub passed : {A : Type 0} (b : Bool) (e : CaptureFault) (r : Result A CaptureFault) (y : A) → cond b (Err e) r ≡ Ok y → (b ≡ false) × (r ≡ Ok y)
passed true e r y h = absurd cc
passed false e r y h = (refl, h)

-- a test that had to hold
pub held : {A : Type 0} (b : Bool) (e : CaptureFault) (r : Result A CaptureFault) (y : A) → cond b r (Err e) ≡ Ok y → (b ≡ true) × (r ≡ Ok y)
held true e r y h = (refl, h)
held false e r y h = absurd cc

-- the value of a step that did not fail
pub bind_ok : {A B : Type 0} (r : Result A CaptureFault) (f : A → Result B CaptureFault) (y : B) → (r >>= f) ≡ Ok y → (x : A) × (r ≡ Ok x) × (f x ≡ Ok y)
bind_ok (Ok x) f y e = (x, refl, e)
bind_ok (Err d) f y e = absurd cc

-- ---- one record

-- what the fields of a record at the front are
abbrev front_of : (ℕ → List ℕ → ℕ) → List ℕ → Taken
front_of number bytes = record { seconds = number 4 bytes; fraction = number 4 (drop 4 bytes); original = number 4 (drop 12 bytes); frame = take (number 4 (drop 8 bytes)) (drop record_len bytes) }

-- the tests that a record passes
record IsWhole (number : ℕ → List ℕ → ℕ) (bytes : List ℕ) : Type 0 where
  head : record_len ≤ length bytes
  short : number 4 (drop 8 bytes) ≤ max_frame_len
  body : number 4 (drop 8 bytes) ≤ length (drop record_len bytes)

whole_from_ok : (number : ℕ → List ℕ → ℕ) (at : ℕ) (bytes : List ℕ) (t : Taken) → record_at number at bytes ≡ Ok t → IsWhole number bytes × (front_of number bytes ≡ t)
unfolding record_at
whole_from_ok number at bytes t e =
    let a = passed (ltb (length bytes) record_len) _ _ t e in
    let b = passed (ltb max_frame_len (number 4 (drop 8 bytes))) _ _ t a.1 in
    let d = passed (ltb (length (drop record_len bytes)) (number 4 (drop 8 bytes))) _ _ t b.1 in
    (record { head = ltb-false _ _ a.0; short = ltb-false _ _ b.0; body = ltb-false _ _ d.0 }, ok_is _ t d.1)

ok_from_whole : (number : ℕ → List ℕ → ℕ) (at : ℕ) (bytes : List ℕ) → IsWhole number bytes → record_at number at bytes ≡ Ok (front_of number bytes)
unfolding record_at
ok_from_whole number at bytes w = rw (le-ltb _ _ w.head, le-ltb _ _ w.short, le-ltb _ _ w.body) refl

-- one piece after another
pub piece : (n k m : ℕ) (bytes : List ℕ) → n + k ≡ m → take k (drop n bytes) ++ drop m bytes ≡ drop n bytes
piece n k m bytes e = rw (← e, ← drop-drop k n bytes) (take-append-drop k (drop n bytes))

-- what was read from the front
pub record Takes (bytes text rest : List ℕ) : Type 0 where
  pub parts : bytes ≡ text ++ rest
  pub rest_fits : IsBytes rest

joined : (bytes : List ℕ) (n : ℕ)
    → (take 4 bytes ++ (take 4 (drop 4 bytes) ++ (take 4 (drop 8 bytes) ++ (take 4 (drop 12 bytes) ++ take n (drop 16 bytes))))) ++ drop (16 + n) bytes ≡ bytes
joined bytes n =
    let e16 : take n (drop 16 bytes) ++ drop (16 + n) bytes ≡ drop 16 bytes = piece 16 n (16 + n) bytes refl in
    let e12 : take 4 (drop 12 bytes) ++ drop 16 bytes ≡ drop 12 bytes = piece 12 4 16 bytes refl in
    let e8 : take 4 (drop 8 bytes) ++ drop 12 bytes ≡ drop 8 bytes = piece 8 4 12 bytes refl in
    let e4 : take 4 (drop 4 bytes) ++ drop 8 bytes ≡ drop 4 bytes = piece 4 4 8 bytes refl in
    let e0 : take 4 bytes ++ drop 4 bytes ≡ bytes = take-append-drop 4 bytes in
    simp append_assoc (rw (e16, e12, e8, e4, e0) refl)

front_takes : (order : Order) (bytes : List ℕ) → IsBytes bytes → IsWhole (number_in order) bytes
    → Takes bytes (record_of order (front_of (number_in order) bytes)) (drop (record_len + length (take (number_in order 4 (drop 8 bytes)) (drop 16 bytes))) bytes)
    × Fits (front_of (number_in order) bytes) × (record_len + length (take (number_in order 4 (drop 8 bytes)) (drop 16 bytes)) ≤ length bytes)
front_takes order bytes fits w =
    let n : ℕ = number_in order 4 (drop 8 bytes) in
    let long : 16 ≤ length bytes = w.head in
    let body : number_in order 4 (drop 8 bytes) ≤ length (drop 16 bytes) = w.body in
    let len : length (take (number_in order 4 (drop 8 bytes)) (drop 16 bytes)) ≡ number_in order 4 (drop 8 bytes) = omega (arith, length-take (number_in order 4 (drop 8 bytes)) (drop 16 bytes)) in
    let s : bytes_in order 4 (number_in order 4 bytes) ≡ take 4 bytes = bytes_4 order bytes fits (omega arith) in
    let f : bytes_in order 4 (number_in order 4 (drop 4 bytes)) ≡ take 4 (drop 4 bytes) = bytes_4 order (drop 4 bytes) (IsBytes-drop 4 bytes fits) (omega (arith, length-drop 4 bytes)) in
    let c : bytes_in order 4 (number_in order 4 (drop 8 bytes)) ≡ take 4 (drop 8 bytes) = bytes_4 order (drop 8 bytes) (IsBytes-drop 8 bytes fits) (omega (arith, length-drop 8 bytes)) in
    let o : bytes_in order 4 (number_in order 4 (drop 12 bytes)) ≡ take 4 (drop 12 bytes) = bytes_4 order (drop 12 bytes) (IsBytes-drop 12 bytes fits) (omega (arith, length-drop 12 bytes)) in (
      record { parts = rw (len, s, f, c, o) (sym (joined bytes n)); rest_fits = IsBytes-drop _ bytes fits },
      record { seconds = number_fits order 4 bytes fits; fraction = number_fits order 4 (drop 4 bytes) (IsBytes-drop 4 bytes fits); original = number_fits order 4 (drop 12 bytes) (IsBytes-drop 12 bytes fits); len = rw len w.short },
      omega (arith, length-drop 16 bytes),
    )

pub record_takes : (order : Order) (at : ℕ) (bytes : List ℕ) (t : Taken) → IsBytes bytes → record_at (number_in order) at bytes ≡ Ok t
    → Takes bytes (record_of order t) (drop (record_len + length t.frame) bytes) × Fits t × (record_len + length t.frame ≤ length bytes)
record_takes order at bytes t fits e =
    let p = whole_from_ok (number_in order) at bytes t e in
    subst (λ (u : Taken). Takes bytes (record_of order u) (drop (record_len + length u.frame) bytes) × Fits u × (record_len + length u.frame ≤ length bytes)) p.1 (front_takes order bytes fits p.0)

front_is : (number : ℕ → List ℕ → ℕ) (bytes : List ℕ) (t : Taken) → number 4 bytes ≡ t.seconds → number 4 (drop 4 bytes) ≡ t.fraction → number 4 (drop 12 bytes) ≡ t.original
    → take (number 4 (drop 8 bytes)) (drop record_len bytes) ≡ t.frame → front_of number bytes ≡ t
front_is number bytes t s f o b = rw (s, f, o, b) refl

pub length_of_record : (order : Order) (t : Taken) → length (record_of order t) ≡ record_len + length t.frame
length_of_record order t =
    let a : List ℕ = bytes_in order 4 t.seconds in
    let b : List ℕ = bytes_in order 4 t.fraction in
    let c : List ℕ = bytes_in order 4 (length t.frame) in
    let d : List ℕ = bytes_in order 4 t.original in
    omega (arith, length-append a (b ++ (c ++ (d ++ t.frame))), length-append b (c ++ (d ++ t.frame)), length-append c (d ++ t.frame), length-append d t.frame, length-bytes_in order 4 t.seconds, length-bytes_in order 4 t.fraction, length-bytes_in order 4 (length t.frame), length-bytes_in order 4 t.original)

-- further drops reach the pieces behind
next_piece : (n : ℕ) (text a rest : List ℕ) → length a ≡ 4 → drop n text ≡ a ++ rest → drop (n + 4) text ≡ rest
next_piece n text a rest len e = sym (drop-drop 4 n text) ∙ ap (λ (x : List ℕ). drop 4 x) e ∙ drop_at a rest 4 len

pub record_again : (order : Order) (at : ℕ) (t : Taken) (rest : List ℕ) → Fits t → record_at (number_in order) at (record_of order t ++ rest) ≡ Ok t
record_again order at t rest fits =
    let a : List ℕ = bytes_in order 4 t.seconds in
    let b : List ℕ = bytes_in order 4 t.fraction in
    let c : List ℕ = bytes_in order 4 (length t.frame) in
    let d : List ℕ = bytes_in order 4 t.original in
    let text : List ℕ = a ++ (b ++ (c ++ (d ++ (t.frame ++ rest)))) in
    let whole : record_of order t ++ rest ≡ text = simp append_assoc in
    let la : length a ≡ 4 = length-bytes_in order 4 t.seconds in
    let lb : length b ≡ 4 = length-bytes_in order 4 t.fraction in
    let lc : length c ≡ 4 = length-bytes_in order 4 (length t.frame) in
    let ld : length d ≡ 4 = length-bytes_in order 4 t.original in
    let d4 : drop 4 text ≡ b ++ (c ++ (d ++ (t.frame ++ rest))) = drop_at a _ 4 la in
    let d8 : drop 8 text ≡ c ++ (d ++ (t.frame ++ rest)) = next_piece 4 text b _ lb d4 in
    let d12 : drop 12 text ≡ d ++ (t.frame ++ rest) = next_piece 8 text c _ lc d8 in
    let d16 : drop 16 text ≡ t.frame ++ rest = next_piece 12 text d _ ld d12 in
    let number : ℕ → List ℕ → ℕ = number_in order in
    let s : number 4 text ≡ t.seconds = number_again order 4 t.seconds _ fits.seconds in
    let f : number 4 (drop 4 text) ≡ t.fraction = ap (λ (x : List ℕ). number_in order 4 x) d4 ∙ number_again order 4 t.fraction _ fits.fraction in
    let l : number 4 (drop 8 text) ≡ length t.frame = ap (λ (x : List ℕ). number_in order 4 x) d8 ∙ number_again order 4 (length t.frame) _ (omega (arith, fits.len)) in
    let o : number 4 (drop 12 text) ≡ t.original = ap (λ (x : List ℕ). number_in order 4 x) d12 ∙ number_again order 4 t.original _ fits.original in
    let frame : take (number 4 (drop 8 text)) (drop record_len text) ≡ t.frame = rw (l, d16) (take_at t.frame rest (length t.frame) refl) in
    let long : length text ≡ 16 + (length t.frame + length rest) = omega (arith, length-append a (b ++ (c ++ (d ++ (t.frame ++ rest)))), length-append b (c ++ (d ++ (t.frame ++ rest))), length-append c (d ++ (t.frame ++ rest)), length-append d (t.frame ++ rest), length-append t.frame rest) in
    let w : IsWhole (number_in order) text = record { head = omega arith; short = rw l fits.len; body = rw (l, d16) (omega (arith, length-append t.frame rest)) } in
    rw whole (ok_from_whole (number_in order) at text w ∙ ap (λ (u : Taken). Ok u) (front_is (number_in order) text t s f o frame))

-- ---- the records

unrolled : (number : ℕ → List ℕ → ℕ) (room at : ℕ) (bytes : List ℕ) → 0 < length bytes
    → frames_at number (suc room) at bytes ≡ (record_at number at bytes >>= λ first. frames_at number room (at + (record_len + length first.frame)) (drop (record_len + length first.frame) bytes) >>= λ others. Ok (first ∷ others))
unfolding frames_at
unrolled number room at [] some = absurd (omega arith)
unrolled number room at (b ∷ bytes) some = refl

-- what a list of frames that was read says of the bytes
pub record AreTaken (order : Order) (room : ℕ) (bytes : List ℕ) (frames : List Taken) : Type 0 where
  pub parts : bytes ≡ flat_map (record_of order) frames
  pub count : length frames ≤ room
  pub each : AllByRecursion Fits frames

pub frames_take : (order : Order) (room at : ℕ) (bytes : List ℕ) (frames : List Taken) → IsBytes bytes → frames_at (number_in order) room at bytes ≡ Ok frames → AreTaken order room bytes frames
unfolding frames_at
frames_take order room at [] frames fits e = subst (λ (fs : List Taken). AreTaken order room [] fs) (ok_is [] frames e) (record { parts = refl; count = omega arith; each = tt })
frames_take order zero at (b ∷ bytes) frames fits e = absurd cc
frames_take order (suc room) at (b ∷ bytes) frames fits e =
    let p = bind_ok (record_at (number_in order) at (b ∷ bytes)) (λ first. frames_at (number_in order) room (at + (record_len + length first.frame)) (drop (record_len + length first.frame) (b ∷ bytes)) >>= λ others. Ok (first ∷ others)) frames e in
    let t : Taken = p.0 in
    let rest : List ℕ = drop (record_len + length t.frame) (b ∷ bytes) in
    let q = bind_ok (frames_at (number_in order) room (at + (record_len + length t.frame)) rest) (λ others. Ok (t ∷ others)) frames p.2 in
    let one = record_takes order at (b ∷ bytes) t fits p.1 in
    let more = frames_take order room (at + (record_len + length t.frame)) rest q.0 one.0.rest_fits q.1 in
    subst (λ (fs : List Taken). AreTaken order (suc room) (b ∷ bytes) fs) (ok_is (t ∷ q.0) frames q.2)
    (record { parts = one.0.parts ∙ ap (λ (x : List ℕ). record_of order t ++ x) more.parts; count = omega (arith, more.count); each = (one.1, more.each) })

pub frames_again : (order : Order) (room at : ℕ) (frames : List Taken) → length frames ≤ room → AllByRecursion Fits frames → frames_at (number_in order) room at (flat_map (record_of order) frames) ≡ Ok frames
unfolding frames_at
frames_again order room at [] le fits = refl
frames_again order zero at (t ∷ ts) le fits = absurd (omega arith)
frames_again order (suc room) at (t ∷ ts) le fits =
    let rest : List ℕ = flat_map (record_of order) ts in
    let len : length (record_of order t) ≡ record_len + length t.frame = length_of_record order t in
    let some : 0 < length (record_of order t ++ rest) = omega (arith, length-append (record_of order t) rest) in
    let left : drop (record_len + length t.frame) (record_of order t ++ rest) ≡ rest = drop_at (record_of order t) rest (record_len + length t.frame) len in
    unrolled (number_in order) room at (record_of order t ++ rest) some
    ∙ rw (record_again order at t rest fits.0) (rw (left, frames_again order room (at + (record_len + length t.frame)) ts (omega arith) fits.1) refl)
