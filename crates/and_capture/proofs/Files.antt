-- A file that is read is the file of its capture, and the file of a capture is read again.
use Rattle.std.proofs.Common.{◌≡◌, ℕ, zero, suc, ◌+◌, ◌<◌, ◌≤◌, Bool, true, false, cond, ltb, eqb, List, [], ◌∷◌, ◌++◌, length, get_or, take, drop, Option, Some, None, Result, Ok, Err, refl, sym, ap, subst, ◌∙◌, append_assoc, arith, length-append, length-drop}
use Rattle.std.specs.Prelude.{IfOk, MatchResult}
use Rattle.std.specs.List.{flat_map, AllByRecursion}
use Rattle.std.proofs.lemmas.Bool.{ltb-false, le-ltb, eqb-true}
use Rattle.std.proofs.lemmas.List.{drop_at, take-append-drop, length-take, drop-drop, flat_map_more, take_more}
use Rattle.byteorder.specs.Endian.{big_number, little_number, little_bytes}
use Rattle.and_capture.specs.declared.fault.CaptureFault.{CaptureFault}
use Rattle.and_capture.specs.declared.fault.CaptureFault.TheVariants.{CutHeader, Magic, Major, LinkType, CutRecord, LongRecord, TooMany, NoMemory}
use Rattle.and_capture.specs.declared.capture.Taken.{Taken}
use Rattle.and_capture.specs.declared.capture.Capture.{Capture}
use Rattle.and_capture.specs.Spelling.{header_len, record_len, max_frames, max_frame_len}
use Rattle.and_capture.specs.Spelling.{Order, little, big, number_in, bytes_in, magic_of, header, record_of, Fits, IsWithinLimits, Spells, written}
use Rattle.and_capture.specs.Reading.{◌>>=◌, Gives, record_at, frames_at, capture_in, style_at, capture_by, reading}
use Rattle.and_capture.proofs.Numbers.{IsBytes, IsBytes-drop, length-bytes_in, number_again, bytes_2, bytes_4}
use Rattle.and_capture.proofs.Records.{ok_is, passed, held, bind_ok, piece, frames_take, frames_again}

-- ---- the magic number

-- what a style says of the first four bytes
abbrev IsRight : List ℕ → Option (Order × Bool) → Type 0
IsRight bytes None = Unit {0}
IsRight bytes (Some style) = number_in style.0 4 bytes ≡ magic_of style.1

chosen : (bytes : List ℕ) (b : Bool) (x y : Option (Order × Bool)) → (b ≡ true → IsRight bytes x) → IsRight bytes y → IsRight bytes (cond b x y)
chosen bytes true x y here after = here refl
chosen bytes false x y here after = after

style_right : (bytes : List ℕ) → IsRight bytes (style_at bytes)
style_right bytes =
    chosen bytes (eqb (little_number 4 bytes) (magic_of false)) (Some (little, false)) _ (λ e. eqb-true _ _ e)
    (chosen bytes (eqb (little_number 4 bytes) (magic_of true)) (Some (little, true)) _ (λ e. eqb-true _ _ e)
    (chosen bytes (eqb (big_number 4 bytes) (magic_of false)) (Some (big, false)) _ (λ e. eqb-true _ _ e)
    (chosen bytes (eqb (big_number 4 bytes) (magic_of true)) (Some (big, true)) None (λ e. eqb-true _ _ e) tt)))

style_again : (order : Order) (nanos : Bool) (rest : List ℕ) → style_at (bytes_in order 4 (magic_of nanos) ++ rest) ≡ Some (order, nanos)
style_again little false rest = refl
style_again little true rest = refl
style_again big false rest = refl
style_again big true rest = refl

-- ---- what is read is spelled so

joined : (bytes : List ℕ) → (take 4 bytes ++ (take 2 (drop 4 bytes) ++ (take 14 (drop 6 bytes) ++ take 4 (drop 20 bytes)))) ++ drop 24 bytes ≡ bytes
joined bytes =
    let e20 : take 4 (drop 20 bytes) ++ drop 24 bytes ≡ drop 20 bytes = piece 20 4 24 bytes refl in
    let e6 : take 14 (drop 6 bytes) ++ drop 20 bytes ≡ drop 6 bytes = piece 6 14 20 bytes refl in
    let e4 : take 2 (drop 4 bytes) ++ drop 6 bytes ≡ drop 4 bytes = piece 4 2 6 bytes refl in
    let e0 : take 4 bytes ++ drop 4 bytes ≡ bytes = take-append-drop 4 bytes in
    simp append_assoc (rw (e20, e6, e4, e0) refl)

in_takes : (order : Order) (nanos : Bool) (bytes : List ℕ) (capture : Capture) → IsBytes bytes → header_len ≤ length bytes → number_in order 4 bytes ≡ magic_of nanos
    → capture_in (number_in order) nanos bytes ≡ Ok capture → Spells bytes capture
unfolding capture_in
in_takes order nanos bytes capture fits long magic e =
    let a = held (eqb (number_in order 2 (drop 4 bytes)) 2) _ _ capture e in
    let b = held (eqb (number_in order 4 (drop 20 bytes)) 1) _ _ capture a.1 in
    let q = bind_ok (frames_at (number_in order) max_frames header_len (drop header_len bytes)) (λ frames. Ok (record { nanos = nanos; frames = frames })) capture b.1 in
    let taken = frames_take order max_frames header_len (drop header_len bytes) q.0 (IsBytes-drop header_len bytes fits) q.1 in
    let m : bytes_in order 4 (magic_of nanos) ≡ take 4 bytes = rw (← magic) (bytes_4 order bytes fits (omega arith)) in
    let j : bytes_in order 2 2 ≡ take 2 (drop 4 bytes) =
    ap (λ (n : ℕ). bytes_in order 2 n) (sym (eqb-true _ _ a.0)) ∙ bytes_2 order (drop 4 bytes) (IsBytes-drop 4 bytes fits) (omega (arith, length-drop 4 bytes)) in
    let l : bytes_in order 4 1 ≡ take 4 (drop 20 bytes) =
    ap (λ (n : ℕ). bytes_in order 4 n) (sym (eqb-true _ _ b.0)) ∙ bytes_4 order (drop 20 bytes) (IsBytes-drop 20 bytes fits) (omega (arith, length-drop 20 bytes)) in
    let made : Capture = record { nanos = nanos; frames = q.0 } in
    let spelled : Spells bytes made = record {
      order = order;
      unread = take 14 (drop 6 bytes);
      unread_len = omega (arith, length-take 14 (drop 6 bytes), length-drop 6 bytes);
      parts = rw (m, j, l, ← taken.parts) (sym (joined bytes));
      limits = record { count = taken.count; each = taken.each };
    } in
    subst (λ (c : Capture). Spells bytes c) (ok_is made capture q.2) spelled

by_takes : (style : Option (Order × Bool)) (bytes : List ℕ) (capture : Capture) → IsBytes bytes → header_len ≤ length bytes → IsRight bytes style → capture_by style bytes ≡ Ok capture → Spells bytes capture
by_takes None bytes capture fits long right e = absurd cc
by_takes (Some style) bytes capture fits long right e = in_takes style.0 style.1 bytes capture fits long right e

file_takes : (bytes : List ℕ) (capture : Capture) → IsBytes bytes → reading bytes ≡ Ok capture → Spells bytes capture
unfolding reading
file_takes bytes capture fits e =
    let a = passed (ltb (length bytes) header_len) CutHeader (capture_by (style_at bytes) bytes) capture e in
    by_takes (style_at bytes) bytes capture fits (ltb-false _ _ a.0) (style_right bytes) a.1

-- ---- what is spelled so is read

in_again : (order : Order) (nanos : Bool) (bytes : List ℕ) (frames : List Taken) → number_in order 2 (drop 4 bytes) ≡ 2 → number_in order 4 (drop 20 bytes) ≡ 1
    → frames_at (number_in order) max_frames header_len (drop header_len bytes) ≡ Ok frames → capture_in (number_in order) nanos bytes ≡ Ok (record { nanos = nanos; frames = frames })
unfolding capture_in
in_again order nanos bytes frames major link read = rw (major, link, read) refl

text_again : (order : Order) (nanos : Bool) (unread : List ℕ) (frames : List Taken) → length unread ≡ 14 → length frames ≤ max_frames → AllByRecursion Fits frames
    → reading (bytes_in order 4 (magic_of nanos) ++ (bytes_in order 2 2 ++ (unread ++ (bytes_in order 4 1 ++ flat_map (record_of order) frames)))) ≡ Ok (record { nanos = nanos; frames = frames })
unfolding reading
text_again order nanos unread frames unread_len count each =
    let body : List ℕ = flat_map (record_of order) frames in
    let m : List ℕ = bytes_in order 4 (magic_of nanos) in
    let j : List ℕ = bytes_in order 2 2 in
    let l : List ℕ = bytes_in order 4 1 in
    let text : List ℕ = m ++ (j ++ (unread ++ (l ++ body))) in
    let d4 : drop 4 text ≡ j ++ (unread ++ (l ++ body)) = drop_at m _ 4 (length-bytes_in order 4 (magic_of nanos)) in
    let d6 : drop 6 text ≡ unread ++ (l ++ body) = sym (drop-drop 2 4 text) ∙ ap (λ (x : List ℕ). drop 2 x) d4 ∙ drop_at j _ 2 (length-bytes_in order 2 2) in
    let d20 : drop 20 text ≡ l ++ body = sym (drop-drop 14 6 text) ∙ ap (λ (x : List ℕ). drop 14 x) d6 ∙ drop_at unread _ 14 unread_len in
    let d24 : drop 24 text ≡ body = sym (drop-drop 4 20 text) ∙ ap (λ (x : List ℕ). drop 4 x) d20 ∙ drop_at l _ 4 (length-bytes_in order 4 1) in
    let major : number_in order 2 (drop 4 text) ≡ 2 = ap (λ (x : List ℕ). number_in order 2 x) d4 ∙ number_again order 2 2 _ (omega arith) in
    let link : number_in order 4 (drop 20 text) ≡ 1 = ap (λ (x : List ℕ). number_in order 4 x) d20 ∙ number_again order 4 1 _ (omega arith) in
    let read : frames_at (number_in order) max_frames header_len (drop header_len text) ≡ Ok frames = rw d24 (frames_again order max_frames header_len frames count each) in
    let long : header_len ≤ length text =
    omega (arith, length-append m (j ++ (unread ++ (l ++ body))), length-append j (unread ++ (l ++ body)), length-append unread (l ++ body), length-append l body, length-bytes_in order 4 (magic_of nanos), length-bytes_in order 2 2, length-bytes_in order 4 1) in
    let whole : ltb (length text) header_len ≡ false = le-ltb _ _ long in
    rw (whole, style_again order nanos (j ++ (unread ++ (l ++ body)))) (in_again order nanos text frames major link read)

file_again : (order : Order) (unread : List ℕ) (capture : Capture) → length unread ≡ 14 → IsWithinLimits capture → reading (header order capture.nanos unread 1 ++ flat_map (record_of order) capture.frames) ≡ Ok capture
file_again order unread capture unread_len limits =
    let regrouped : header order capture.nanos unread 1 ++ flat_map (record_of order) capture.frames
    ≡ bytes_in order 4 (magic_of capture.nanos) ++ (bytes_in order 2 2 ++ (unread ++ (bytes_in order 4 1 ++ flat_map (record_of order) capture.frames))) = simp append_assoc in
    ap reading regrouped ∙ text_again order capture.nanos unread capture.frames unread_len limits.count limits.each

pub written_again : (link : ℕ) (capture : Capture) (bytes : List ℕ) → bytes ≡ written link capture → link ≡ 1 → IsWithinLimits capture → reading bytes ≡ Ok capture
written_again link capture bytes w one limits =
    ap reading (w ∙ ap (λ (n : ℕ). written n capture) one)
    ∙ file_again little (little_bytes 2 4 ++ (little_bytes 4 0 ++ (little_bytes 4 0 ++ little_bytes 4 max_frame_len))) capture refl limits

-- ---- the clauses of `read_capture`

pub is_found : (bytes : List ℕ) (r : Result Capture CaptureFault) → IsBytes bytes → Gives (λ c. c) r (reading bytes) → IfOk r (λ capture. Spells bytes capture)
is_found bytes (Ok capture) fits e = file_takes bytes capture fits e
is_found bytes (Err fault) fits h = tt

only_no_memory : (fault : CaptureFault) (read : Result Capture CaptureFault) (capture : Capture) → Gives (λ c. c) (Err fault) read → read ≡ Ok capture → fault ≡ NoMemory
only_no_memory NoMemory read capture h e = refl
only_no_memory CutHeader read capture h e = absurd cc
only_no_memory Magic read capture h e = absurd cc
only_no_memory Major read capture h e = absurd cc
only_no_memory LinkType read capture h e = absurd cc
only_no_memory (CutRecord at) read capture h e = absurd cc
only_no_memory (LongRecord at) read capture h e = absurd cc
only_no_memory TooMany read capture h e = absurd cc

pub is_only : (bytes : List ℕ) (r : Result Capture CaptureFault) → Gives (λ c. c) r (reading bytes) → (capture : Capture) → Spells bytes capture → MatchResult r (λ read. read ≡ capture) (λ fault. fault ≡ NoMemory)
is_only bytes (Ok read) h capture s =
    let e : reading bytes ≡ Ok capture = ap reading s.parts ∙ file_again s.order s.unread capture s.unread_len s.limits in
    ok_is read capture (sym h ∙ e)
is_only bytes (Err fault) h capture s =
    only_no_memory fault (reading bytes) capture h (ap reading s.parts ∙ file_again s.order s.unread capture s.unread_len s.limits)

-- ---- the loop of `write_capture`

pub written_more : (head : List ℕ) (frames : List Taken) (i : ℕ) (t : Taken) (old new : List ℕ) → i < length frames → t ≡ get_or frames i t
    → old ≡ head ++ flat_map (record_of little) (take i frames) → new ≡ old ++ record_of little t → new ≡ head ++ flat_map (record_of little) (take (i + 1) frames)
written_more head frames i t old new lt at so_far put =
    let more : take (i + 1) frames ≡ take i frames ++ get_or frames i t ∷ [] = take_more frames i t lt in
    rw (put, so_far, more, ← at) (flat_map_more (record_of little) head (take i frames) t)
