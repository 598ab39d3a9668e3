-- Reading records one after the other, as a loop does.
use Rattle.std.proofs.Common.{◌≡◌, ℕ, zero, suc, ◌-◌, ◌+◌, ◌≤◌, ◌<◌, List, [], ◌∷◌, ◌++◌, length, drop, Result, Ok, Err, refl, sym, ap, ◌∙◌, append_assoc, arith, length-append, length-drop}
use Rattle.std.proofs.lemmas.List.{append-nil}
use Rattle.and_capture.specs.declared.fault.CaptureFault.{CaptureFault}
use Rattle.and_capture.specs.declared.fault.CaptureFault.TheVariants.{CutHeader, Magic, Major, LinkType, CutRecord, LongRecord, TooMany, NoMemory}
use Rattle.and_capture.specs.declared.capture.Taken.{Taken}
use Rattle.and_capture.specs.Spelling.{header_len, record_len, max_frames}
use Rattle.and_capture.specs.Reading.{◌>>=◌, Fails, record_at, frames_at}

-- what was read before, and what is still read
abbrev pub with_front : List Taken → Result (List Taken) CaptureFault → Result (List Taken) CaptureFault
with_front front read = read >>= λ frames. Ok (front ++ frames)

regroup : (front : List Taken) (t : Taken) (read : Result (List Taken) CaptureFault) → with_front front (read >>= λ frames. Ok (t ∷ frames)) ≡ with_front (front ++ t ∷ []) read
regroup front t (Ok frames) = ap (λ (ts : List Taken). Ok ts) (simp append_assoc)
regroup front t (Err e) = refl

-- one record further
step : (number : ℕ → List ℕ → ℕ) (front : List Taken) (room at : ℕ) (bytes : List ℕ) (t : Taken) → 0 < length bytes → record_at number at bytes ≡ Ok t
    → with_front front (frames_at number (suc room) at bytes) ≡ with_front (front ++ t ∷ []) (frames_at number room (at + (record_len + length t.frame)) (drop (record_len + length t.frame) bytes))
unfolding frames_at
step number front room at [] t some h = absurd (omega arith)
step number front room at (b ∷ bytes) t some h =
    rw h (regroup front t (frames_at number room (at + (record_len + length t.frame)) (drop (record_len + length t.frame) (b ∷ bytes))))

pub goes_on : (number : ℕ → List ℕ → ℕ) (front : List Taken) (room next at then : ℕ) (bytes rest : List ℕ) (t : Taken) (total : Result (List Taken) CaptureFault)
    → room ≡ suc next → 0 < length bytes → record_at number at bytes ≡ Ok t → then ≡ at + (record_len + length t.frame) → rest ≡ drop (record_len + length t.frame) bytes
    → with_front front (frames_at number room at bytes) ≡ total → with_front (front ++ t ∷ []) (frames_at number next then rest) ≡ total
goes_on number front room next at then bytes rest t total r some h place left so_far =
    rw (place, left) (sym (step number front next at bytes t some h) ∙ rw (← r) so_far)

-- a record that is not read
pub ends : (number : ℕ → List ℕ → ℕ) (e : CaptureFault) (front : List Taken) (room at : ℕ) (bytes : List ℕ) (total : Result (List Taken) CaptureFault)
    → 0 < room → 0 < length bytes → Fails e (record_at number at bytes)
    → with_front front (frames_at number room at bytes) ≡ total → Fails e total
unfolding frames_at
ends number e front room at [] total lt some h so_far = absurd (omega arith)
ends number e front zero at (b ∷ bytes) total lt some h so_far = absurd (omega arith)
ends number NoMemory front (suc room) at (b ∷ bytes) total lt some h so_far = tt
ends number CutHeader front (suc room) at (b ∷ bytes) total lt some h so_far = sym so_far ∙ rw h refl
ends number Magic front (suc room) at (b ∷ bytes) total lt some h so_far = sym so_far ∙ rw h refl
ends number Major front (suc room) at (b ∷ bytes) total lt some h so_far = sym so_far ∙ rw h refl
ends number LinkType front (suc room) at (b ∷ bytes) total lt some h so_far = sym so_far ∙ rw h refl
ends number (CutRecord p) front (suc room) at (b ∷ bytes) total lt some h so_far = sym so_far ∙ rw h refl
ends number (LongRecord p) front (suc room) at (b ∷ bytes) total lt some h so_far = sym so_far ∙ rw h refl
ends number TooMany front (suc room) at (b ∷ bytes) total lt some h so_far = sym so_far ∙ rw h refl

-- no room, and bytes left
pub is_full : (number : ℕ → List ℕ → ℕ) (front : List Taken) (room at : ℕ) (bytes : List ℕ) (total : Result (List Taken) CaptureFault)
    → room ≡ 0 → 0 < length bytes → with_front front (frames_at number room at bytes) ≡ total → total ≡ Err TooMany
unfolding frames_at
is_full number front (suc room) at bytes total r some so_far = absurd (omega arith)
is_full number front zero at [] total r some so_far = absurd (omega arith)
is_full number front zero at (b ∷ bytes) total r some so_far = sym so_far

-- no bytes left
pub is_done : (number : ℕ → List ℕ → ℕ) (front : List Taken) (room at : ℕ) (bytes : List ℕ) (total : Result (List Taken) CaptureFault)
    → length bytes ≡ 0 → with_front front (frames_at number room at bytes) ≡ total → total ≡ Ok front
unfolding frames_at
is_done number front room at [] total none so_far = sym so_far ∙ ap (λ (ts : List Taken). Ok ts) (append-nil front)
is_done number front room at (b ∷ bytes) total none so_far = absurd (omega arith)

nothing_before : (read : Result (List Taken) CaptureFault) → with_front [] read ≡ read
nothing_before (Ok frames) = refl
nothing_before (Err e) = refl

-- nothing was read before
pub is_start : (number : ℕ → List ℕ → ℕ) (room at place : ℕ) (bytes : List ℕ) → place ≡ at → with_front [] (frames_at number room place bytes) ≡ frames_at number room at bytes
is_start number room at place bytes e = rw e (nothing_before (frames_at number room at bytes))

-- what the loop keeps: what was read, and what the rest still gives, are what all of the records give
pub record Keeps (number : ℕ → List ℕ → ℕ) (all rest : List ℕ) (frames : List Taken) : Type 0 where
  pub room : length frames ≤ max_frames
  pub inside : length rest ≤ length all
  pub so_far : with_front frames (frames_at number (max_frames - length frames) (length all - length rest) rest) ≡ frames_at number max_frames header_len (drop header_len all)

pub Keeps_none : (number : ℕ → List ℕ → ℕ) (all rest : List ℕ) (frames : List Taken) → header_len ≤ length all → rest ≡ drop header_len all → frames ≡ [] → Keeps number all rest frames
Keeps_none number all rest frames long r f =
    rw (r, f) (record {
      room = omega arith;
      inside = omega (arith, length-drop header_len all);
      so_far = is_start number max_frames header_len (length all - length (drop header_len all)) (drop header_len all) (omega (arith, length-drop header_len all));
    })

pub Keeps_more : (number : ℕ → List ℕ → ℕ) (all bytes rest : List ℕ) (frames more : List Taken) (t : Taken) → Keeps number all bytes frames → 0 < length bytes → length frames < max_frames
    → record_len + length t.frame ≤ length bytes → record_at number (length all - length bytes) bytes ≡ Ok t → rest ≡ drop (record_len + length t.frame) bytes → more ≡ frames ++ t ∷ [] → Keeps number all rest more
Keeps_more number all bytes rest frames more t kept some room inside h r m =
    let len : length (frames ++ t ∷ []) ≡ length frames + 1 = omega (arith, length-append frames (t ∷ [])) in
    let left : length rest + (record_len + length t.frame) ≡ length bytes = rw r (omega (arith, length-drop (record_len + length t.frame) bytes)) in
    rw m (record {
      room = omega arith;
      inside = omega (arith, kept.inside);
      so_far = goes_on number frames (max_frames - length frames) (max_frames - length (frames ++ t ∷ [])) (length all - length bytes) (length all - length rest) bytes rest t _ (omega arith) some h (omega (arith, kept.inside)) r kept.so_far;
    })
