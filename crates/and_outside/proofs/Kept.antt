-- What the files of a `MemoryFiles` are after one more.
use Rattle.std.proofs.Common.{◌≡◌, ◌≢◌, ◌≤◌, ◌+◌, ◌-◌, ◌∙◌, ℕ, List, [], ◌∷◌, ◌++◌, Option, Some, None, true, false, All, length, length-drop, length-append, append_assoc, drop, if◌then◌else◌, refl, sym, ap₂, arith}
use Rattle.std.proofs.lemmas.List.{drop-append-le, take-append-le, map-append}
use Rattle.std.proofs.lemmas.List.Elements.{All-head, All-tail}
use Rattle.std.proofs.Math.Seq.{drop-append_seam, take-append_seam, take-length}
use Rattle.std.proofs.lemmas.Slice.Eq.{bytes_eq-Decides}
use Rattle.std.specs.Option.{option_or}
use Rattle.std.specs.Str.{bytes_eq}
use Rattle.and_outside.specs.Memory.{Kept, content_of}
use Rattle.and_outside.specs.Places.{between, kept_at, kept_in, IsWithin}
use Rattle.and_outside.specs.declared.place.Place.{Place}

-- what stands below the end stays when bytes are appended
pub between-append : (bytes more : List ℕ) (low high : ℕ) → low ≤ high → high ≤ length bytes → between (bytes ++ more) low high ≡ between bytes low high
between-append bytes more low high ordered inside =
    let start : low ≤ length bytes = omega arith in
    let rest : high - low ≤ length (drop low bytes) = simp length-drop (omega arith) in
    rw (drop-append-le low bytes more start, take-append-le (high - low) (drop low bytes) more rest) refl

pub kept_in-append : (bytes more : List ℕ) (places : List Place) → All (IsWithin (length bytes)) places → kept_in (bytes ++ more) places ≡ kept_in bytes places
kept_in-append bytes more [] all = refl
kept_in-append bytes more (p ∷ ps) all =
    let here : IsWithin (length bytes) p = All-head (IsWithin (length bytes)) p ps all in
    ap₂ (λ k ks. k ∷ ks)
    (ap₂ (λ n c. let k : Kept = record { name = n; bytes = c } in k)
    (between-append bytes more p.name p.bytes here.0 (omega arith))
    (between-append bytes more p.bytes p.end here.1 here.2))
    (kept_in-append bytes more ps (All-tail (IsWithin (length bytes)) p ps all))

pub option_or_assoc : {X : Type 0} (x y z : Option X) → option_or (option_or x y) z ≡ option_or x (option_or y z)
option_or_assoc None y z = refl
option_or_assoc (Some x) y z = refl

or_none : {X : Type 0} (x : Option X) → option_or None x ≡ option_or x None
or_none None = refl
or_none (Some x) = refl

-- the youngest of a name is its content
pub content_of-push : (ks : List Kept) (k : Kept) (name : List ℕ) → content_of (ks ++ k ∷ []) name ≡ option_or (if bytes_eq k.name name then Some k.bytes else None) (content_of ks name)
content_of-push [] k name = or_none (if bytes_eq k.name name then Some k.bytes else None)
content_of-push (x ∷ ks) k name = rw (content_of-push ks k name) (option_or_assoc (if bytes_eq k.name name then Some k.bytes else None) (content_of ks name) (if bytes_eq x.name name then Some x.bytes else None))

piece-name : (bytes name content : List ℕ) (low high : ℕ) → low ≡ length bytes → high ≡ length bytes + length name → between ((bytes ++ name) ++ content) low high ≡ name
piece-name bytes name content low high low_is high_is =
    let size : high - low ≡ length name = omega arith in
    rw (append_assoc bytes name content, size, low_is, drop-append_seam bytes (name ++ content), take-append_seam name content) refl

piece-content : (bytes name content : List ℕ) (low high : ℕ) → low ≡ length bytes + length name → high ≡ (length bytes + length name) + length content → between ((bytes ++ name) ++ content) low high ≡ content
piece-content bytes name content low high low_is high_is =
    let size : high - low ≡ length content = omega arith in
    let start : low ≡ length (bytes ++ name) = simp length-append (omega arith) in
    rw (size, start, drop-append_seam (bytes ++ name) content) (take-length content)

-- a file that was put behind the others is there after them
pub kept_in-push : (bytes name content : List ℕ) (places : List Place) (p : Place) → All (IsWithin (length bytes)) places
    → p.name ≡ length bytes → p.bytes ≡ length bytes + length name → p.end ≡ (length bytes + length name) + length content
    → kept_in ((bytes ++ name) ++ content) (places ++ p ∷ []) ≡ kept_in bytes places ++ record { name = name; bytes = content } ∷ []
kept_in-push bytes name content places p all name_is bytes_is end_is =
    let kept : kept_in ((bytes ++ name) ++ content) places ≡ kept_in bytes places =
    rw (append_assoc bytes name content) (kept_in-append bytes (name ++ content) places all) in
    let named : between ((bytes ++ name) ++ content) p.name p.bytes ≡ name = piece-name bytes name content p.name p.bytes name_is bytes_is in
    let held : between ((bytes ++ name) ++ content) p.bytes p.end ≡ content = piece-content bytes name content p.bytes p.end bytes_is end_is in
    map-append (kept_at ((bytes ++ name) ++ content)) places (p ∷ [])
    ∙ ap₂ (λ ks k. ks ++ k ∷ []) kept (ap₂ (λ n c. let k : Kept = record { name = n; bytes = c } in k) named held)

pub content_of-pushed : (ks : List Kept) (name content : List ℕ) → content_of (ks ++ record { name = name; bytes = content } ∷ []) name ≡ Some content
content_of-pushed ks name content =
    content_of-push ks (record { name = name; bytes = content }) name
    ∙ rw ((bytes_eq-Decides name name).1 refl) refl

pub content_of-others : (ks : List Kept) (name content other : List ℕ) → other ≢ name → content_of (ks ++ record { name = name; bytes = content } ∷ []) other ≡ content_of ks other
content_of-others ks name content other differs =
    content_of-push ks (record { name = name; bytes = content }) other
    ∙ (elim (bytes_eq name other) as (λ b. bytes_eq name other ≡ b → option_or (if b then Some content else None) (content_of ks other) ≡ content_of ks other) [
      | true ↦ λ same. absurd (differs (sym ((bytes_eq-Decides name other).0 same)))
      | false ↦ λ _. refl
    ]) refl
