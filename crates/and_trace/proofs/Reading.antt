-- What a word is written as names the word: it is read back.
use Rattle.std.proofs.Common.{◌≡◌, ℕ, ◌<◌, Bool, true, false, ◌==◌, if◌then◌else◌, List, [], ◌∷◌, ◌++◌, length, codes, refl, ap, ◌∙◌, arith}
use Rattle.std.specs.Str.{bytes_eq, all_ascii_digits}
use Rattle.std.specs.Char.{is_ascii_digit}
use Rattle.std.specs.Str.Parse.{digits_value}
use Rattle.std.proofs.lemmas.Str.Parse.{IsNumeralModel, numerals_by_value, tells_all_ascii_digits}
use Rattle.and_trace.specs.declared.word.Key.{Key}
use Rattle.and_trace.specs.declared.word.Key.TheVariants as keys
use Rattle.and_trace.specs.declared.word.Word.{Word}
use Rattle.and_trace.specs.declared.word.Word.TheVariants.{Text, Number, AtHost, AtGate, HostWorker, HostCoproc, GateWorker}
use Rattle.and_trace.proofs.Cutting.{both}

-- ---- the front of a text that passes a test, and the rest

abbrev pub front : (ℕ → Bool) → List ℕ → List ℕ
front p [] = []
front p (x ∷ xs) = if p x then x ∷ front p xs else []

abbrev pub back : (ℕ → Bool) → List ℕ → List ℕ
back p [] = []
back p (x ∷ xs) = if p x then back p xs else x ∷ xs

abbrev pub is_other : ℕ → Bool
is_other c = if is_ascii_digit c then false else true

-- ---- reading

abbrev pub key_of : List ℕ → Key
key_of p = if bytes_eq p (codes "append") then keys.Append else (if bytes_eq p (codes "review") then keys.Review else (if bytes_eq p (codes "hold") then keys.Hold else (if bytes_eq p (codes "free") then keys.Free else (if bytes_eq p (codes "wait") then keys.Wait else (if bytes_eq p (codes "blackout") then keys.Blackout else (if bytes_eq p (codes "resume") then keys.Resume else (if bytes_eq p (codes "finish") then keys.Finish else (if bytes_eq p (codes "inject") then keys.Inject else (if bytes_eq p (codes "announce") then keys.Announce else (if bytes_eq p (codes "installed") then keys.Installed else (if bytes_eq p (codes "take") then keys.Take else (if bytes_eq p (codes "egress") then keys.Egress else (if bytes_eq p (codes "sealed") then keys.Sealed else (if bytes_eq p (codes "route") then keys.Route else (if bytes_eq p (codes "redirect") then keys.Redirect else (if bytes_eq p (codes "ingress") then keys.Ingress else (if bytes_eq p (codes "unpin") then keys.Unpin else (if bytes_eq p (codes "queued") then keys.Queued else (if bytes_eq p (codes "full") then keys.Full else (if bytes_eq p (codes "hops") then keys.Hops else (if bytes_eq p (codes "out") then keys.Out else (if bytes_eq p (codes "wire") then keys.Wire else (if bytes_eq p (codes "seal") then keys.Seal else (if bytes_eq p (codes "fast") then keys.Fast else (if bytes_eq p (codes "slow") then keys.Slow else (if bytes_eq p (codes "novm") then keys.NoVm else (if bytes_eq p (codes "spoofed") then keys.Spoofed else (if bytes_eq p (codes "denied") then keys.Denied else (if bytes_eq p (codes "allow") then keys.Allow else (if bytes_eq p (codes "implied") then keys.Implied else (if bytes_eq p (codes "rule") then keys.Rule else (if bytes_eq p (codes "plain") then keys.Plain else (if bytes_eq p (codes "offload") then keys.Offload else (if bytes_eq p (codes "hover") then keys.Hover else (if bytes_eq p (codes "drop") then keys.Drop else (if bytes_eq p (codes "noowner") then keys.NoOwner else (if bytes_eq p (codes "send") then keys.Send else (if bytes_eq p (codes "vm") then keys.Vm else (if bytes_eq p (codes "running") then keys.Running else (if bytes_eq p (codes "deliver") then keys.Deliver else (if bytes_eq p (codes "hairpin") then keys.Hairpin else (keys.Absent))))))))))))))))))))))))))))))))))))))))))

abbrev pub at_host : List ℕ → List ℕ → Word
at_host ds [] = AtHost (digits_value 10 ds)
at_host ds (x ∷ []) = AtHost 0
at_host ds (x ∷ y ∷ s) = if y == 99 then HostCoproc (digits_value 10 ds) else HostWorker (digits_value 10 ds) (digits_value 10 s)

abbrev pub at_gate : List ℕ → List ℕ → Word
at_gate ds [] = AtGate (digits_value 10 ds)
at_gate ds (x ∷ s) = GateWorker (digits_value 10 ds)

abbrev pub from_parts : List ℕ → List ℕ → List ℕ → Word
from_parts p [] s = Text (key_of p)
from_parts [] (d ∷ ds) s = Number (digits_value 10 (d ∷ ds))
from_parts (x ∷ p) (d ∷ ds) s = if x == 104 then at_host (d ∷ ds) s else at_gate (d ∷ ds) s

abbrev pub word_of : List ℕ → Word
word_of xs = from_parts (front is_other xs) (front is_ascii_digit (back is_other xs)) (back is_ascii_digit (back is_other xs))

-- ---- digits

pub own : IsNumeralModel (λ ds. all_ascii_digits ds ≡ true) (digits_value 10)
own = numerals_by_value (λ ds. all_ascii_digits ds ≡ true) tells_all_ascii_digits

abbrev pub Stops : List ℕ → Type 0
Stops [] = Unit {0}
Stops (x ∷ xs) = is_ascii_digit x ≡ false

pub front_digits : (ds s : List ℕ) → all_ascii_digits ds ≡ true → Stops s → front is_ascii_digit (ds ++ s) ≡ ds
front_digits [] [] e stops = refl
front_digits [] (x ∷ s) e stops = ap (λ b. if b then x ∷ front is_ascii_digit s else []) stops
front_digits (d ∷ ds) s e stops =
    let b = both (is_ascii_digit d) (all_ascii_digits ds) e in
    ap (λ c. if c then d ∷ front is_ascii_digit (ds ++ s) else []) b.0 ∙ ap (λ xs. d ∷ xs) (front_digits ds s b.1 stops)

pub back_digits : (ds s : List ℕ) → all_ascii_digits ds ≡ true → Stops s → back is_ascii_digit (ds ++ s) ≡ s
back_digits [] [] e stops = refl
back_digits [] (x ∷ s) e stops = ap (λ b. if b then back is_ascii_digit s else x ∷ s) stops
back_digits (d ∷ ds) s e stops =
    let b = both (is_ascii_digit d) (all_ascii_digits ds) e in
    ap (λ c. if c then back is_ascii_digit (ds ++ s) else d ∷ ds ++ s) b.0 ∙ back_digits ds s b.1 stops

-- a number at the front is not passed over
pub front_number : (ds s : List ℕ) → 0 < length ds → all_ascii_digits ds ≡ true → front is_other (ds ++ s) ≡ []
front_number [] s less e = let never : ⊥ = omega arith in absurd never
front_number (d ∷ ds) s less e =
    let b = both (is_ascii_digit d) (all_ascii_digits ds) e in
    ap (λ c. if (if c then false else true) then d ∷ front is_other (ds ++ s) else []) b.0

pub back_number : (ds s : List ℕ) → 0 < length ds → all_ascii_digits ds ≡ true → back is_other (ds ++ s) ≡ ds ++ s
back_number [] s less e = let never : ⊥ = omega arith in absurd never
back_number (d ∷ ds) s less e =
    let b = both (is_ascii_digit d) (all_ascii_digits ds) e in
    ap (λ c. if (if c then false else true) then back is_other (ds ++ s) else d ∷ ds ++ s) b.0
