-- A word is read back from what is written for it, so that the text names the word.
use Rattle.std.proofs.Common.{◌≡◌, ℕ, ◌<◌, ◌^◌, true, List, [], ◌∷◌, ◌++◌, length, codes, refl, sym, ap, ◌∙◌, arith, decimal, append-nil, append_assoc}
use Rattle.std.specs.Str.{all_ascii_digits}
use Rattle.std.specs.Char.{is_ascii_digit}
use Rattle.std.specs.Str.Parse.{digits_value}
use Rattle.std.proofs.lemmas.Fmt.{digits_decimal, digits_value-decimal, decimal_nonempty}
use Rattle.and_trace.specs.declared.word.Key.{Key}
use Rattle.and_trace.specs.declared.word.Key.TheVariants as keys
use Rattle.and_trace.specs.declared.word.Word.{Word}
use Rattle.and_trace.specs.declared.word.Word.TheVariants.{Text, Number, AtHost, AtGate, HostWorker, HostCoproc, GateWorker}
use Rattle.and_trace.specs.Words.{spelling, key_text}
use Rattle.and_trace.specs.Spelling.{FitsWord}
use Rattle.and_trace.proofs.Reading.{front, back, is_other, at_host, at_gate, from_parts, word_of, own, Stops, front_digits, back_digits, front_number, back_number}

key_is : (k : Key) → word_of (key_text k) ≡ Text k
unfolding key_text
key_is keys.Append = refl
key_is keys.Review = refl
key_is keys.Hold = refl
key_is keys.Free = refl
key_is keys.Wait = refl
key_is keys.Blackout = refl
key_is keys.Resume = refl
key_is keys.Finish = refl
key_is keys.Inject = refl
key_is keys.Announce = refl
key_is keys.Installed = refl
key_is keys.Take = refl
key_is keys.Egress = refl
key_is keys.Sealed = refl
key_is keys.Route = refl
key_is keys.Redirect = refl
key_is keys.Ingress = refl
key_is keys.Unpin = refl
key_is keys.Queued = refl
key_is keys.Full = refl
key_is keys.Hops = refl
key_is keys.Out = refl
key_is keys.Wire = refl
key_is keys.Seal = refl
key_is keys.Fast = refl
key_is keys.Slow = refl
key_is keys.NoVm = refl
key_is keys.Spoofed = refl
key_is keys.Denied = refl
key_is keys.Allow = refl
key_is keys.Implied = refl
key_is keys.Rule = refl
key_is keys.Plain = refl
key_is keys.Offload = refl
key_is keys.Hover = refl
key_is keys.Drop = refl
key_is keys.NoOwner = refl
key_is keys.Send = refl
key_is keys.Vm = refl
key_is keys.Running = refl
key_is keys.Deliver = refl
key_is keys.Hairpin = refl
key_is keys.Absent = refl

-- ---- words with a number

-- the parts of a number with something behind it
parts : (p ds s : List ℕ) → 0 < length ds → all_ascii_digits ds ≡ true → Stops s
    → from_parts p (front is_ascii_digit (back is_other (ds ++ s))) (back is_ascii_digit (back is_other (ds ++ s))) ≡ from_parts p ds s
parts p ds s less digits stops =
    let begun : back is_other (ds ++ s) ≡ ds ++ s = back_number ds s less digits in
    ap (λ xs. from_parts p (front is_ascii_digit xs) (back is_ascii_digit xs)) begun
    ∙ (ap (λ xs. from_parts p xs (back is_ascii_digit (ds ++ s))) (front_digits ds s digits stops)
    ∙ ap (λ xs. from_parts p ds xs) (back_digits ds s digits stops))

number_parts : (ds : List ℕ) → 0 < length ds → from_parts [] ds [] ≡ Number (digits_value 10 ds)
number_parts [] less = let never : ⊥ = omega arith in absurd never
number_parts (d ∷ ds) less = refl

host_parts : (ds s : List ℕ) → 0 < length ds → from_parts (104 ∷ []) ds s ≡ at_host ds s
host_parts [] s less = let never : ⊥ = omega arith in absurd never
host_parts (d ∷ ds) s less = refl

gate_parts : (ds s : List ℕ) → 0 < length ds → from_parts (103 ∷ []) ds s ≡ at_gate ds s
gate_parts [] s less = let never : ⊥ = omega arith in absurd never
gate_parts (d ∷ ds) s less = refl

number_word : (ds : List ℕ) → 0 < length ds → all_ascii_digits ds ≡ true → word_of (ds ++ []) ≡ Number (digits_value 10 ds)
number_word ds less digits =
    ap (λ p. from_parts p (front is_ascii_digit (back is_other (ds ++ []))) (back is_ascii_digit (back is_other (ds ++ [])))) (front_number ds [] less digits)
    ∙ (parts [] ds [] less digits tt ∙ number_parts ds less)

host_word : (ds s : List ℕ) → 0 < length ds → all_ascii_digits ds ≡ true → Stops s → word_of (104 ∷ ds ++ s) ≡ at_host ds s
host_word ds s less digits stops =
    ap (λ p. from_parts (104 ∷ p) (front is_ascii_digit (back is_other (ds ++ s))) (back is_ascii_digit (back is_other (ds ++ s)))) (front_number ds s less digits)
    ∙ (parts (104 ∷ []) ds s less digits stops ∙ host_parts ds s less)

gate_word : (ds s : List ℕ) → 0 < length ds → all_ascii_digits ds ≡ true → Stops s → word_of (103 ∷ ds ++ s) ≡ at_gate ds s
gate_word ds s less digits stops =
    ap (λ p. from_parts (103 ∷ p) (front is_ascii_digit (back is_other (ds ++ s))) (back is_ascii_digit (back is_other (ds ++ s)))) (front_number ds s less digits)
    ∙ (parts (103 ∷ []) ds s less digits stops ∙ gate_parts ds s less)

value_is : (n : ℕ) → n < 2 ^ 64 → digits_value 10 (decimal n) ≡ n
value_is n fits = digits_value-decimal own n fits

pub word_is : (w : Word) → FitsWord w → word_of (spelling w) ≡ w
unfolding spelling
word_is (Text k) fits = key_is k
word_is (Number n) fits =
    ap word_of (sym (append-nil (decimal n))) ∙ (number_word (decimal n) (decimal_nonempty n fits) (digits_decimal own n fits) ∙ ap Number (value_is n fits))
word_is (AtHost host) fits =
    ap (λ ds. word_of (104 ∷ ds)) (sym (append-nil (decimal host)))
    ∙ (host_word (decimal host) [] (decimal_nonempty host fits) (digits_decimal own host fits) tt ∙ ap AtHost (value_is host fits))
word_is (AtGate gate) fits =
    ap (λ ds. word_of (103 ∷ ds)) (sym (append-nil (decimal gate)))
    ∙ (gate_word (decimal gate) [] (decimal_nonempty gate fits) (digits_decimal own gate fits) tt ∙ ap AtGate (value_is gate fits))
word_is (HostWorker host index) (host_fits, index_fits) =
    ap word_of (append_assoc (104 ∷ decimal host) (codes ".w") (decimal index))
    ∙ (host_word (decimal host) (codes ".w" ++ decimal index) (decimal_nonempty host host_fits) (digits_decimal own host host_fits) refl
    ∙ (ap (λ n. HostWorker n (digits_value 10 (decimal index))) (value_is host host_fits) ∙ ap (λ n. HostWorker host n) (value_is index index_fits)))
word_is (HostCoproc host) fits =
    host_word (decimal host) (codes ".c") (decimal_nonempty host fits) (digits_decimal own host fits) refl ∙ ap HostCoproc (value_is host fits)
word_is (GateWorker gate) fits =
    gate_word (decimal gate) (codes ".w") (decimal_nonempty gate fits) (digits_decimal own gate fits) refl ∙ ap GateWorker (value_is gate fits)

-- two words that are written alike are one
pub same_word : (w v : Word) → FitsWord w → FitsWord v → spelling w ≡ spelling v → w ≡ v
same_word w v a b e = sym (word_is w a) ∙ (ap word_of e ∙ word_is v b)
