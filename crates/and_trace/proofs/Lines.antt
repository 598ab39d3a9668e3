-- A line names its words, and a trace its lines.
use Rattle.std.proofs.Common.{◌≡◌, ℕ, ◌<◌, ◌^◌, Bool, true, List, [], ◌∷◌, ◌++◌, nat_lt, codes, decimal, refl, sym, ap, ◌∙◌, arith, rules, append_assoc}
use Rattle.std.specs.List.{list_all, flat_map}
use Rattle.std.specs.Str.{all_ascii_digits}
use Rattle.std.specs.Char.{is_ascii_digit}
use Rattle.std.proofs.lemmas.Fmt.{digits_decimal}
use Rattle.and_trace.specs.declared.word.Key.{Key}
use Rattle.and_trace.specs.declared.word.Key.TheVariants as keys
use Rattle.and_trace.specs.declared.word.Word.{Word}
use Rattle.and_trace.specs.declared.word.Word.TheVariants.{Text, Number, AtHost, AtGate, HostWorker, HostCoproc, GateWorker}
use Rattle.and_trace.specs.Words.{spelling, key_text}
use Rattle.and_trace.specs.Spelling.{FitsWord, FitWords, spaced}
use Rattle.and_trace.proofs.Cutting.{AllPass, all_pass, pass_both, both, cut}
use Rattle.and_trace.proofs.Reading.{own}
use Rattle.and_trace.proofs.ReadBack.{same_word}

-- neither a space nor a line feed
abbrev pub is_clean : ℕ → Bool
is_clean c = nat_lt 32 c

digit_clean : (d : ℕ) → is_ascii_digit d ≡ true → is_clean d ≡ true
digit_clean d e = search rules

digits_clean : (ds : List ℕ) → all_ascii_digits ds ≡ true → AllPass is_clean ds
digits_clean [] e = tt
digits_clean (d ∷ ds) e = let b = both (is_ascii_digit d) (all_ascii_digits ds) e in (digit_clean d b.0, digits_clean ds b.1)

number_clean : (n : ℕ) → n < 2 ^ 64 → AllPass is_clean (decimal n)
number_clean n fits = digits_clean (decimal n) (digits_decimal own n fits)

key_clean : (k : Key) → list_all is_clean (key_text k) ≡ true
unfolding key_text
key_clean keys.Append = refl
key_clean keys.Review = refl
key_clean keys.Hold = refl
key_clean keys.Free = refl
key_clean keys.Wait = refl
key_clean keys.Blackout = refl
key_clean keys.Resume = refl
key_clean keys.Finish = refl
key_clean keys.Inject = refl
key_clean keys.Announce = refl
key_clean keys.Installed = refl
key_clean keys.Take = refl
key_clean keys.Egress = refl
key_clean keys.Sealed = refl
key_clean keys.Route = refl
key_clean keys.Redirect = refl
key_clean keys.Ingress = refl
key_clean keys.Unpin = refl
key_clean keys.Queued = refl
key_clean keys.Full = refl
key_clean keys.Hops = refl
key_clean keys.Out = refl
key_clean keys.Wire = refl
key_clean keys.Seal = refl
key_clean keys.Fast = refl
key_clean keys.Slow = refl
key_clean keys.NoVm = refl
key_clean keys.Spoofed = refl
key_clean keys.Denied = refl
key_clean keys.Allow = refl
key_clean keys.Implied = refl
key_clean keys.Rule = refl
key_clean keys.Plain = refl
key_clean keys.Offload = refl
key_clean keys.Hover = refl
key_clean keys.Drop = refl
key_clean keys.NoOwner = refl
key_clean keys.Send = refl
key_clean keys.Vm = refl
key_clean keys.Running = refl
key_clean keys.Deliver = refl
key_clean keys.Hairpin = refl
key_clean keys.Absent = refl

pub text_clean : (k : Key) → AllPass is_clean (key_text k)
text_clean k = all_pass is_clean (key_text k) (key_clean k)

pub word_clean : (w : Word) → FitsWord w → AllPass is_clean (spelling w)
unfolding spelling
word_clean (Text k) fits = text_clean k
word_clean (Number n) fits = number_clean n fits
word_clean (AtHost host) fits = (refl, number_clean host fits)
word_clean (AtGate gate) fits = (refl, number_clean gate fits)
word_clean (HostWorker host index) (host_fits, index_fits) =
    pass_both is_clean (104 ∷ decimal host ++ codes ".w") (decimal index)
    (refl, pass_both is_clean (decimal host) (codes ".w") (number_clean host host_fits) (refl, (refl, tt))) (number_clean index index_fits)
word_clean (HostCoproc host) fits = (refl, pass_both is_clean (decimal host) (codes ".c") (number_clean host fits) (refl, (refl, tt)))
word_clean (GateWorker gate) fits = (refl, pass_both is_clean (decimal gate) (codes ".w") (number_clean gate fits) (refl, (refl, tt)))

-- the words behind a text, up to the end of the line, with what follows it
abbrev pub ended : List Word → List ℕ → List ℕ
ended ws us = flat_map spaced ws ++ 10 ∷ us

ended_more : (w : Word) (ws : List Word) (us : List ℕ) → ended (w ∷ ws) us ≡ 32 ∷ (spelling w ++ ended ws us)
ended_more w ws us = append_assoc (32 ∷ spelling w) (flat_map spaced ws) (10 ∷ us)

-- a text, the words behind it, and what follows the line
pub words_same : (ws vs : List Word) (us ts : List ℕ) → FitWords ws → FitWords vs → (xs ys : List ℕ) → AllPass is_clean xs → AllPass is_clean ys
    → xs ++ ended ws us ≡ ys ++ ended vs ts → (xs ≡ ys) × (ws ≡ vs) × (us ≡ ts)
words_same [] [] us ts fw fv xs ys a b e = let c = cut is_clean 10 10 xs ys us ts refl refl a b e in (c.0, refl, c.2)
words_same [] (v ∷ vs) us ts fw fv xs ys a b e =
    let c = cut is_clean 10 32 xs ys us (spelling v ++ ended vs ts) refl refl a b (e ∙ ap (λ zs. ys ++ zs) (ended_more v vs ts)) in
    let same : 10 ≡ 32 = c.1 in let never : ⊥ = omega (arith, same) in absurd never
words_same (w ∷ ws) [] us ts fw fv xs ys a b e =
    let c = cut is_clean 32 10 xs ys (spelling w ++ ended ws us) ts refl refl a b (sym (ap (λ zs. xs ++ zs) (ended_more w ws us)) ∙ e) in
    let same : 32 ≡ 10 = c.1 in let never : ⊥ = omega (arith, same) in absurd never
words_same (w ∷ ws) (v ∷ vs) us ts fw fv xs ys a b e =
    let c = cut is_clean 32 32 xs ys (spelling w ++ ended ws us) (spelling v ++ ended vs ts) refl refl a b
    (sym (ap (λ zs. xs ++ zs) (ended_more w ws us)) ∙ (e ∙ ap (λ zs. ys ++ zs) (ended_more v vs ts))) in
    let rest = words_same ws vs us ts fw.1 fv.1 (spelling w) (spelling v) (word_clean w fw.0) (word_clean v fv.0) c.2 in
    (c.0, ap (λ z. z ∷ ws) (same_word w v fw.0 fv.0 rest.0) ∙ ap (λ zs. v ∷ zs) rest.1, rest.2)
