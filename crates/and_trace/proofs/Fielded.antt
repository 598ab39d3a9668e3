-- Each word of an event's line is cut off as it was put, and names what it was put for.
use Rattle.std.proofs.Common.{◌≡◌, ℕ, suc, ◌+◌, ◌-◌, ◌*◌, ◌%◌, ◌<◌, ◌≤◌, ◌^◌, Bool, true, false, cond, not, ◌==◌, List, [], ◌∷◌, ◌++◌, length, take, drop, fold, codes, decimal, bytes_eq, refl, sym, ap, ◌∙◌, subst, arith, rules, append_assoc, append-nil}
use Rattle.std.specs.List.{flat_map, position_or_len, prefix_len}
use Rattle.std.specs.Str.{all_ascii_digits}
use Rattle.std.specs.Char.{is_ascii_digit}
use Rattle.std.proofs.Math.Nat.{mod-eq_of_lt}
use Rattle.std.proofs.Math.Seq.{take-append_seam}
use Rattle.std.proofs.lemmas.List.{drop_all}
use Rattle.std.proofs.lemmas.Str.Parse.{IsNumeralModel, numerals_by_fold, tells_all_ascii_digits}
use Rattle.std.proofs.lemmas.Fmt.{digits_decimal, digits_value-decimal}
use Rattle.and_events.specs.declared.event.Node.{Node}
use Rattle.and_events.specs.declared.event.Node.TheVariants.{Host, Gate}
use Rattle.and_events.specs.declared.event.Actor.{Actor}
use Rattle.and_events.specs.declared.event.Actor.TheVariants.{HostInstall, GateInstall, Worker, Coproc, Gateway, Controller, Driver}
use Rattle.and_events.specs.declared.event.Queue.{Queue}
use Rattle.and_events.specs.declared.event.Queue.TheVariants.{Out, Wire, Seal}
use Rattle.and_events.specs.declared.event.End.{End}
use Rattle.and_events.specs.declared.event.End.TheVariants.{Queued, Full, Hops}
use Rattle.and_policy.specs.declared.decision.Way.{Way}
use Rattle.and_policy.specs.declared.decision.Way.TheVariants as ways
use Rattle.and_trace.specs.declared.word.Word.{Word}
use Rattle.and_trace.specs.declared.word.Word.TheVariants.{Number, AtHost, AtGate}
use Rattle.and_trace.specs.Words.{spelling, key_text}
use Rattle.and_trace.specs.Spelling.{spaced, TakesPackets, node_word, actor_word, queue_word, end_word, way_word, full_word, mark_word, verdict_word}
use Rattle.and_trace.specs.Grammar.{IsShort}
use Rattle.and_trace.specs.Fields.{upto, past, digit_after, number_in, place_in, node_in, actor_at, actor_in, queue_in, end_in, way_in}
use Rattle.and_trace.proofs.Cutting.{AllPass, both}
use Rattle.and_trace.proofs.Reading.{own}
use Rattle.and_trace.proofs.Lines.{is_clean, word_clean}
use Rattle.and_trace.proofs.Short.{wide, fits_word}

-- ---- cutting at the first such byte

abbrev pub misses : ℕ → ℕ → Bool
misses mark c = not (c == mark)

place_end : (mark : ℕ) (xs t : List ℕ) → AllPass (misses mark) xs → position_or_len (λ c. c == mark) t ≡ 0 → position_or_len (λ c. c == mark) (xs ++ t) ≡ length xs
place_end mark [] t pass at = at
place_end mark (x ∷ xs) t pass at =
    let more : 1 + length xs ≡ suc (length xs) = omega arith in
    ap (λ b. cond b (1 + prefix_len (misses mark) (xs ++ t)) 0) pass.0 ∙ (ap (λ n. 1 + n) (place_end mark xs t pass.1 at) ∙ more)

pub upto_is : (mark : ℕ) (xs t : List ℕ) → AllPass (misses mark) xs → position_or_len (λ c. c == mark) t ≡ 0 → upto mark (xs ++ t) ≡ xs
unfolding upto
upto_is mark xs t pass at = ap (λ n. take n (xs ++ t)) (place_end mark xs t pass at) ∙ take-append_seam xs t

drop_past : (c : ℕ) (xs ys : List ℕ) → drop (length xs + 1) (xs ++ c ∷ ys) ≡ ys
drop_past c [] ys = refl
drop_past c (x ∷ xs) ys =
    let more : suc (length xs) + 1 ≡ suc (length xs + 1) = omega arith in
    ap (λ n. drop n (x ∷ xs ++ c ∷ ys)) more ∙ drop_past c xs ys

pub past_is : (mark : ℕ) (xs ys : List ℕ) → AllPass (misses mark) xs → position_or_len (λ c. c == mark) (mark ∷ ys) ≡ 0 → past mark (xs ++ mark ∷ ys) ≡ ys
unfolding past
past_is mark xs ys pass at = ap (λ n. drop (n + 1) (xs ++ mark ∷ ys)) (place_end mark xs (mark ∷ ys) pass at) ∙ drop_past mark xs ys

past_end : (mark : ℕ) (xs : List ℕ) → AllPass (misses mark) xs → past mark (xs ++ []) ≡ []
unfolding past
past_end mark xs pass =
    let all : length (xs ++ []) ≡ length xs = ap length (append-nil xs) in
    ap (λ n. drop (n + 1) (xs ++ [])) (place_end mark xs [] pass refl) ∙ drop_all (length xs + 1) (xs ++ []) (omega (arith, all))

-- ---- the words of a line

-- words with one space between
abbrev pub joined : List Word → List ℕ
joined [] = []
joined (w ∷ ws) = spelling w ++ flat_map spaced ws

space_missed : (c : ℕ) → is_clean c ≡ true → misses 32 c ≡ true
space_missed c clean = search rules

no_space : (xs : List ℕ) → AllPass is_clean xs → AllPass (misses 32) xs
no_space [] clean = tt
no_space (x ∷ xs) clean = (space_missed x clean.0, no_space xs clean.1)

begun : (ws : List Word) → position_or_len (λ c. c == 32) (flat_map spaced ws) ≡ 0
begun [] = refl
begun (w ∷ ws) = refl

pub front_is : (xs : List ℕ) (ws : List Word) → AllPass is_clean xs → upto 32 (xs ++ flat_map spaced ws) ≡ xs
front_is xs ws clean = upto_is 32 xs (flat_map spaced ws) (no_space xs clean) (begun ws)

pub rest_is : (xs : List ℕ) (ws : List Word) → AllPass is_clean xs → past 32 (xs ++ flat_map spaced ws) ≡ joined ws
rest_is xs [] clean = past_end 32 xs (no_space xs clean)
rest_is xs (w ∷ ws) clean = past_is 32 xs (joined (w ∷ ws)) (no_space xs clean) refl

pub word_at : (w : Word) (ws : List Word) → IsShort w → upto 32 (joined (w ∷ ws)) ≡ spelling w
word_at w ws short = front_is (spelling w) ws (word_clean w (fits_word w short))

pub rest_at : (w : Word) (ws : List Word) → IsShort w → past 32 (joined (w ∷ ws)) ≡ joined ws
rest_at w ws short = rest_is (spelling w) ws (word_clean w (fits_word w short))

-- ---- numbers

abbrev read_on : ℕ → List ℕ → ℕ
read_on n [] = n
read_on n (c ∷ cs) = read_on (n * 10 + (c - 48)) cs

read : IsNumeralModel (λ ds. all_ascii_digits ds ≡ true) (read_on 0)
read = numerals_by_fold (λ ds. all_ascii_digits ds ≡ true) tells_all_ascii_digits read_on (record { empty = λ n. refl; more = λ n c cs r. refl })

grows : (n : ℕ) (cs : List ℕ) → n ≤ read_on n cs
grows n [] = omega arith
grows n (c ∷ cs) = let more : n * 10 + (c - 48) ≤ read_on (n * 10 + (c - 48)) cs = grows (n * 10 + (c - 48)) cs in omega (arith, more)

wraps : (n : ℕ) (cs : List ℕ) → read_on n cs < 2 ^ 32 → fold digit_after n cs ≡ read_on n cs
wraps n [] less = refl
wraps n (c ∷ cs) less =
    let low : n * 10 + (c - 48) ≤ read_on (n * 10 + (c - 48)) cs = grows (n * 10 + (c - 48)) cs in
    let ten : n * 10 < 2 ^ 32 = omega (arith, low, less) in
    let whole : n * 10 + (c - 48) < 2 ^ 32 = omega (arith, low, less) in
    let one : digit_after n c ≡ n * 10 + (c - 48) = ap (λ m. (m + (c - 48)) % 2 ^ 32) (mod-eq_of_lt ten) ∙ mod-eq_of_lt whole in
    ap (λ m. fold digit_after m cs) one ∙ wraps (n * 10 + (c - 48)) cs less

pub number_is : (n : ℕ) → n < 2 ^ 32 → number_in (decimal n) ≡ n
unfolding number_in
number_is n short =
    let value : read_on 0 (decimal n) ≡ n = digits_value-decimal read n (wide n short) in
    wraps 0 (decimal n) (subst (λ m. m < 2 ^ 32) (sym value) short) ∙ value

-- ---- single words

pub number_at : (n : ℕ) → n < 2 ^ 32 → number_in (spelling (Number n)) ≡ n
unfolding spelling
number_at n short = number_is n short

pub host_at : (n : ℕ) → n < 2 ^ 32 → place_in (spelling (AtHost n)) ≡ n
unfolding spelling
host_at n short = number_is n short

pub gate_at : (n : ℕ) → n < 2 ^ 32 → place_in (spelling (AtGate n)) ≡ n
unfolding spelling
gate_at n short = number_is n short

pub node_at : (n : Node) → IsShort (node_word n) → node_in (spelling (node_word n)) ≡ n
unfolding spelling
node_at (Host h) short = ap Host (number_is h short)
node_at (Gate g) short = ap Gate (number_is g short)

dot_missed : (c : ℕ) → is_ascii_digit c ≡ true → misses 46 c ≡ true
dot_missed c digit = search rules

no_dots : (ds : List ℕ) → all_ascii_digits ds ≡ true → AllPass (misses 46) ds
no_dots [] e = tt
no_dots (d ∷ ds) e = let b = both (is_ascii_digit d) (all_ascii_digits ds) e in (dot_missed d b.0, no_dots ds b.1)

no_dot : (n : ℕ) → n < 2 ^ 32 → AllPass (misses 46) (decimal n)
no_dot n short = no_dots (decimal n) (digits_decimal own n (wide n short))

-- a letter, a number, a dot and what stands behind it
placed : (letter : ℕ) (n : ℕ) (role : List ℕ) → misses 46 letter ≡ true → n < 2 ^ 32
    → (upto 46 ((letter ∷ decimal n) ++ (46 ∷ role)) ≡ letter ∷ decimal n) × (past 46 ((letter ∷ decimal n) ++ (46 ∷ role)) ≡ role)
placed letter n role misses_it short =
    (upto_is 46 (letter ∷ decimal n) (46 ∷ role) (misses_it, no_dot n short) refl, past_is 46 (letter ∷ decimal n) role (misses_it, no_dot n short) refl)

acts : (letter n : ℕ) (role : List ℕ) → misses 46 letter ≡ true → n < 2 ^ 32
    → actor_in ((letter ∷ decimal n) ++ (46 ∷ role)) ≡ actor_at (letter ∷ decimal n) role
acts letter n role misses_it short =
    let p = placed letter n role misses_it short in
    ap (λ at. actor_at at (past 46 ((letter ∷ decimal n) ++ (46 ∷ role)))) p.0 ∙ ap (λ r. actor_at (letter ∷ decimal n) r) p.1

pub actor_is : (a : Actor) → TakesPackets a → IsShort (actor_word a) → actor_in (spelling (actor_word a)) ≡ a
unfolding spelling
actor_is (Worker host index) takes short =
    ap actor_in (append_assoc (104 ∷ decimal host) (codes ".w") (decimal index))
    ∙ (acts 104 host (119 ∷ decimal index) refl short.0
    ∙ (ap (λ n. Worker n (number_in (decimal index))) (number_is host short.0) ∙ ap (λ n. Worker host n) (number_is index short.1)))
actor_is (Coproc host) takes short = acts 104 host (99 ∷ []) refl short ∙ ap Coproc (number_is host short)
actor_is (Gateway g) takes short = acts 103 g (119 ∷ []) refl short ∙ ap Gateway (number_is g short)
actor_is (HostInstall h) takes short = absurd takes
actor_is (GateInstall g) takes short = absurd takes
actor_is Controller takes short = absurd takes
actor_is Driver takes short = absurd takes

pub queue_at : (q : Queue) → queue_in (spelling (queue_word q)) ≡ q
unfolding spelling key_text
queue_at Out = refl
queue_at Wire = refl
queue_at Seal = refl

pub end_at : (e : End) → end_in (spelling (end_word e)) ≡ e
unfolding spelling key_text
end_at Queued = refl
end_at Full = refl
end_at Hops = refl

pub way_at : (w : Way) → way_in (spelling (way_word w)) ≡ w
unfolding spelling key_text
way_at ways.Fast = refl
way_at ways.Slow = refl

pub full_at : (b : Bool) → bytes_eq (spelling (full_word b)) (codes "full") ≡ b
unfolding spelling key_text
full_at true = refl
full_at false = refl

pub mark_at : (b : Bool) → bytes_eq (spelling (mark_word b)) (codes "sealed") ≡ b
unfolding spelling key_text
mark_at true = refl
mark_at false = refl

pub verdict_at : (b : Bool) → bytes_eq (spelling (verdict_word b)) (codes "deliver") ≡ b
unfolding spelling key_text
verdict_at true = refl
verdict_at false = refl
