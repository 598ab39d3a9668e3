-- A run has an end: what is announced and installed is in the programmes, and these are short.
use Rattle.std.proofs.Common.{◌≡◌, ℕ, zero, suc, ◌*◌, ◌<◌, ◌≤◌, List, [], ◌∷◌, ◌++◌, length, map, get_or, set, sum, replicate, ap, ◌∙◌, arith, length-append, ⊎_elim, suc-mul}
use Rattle.std.proofs.lemmas.List.{get_or-set_same, get_or-set_other, get_or-replicate, get_or_past, length-replicate, set_past}
use Rattle.std.proofs.lemmas.List.Sums.{sum_by-cons}
use Rattle.std.proofs.lemmas.Bool.{cases_eq, cases_lt}
use Rattle.std.proofs.lemmas.Grind.{common_steps}
use Rattle.and_policy.specs.declared.entry.Entry.{Entry}
use Rattle.and_policy.specs.declared.entry.Op.{Op}
use Rattle.and_policy.specs.declared.entry.Op.TheVariants as ops
use Rattle.and_events.specs.declared.event.Event.{Event}
use Rattle.and_events.specs.declared.event.Event.TheVariants.{Append, Review, Resume, Announce, Installed}
use Rattle.and_events.specs.declared.plan.Plan.{Plan}
use Rattle.and_events.specs.Places.{node_count}
use Rattle.and_events.specs.declared.event.Given.{Given}
use Rattle.and_events.specs.Programming.{Programmes, Word, Quiet, Logs, Orders, Announces, Installs, programmes_after, programme_at, announced_at, installed_at, with_orders}
use Rattle.and_events.specs.State.{State, state, start, after, word_of}
use Rattle.and_events.specs.Legal.{Legal}
use Rattle.and_events.specs.Run.{Run}
use Rattle.and_laws.specs.Bound.{bound}
use Rattle.and_laws.proofs.Sizes.{nodes}
use Rattle.and_laws.proofs.Short.{programmed, programme_in}
use Rattle.and_laws.proofs.Paying.{next_within, paid}

-- what is announced and what is installed is in the programme
pub record AreBehind (p : Programmes) : Type 0 where
  pub announced : (n : ℕ) → announced_at p n ≤ length (programme_at p n)
  pub installed : (n : ℕ) → installed_at p n ≤ length (programme_at p n)

-- ---- programmes only grow

logged_more : (e : Entry) (programmes : List (List Op)) (n : ℕ) → length (programme_in programmes n) ≤ length (programme_in (map (λ p. p ++ ops.Entry e ∷ []) programmes) n)
logged_more e [] n = omega arith
logged_more e (p ∷ ps) zero = omega (arith, length-append p (ops.Entry e ∷ []))
logged_more e (p ∷ ps) (suc n) = logged_more e ps n

ordered_more : (programmes : List (List Op)) (host n : ℕ) (op : Op) → length (programme_in programmes n) ≤ length (programme_in (set programmes host (programme_in programmes host ++ op ∷ [])) n)
ordered_more programmes host n op =
    let old = programme_in programmes host in
    let new = old ++ op ∷ [] in
    let none : List Op = [] in
    ⊎_elim
    (λ (e : n ≡ host).
    ⊎_elim
    (λ (l : host < length programmes).
    let at : length (programme_in (set programmes host new) n) ≡ length new =
    ap (λ k. length (programme_in (set programmes host new) k)) e ∙ ap length (get_or-set_same programmes host new none l) in
    let was : length (programme_in programmes n) ≡ length old = ap (λ k. length (programme_in programmes k)) e in
    omega (arith, at, was, length-append old (op ∷ [])))
    (λ (l : length programmes ≤ host). omega (arith, ap (λ ps. length (programme_in ps n)) (set_past programmes host new l)))
    (cases_lt host (length programmes)))
    (λ (other : n ≡ host → ⊥). omega (arith, ap length (get_or-set_other programmes host n new none other))) (cases_eq n host)

orders_more : (os : List Given) (programmes : List (List Op)) (n : ℕ) → length (programme_in programmes n) ≤ length (programme_in (with_orders programmes os) n)
orders_more [] programmes n = omega arith
orders_more (g ∷ gs) programmes n =
    omega (arith, orders_more gs (set programmes g.host (programme_in programmes g.host ++ ops.Offload g.order ∷ [])) n, ordered_more programmes g.host n (ops.Offload g.order))

-- ---- what a word does to the numbers

-- what is announced is in the programme, and what is installed was announced
abbrev IsWithin : Programmes → Word → Type 0
IsWithin p (Announces n upto) = upto ≤ length (programme_at p n)
IsWithin p (Installs n upto) = upto ≤ announced_at p n
IsWithin p _ = Unit {0}

set_le : (xs : List ℕ) (n v : ℕ) (most : ℕ → ℕ) → ((k : ℕ) → get_or xs k 0 ≤ most k) → v ≤ most n → (k : ℕ) → get_or (set xs n v) k 0 ≤ most k
set_le xs n v most h l k =
    let before = h k in
    ⊎_elim
    (λ (e : k ≡ n).
    ⊎_elim
    (λ (w : n < length xs).
    let here : get_or (set xs n v) k 0 ≡ v = ap (λ j. get_or (set xs n v) j 0) e ∙ get_or-set_same xs n v 0 w in
    let most_here : most k ≡ most n = ap most e in
    omega (arith, here, most_here, l))
    (λ (w : length xs ≤ n). omega (arith, ap (λ ys. get_or ys k 0) (set_past xs n v w), before)) (cases_lt n (length xs)))
    (λ (other : k ≡ n → ⊥). omega (arith, get_or-set_other xs n k v 0 other, before)) (cases_eq k n)

behind_after : (p : Programmes) (w : Word) → IsWithin p w → AreBehind p → AreBehind (programmes_after p w)
unfolding programmes_after
behind_after p Quiet w b = b
behind_after p (Logs e) w b =
    record { announced = λ n. omega (arith, b.announced n, logged_more e p.ops n); installed = λ n. omega (arith, b.installed n, logged_more e p.ops n) }
behind_after p (Orders os) w b =
    record { announced = λ n. omega (arith, b.announced n, orders_more os p.ops n); installed = λ n. omega (arith, b.installed n, orders_more os p.ops n) }
behind_after p (Announces node upto) w b =
    record { announced = set_le p.announced node upto (λ n. length (programme_at p n)) b.announced w; installed = b.installed }
behind_after p (Installs node upto) w b =
    let most : upto ≤ length (programme_at p node) = omega (arith, w, b.announced node) in
    record { announced = b.announced; installed = set_le p.installed node upto (λ n. length (programme_at p n)) b.installed most }

word_within : (plan : Plan) (s : State) (e : Event) → Legal plan s e → IsWithin s.programmes (word_of plan s e)
unfolding Legal word_of
word_within plan s (Append n) (entry, (is, told, can)) = rw told tt
word_within plan s (Review n) (is, told, can) = rw told tt
word_within plan s (Resume n) (vm, (is, told, can)) = rw told tt
word_within plan s (Announce node upto) l = omega (arith, l.1)
word_within plan s (Installed node upto) l = omega (arith, l.1)
word_within plan s _ l = tt

-- ---- runs

zero_at : (n k : ℕ) → get_or (replicate n 0) k 0 ≤ 0
zero_at n k =
    let nought : ℕ = 0 in
    let past = get_or_past (replicate n nought) k nought in
    grind (arith, common_steps, get_or-replicate n k nought nought, past, length-replicate n nought)

pub behind : (plan : Plan) (h : List Event) → Run plan h → AreBehind (state plan h).programmes
unfolding Run state start after
behind plan [] r =
    record { announced = λ n. omega (arith, zero_at (node_count plan.settings) n); installed = λ n. omega (arith, zero_at (node_count plan.settings) n) }
behind plan (e ∷ h) r =
    behind_after (state plan h).programmes (word_of plan (state plan h) e) (word_within plan (state plan h) e r.1) (behind plan h r.0)

sum_le : (xs : List ℕ) (m : ℕ) → ((k : ℕ) → get_or xs k 0 ≤ m) → sum xs ≤ length xs * m
sum_le [] m h = omega arith
sum_le (x ∷ xs) m h = omega (arith, sum_le xs m (λ k. h (suc k)), h 0, sum_by-cons (λ y. y) x xs, suc-mul (length xs) m)

pub run_ends : (plan : Plan) (h : List Event) → Run plan h → length h ≤ bound plan
run_ends plan h r =
    let p = (state plan h).programmes in
    let steps = length plan.steps in
    let z = nodes plan h in
    let b = behind plan h r in
    let next = next_within plan h r in
    let announced = sum_le p.announced steps (λ n. omega (arith, b.announced n, programmed plan h r n, next)) in
    let installed = sum_le p.installed steps (λ n. omega (arith, b.installed n, programmed plan h r n, next)) in
    let one : length p.announced * steps ≡ node_count plan.settings * steps = ap (λ m. m * steps) z.announced in
    let two : length p.installed * steps ≡ node_count plan.settings * steps = ap (λ m. m * steps) z.installed in
    omega (arith, paid plan h r, next, announced, installed, one, two)
