-- The least of what the nodes have installed, after one of them has installed more.
use Rattle.std.proofs.Common.{◌≡◌, ℕ, zero, suc, ◌+◌, ◌<◌, ◌≤◌, ◌==◌, ◌||◌, Bool, true, false, cond, List, [], ◌∷◌, length, get_or, set, take, refl, sym, ap, ◌∙◌, subst, arith, replicate}
use Rattle.std.specs.List.{All, count_by, list_any}
use Rattle.std.proofs.lemmas.Bool.{eqb-true, eq-eqb}
use Rattle.std.proofs.lemmas.List.{length-map, length-set, length-replicate, set-get_or, get_or-map, take_all}
use Rattle.std.proofs.lemmas.List.Folds.{list_any_at}
use Rattle.std.proofs.lemmas.List.Sums.{sum_by-cons}
use Rattle.std.proofs.lemmas.List.Elements.{All-set, All-more, All-weaker}
use Rattle.and_policy.specs.declared.entry.Entry.{Entry}
use Rattle.and_policy.specs.declared.entry.Op.{Op}
use Rattle.and_policy.specs.declared.entry.Op.TheVariants as ops
use Rattle.and_policy.specs.Programmes.{prefix}
use Rattle.and_events.specs.Programming.{Programmes, programme_at, installed_at, entries_installed}
use Rattle.and_pins.specs.Pinned.{IsLeast}
use Rattle.and_kept.specs.Nodes.{Programmed, programmes_of, no_programme, node_at, height, heights, IsFloor}
use Rattle.and_kept.proofs.Counts.{count_set}
use Rattle.and_kept.proofs.NodesLemmas.{in_range_same, ops_at, installed_there}

-- ---- more installed is no fewer entries

pub prefix_longer : (p : List Op) (i j : ℕ) → i ≤ j → length (prefix p i) ≤ length (prefix p j)
prefix_longer [] zero j l = omega arith
prefix_longer [] (suc i) zero l = absurd (omega (arith, l))
prefix_longer [] (suc i) (suc j) l = omega arith
prefix_longer (op ∷ p) zero j l = omega arith
prefix_longer (op ∷ p) (suc i) zero l = absurd (omega (arith, l))
prefix_longer (ops.Entry e ∷ p) (suc i) (suc j) l = omega (arith, prefix_longer p i j (omega (arith, l)))
prefix_longer (ops.Offload o ∷ p) (suc i) (suc j) l = prefix_longer p i j (omega (arith, l))

-- ---- the floor

abbrev mark : Bool → ℕ
mark b = cond b 1 0

is_one : (n least : ℕ) → n ≡ least → mark (n == least) ≡ 1
is_one n least e = ap mark (eq-eqb n least e)

is_none : (n least : ℕ) → least < n → mark (n == least) ≡ 0
is_none n least l = by (n == least) refl
  where
    by : (b : Bool) → (n == least) ≡ b → mark b ≡ 0
    by true e = absurd (omega (arith, eqb-true n least e, l))
    by false e = refl

module _ (old : List ℕ) (at before after least count : ℕ) (there : at < length old) (was : before ≡ get_or old at 0) (up : before ≤ after) (floor : IsFloor old least count) where
  above : least ≤ before
  above = subst (λ n. least ≤ n) (sym was) (floor.below at 0 there)

  below_after : All (λ n. least ≤ n) (set old at after)
  below_after = All-set (λ n. least ≤ n) old at after (omega (arith, above, up)) floor.below

  counted : count_by (λ n. n == least) (set old at after) + mark (before == least) ≡ count + mark (after == least)
  counted =
      let c = count_set (λ n. n == least) old at after 0 there in
      let same : mark (before == least) ≡ mark (get_or old at 0 == least) = ap (λ n. mark (n == least)) was in
      omega (arith, c, same, floor.count)

  some_left : length old ≡ length (set old at after)
  some_left = sym (length-set old at after)

  pub stays_above : least < before → IsFloor (set old at after) least count
  stays_above l =
      let gone = is_none before least l in
      let new = is_none after least (omega (arith, l, up)) in
      record {
        below = below_after;
        count = omega (arith, counted, gone, new);
        some = λ s. floor.some (omega (arith, s, some_left));
      }

  pub stays_same : after ≡ before → IsFloor (set old at after) least count
  stays_same e =
      let same : set old at after ≡ old = ap (set old at) (e ∙ was) ∙ set-get_or old at 0 in
      subst (λ hs. IsFloor hs least count) (sym same) floor

  pub one_less : before ≤ least → before < after → 1 < count → (rest : ℕ) → rest + 1 ≡ count → IsFloor (set old at after) least rest
  one_less l more many rest is =
      let gone = is_one before least (omega (arith, l, above)) in
      let new = is_none after least (omega (arith, more, l, above)) in
      record {
        below = below_after;
        count = omega (arith, counted, gone, new, is);
        some = λ s. omega (arith, many, is);
      }

-- ---- found anew

-- the height of the node at a place
pub height_at_place : (nodes : List Programmed) (i : ℕ) (m : Programmed) → i < length nodes → m ≡ get_or nodes i m → height m ≡ get_or (heights nodes) i 0
height_at_place nodes i m l e = ap height (e ∙ in_range_same nodes i m no_programme l) ∙ sym (get_or-map height nodes i no_programme 0 l)

-- the least of the first heights, which is one of all
pub record IsLeastOf (hs : List ℕ) (i least : ℕ) : Type 0 where
  pub below : All (λ n. least ≤ n) (take i hs)
  pub there : list_any (λ n. n == least) hs ≡ true

pub least_none : (hs : List ℕ) (first : ℕ) → 0 < length hs → first ≡ get_or hs 0 0 → IsLeastOf hs 0 first
least_none hs first some e = record {
  below = λ i d l. absurd (omega (arith, l));
  there = list_any_at (λ n. n == first) hs 0 0 some (eq-eqb (get_or hs 0 0) first (sym e));
}

pub least_lower : (hs : List ℕ) (i least x : ℕ) → i < length hs → x ≡ get_or hs i 0 → x < least → IsLeastOf hs i least → IsLeastOf hs (i + 1) x
least_lower hs i least x l e low is = record {
  below = All-more (λ n. x ≤ n) hs i 0 l (All-weaker (λ n. least ≤ n) (λ n. x ≤ n) (λ n h. omega (arith, h, low)) (take i hs) is.below) (omega (arith, e));
  there = list_any_at (λ n. n == x) hs i 0 l (eq-eqb (get_or hs i 0) x (sym e));
}

pub least_kept : (hs : List ℕ) (i least x : ℕ) → i < length hs → x ≡ get_or hs i 0 → least ≤ x → IsLeastOf hs i least → IsLeastOf hs (i + 1) least
least_kept hs i least x l e low is = record {
  below = All-more (λ n. least ≤ n) hs i 0 l is.below (omega (arith, e, low));
  there = is.there;
}

pub least_all : (hs : List ℕ) (i least : ℕ) → length hs ≤ i → IsLeastOf hs i least → All (λ n. least ≤ n) hs
least_all hs i least end is = subst (All (λ n. least ≤ n)) (take_all i hs end) is.below

some_with : (p : ℕ → Bool) (x : ℕ) (xs : List ℕ) (b : Bool) → p x ≡ b → list_any p (x ∷ xs) ≡ true → (list_any p xs ≡ true → 0 < count_by p xs) → 0 < count_by p (x ∷ xs)
some_with p x xs true is e rest =
    let c = sum_by-cons (λ y. mark (p y)) x xs in
    let one : mark (p x) ≡ 1 = ap mark is in omega (arith, c, one)
some_with p x xs false is e rest =
    let c = sum_by-cons (λ y. mark (p y)) x xs in
    let later : list_any p xs ≡ true = subst (λ b. (b || list_any p xs) ≡ true) is e in omega (arith, c, rest later)

pub some_counted : (p : ℕ → Bool) (xs : List ℕ) → list_any p xs ≡ true → 0 < count_by p xs
some_counted p [] e = absurd (cc)
some_counted p (x ∷ xs) e = some_with p x xs (p x) refl e (some_counted p xs)

pub found : (hs : List ℕ) (least count : ℕ) → All (λ n. least ≤ n) hs → list_any (λ n. n == least) hs ≡ true → count ≡ count_by (λ n. n == least) hs → IsFloor hs least count
found hs least count below there is =
    record {
      below = below;
      count = is;
      some = λ s. omega (arith, is, some_counted (λ n. n == least) hs there);
    }

-- ---- what it says of the nodes

-- an index at which a counted one stands
abbrev OneAt : (ℕ → Bool) → List ℕ → Type 0
OneAt p xs = (i : ℕ) × (i < length xs) × (p (get_or xs i 0) ≡ true)

one_with : (p : ℕ → Bool) (x : ℕ) (xs : List ℕ) (b : Bool) → p x ≡ b → 0 < count_by p (x ∷ xs) → (0 < count_by p xs → OneAt p xs) → OneAt p (x ∷ xs)
one_with p x xs true is s rest = (0, omega arith, is)
one_with p x xs false is s rest =
    let c = sum_by-cons (λ y. mark (p y)) x xs in
    let none : mark (p x) ≡ 0 = ap mark is in
    let (i, l, e) = rest (omega (arith, s, c, none)) in
    (suc i, omega (arith, l), e)

at_one : (p : ℕ → Bool) (xs : List ℕ) → 0 < count_by p xs → OneAt p xs
at_one p [] s = absurd (omega (arith, s))
at_one p (x ∷ xs) s = one_with p x xs (p x) refl s (at_one p xs)

module _ (log : List Entry) (nodes : List Programmed) where
  abbrev p : Programmes
  p = programmes_of log nodes

  height_is : (n : ℕ) → n < length nodes → entries_installed p n ≡ get_or (heights nodes) n 0
  height_is n l =
      let a : prefix (programme_at p n) (installed_at p n) ≡ prefix (node_at nodes n).ops (node_at nodes n).installed =
      ap (λ xs. prefix xs (installed_at p n)) (ops_at nodes n l) ∙ ap (prefix (node_at nodes n).ops) (installed_there nodes n l) in
      ap length a ∙ sym (get_or-map height nodes n no_programme 0 l)

  least_here : (least count : ℕ) → IsFloor (heights nodes) least count → 0 < length p.ops → IsLeast p least
  least_here least count floor some q = (
    (λ l n there.
        let within : n < length nodes = omega (arith, there, length-map nodes (λ (m : Programmed). m.ops)) in
        let high = floor.below n 0 (omega (arith, within, length-map nodes height)) in
        omega (arith, l, high, height_is n within)),
    (λ all.
        let has : 0 < length (heights nodes) = omega (arith, some, length-map nodes (λ (m : Programmed). m.ops), length-map nodes height) in
        let (n, within, e) = at_one (λ m. m == least) (heights nodes) (omega (arith, floor.some has, floor.count)) in
        let node : n < length nodes = omega (arith, within, length-map nodes height) in
        let installed = all n (omega (arith, node, length-map nodes (λ (m : Programmed). m.ops))) in
        omega (arith, installed, height_is n node, eqb-true (get_or (heights nodes) n 0) least e)),
  )

pub least_is : (log : List Entry) (nodes : List Programmed) (least count : ℕ) (p : Programmes) → programmes_of log nodes ≡ p → IsFloor (heights nodes) least count → 0 < length p.ops → IsLeast p least
least_is log nodes least count p view floor =
    subst (λ (q : Programmes). 0 < length q.ops → IsLeast q least) view (least_here log nodes least count floor)

-- ---- heights

pub height_there : (nodes : List Programmed) (i : ℕ) (m : Programmed) → i < length nodes → m ≡ get_or nodes i m → height m ≡ height (node_at nodes i)
height_there nodes i m l e = ap height (e ∙ in_range_same nodes i m no_programme l)

pub replicated : (n : ℕ) (x : Programmed) → height x ≡ 0 → IsFloor (heights (replicate n x)) 0 n
replicated n x e = record {
  below = λ i d l. omega arith;
  count = sym (all_zero n);
  some = λ s. omega (arith, s, length-map (replicate n x) height, length-replicate n x);
}
  where
    all_zero : (k : ℕ) → count_by (λ m. m == 0) (heights (replicate k x)) ≡ k
    all_zero zero = refl
    all_zero (suc k) =
        let c = sum_by-cons (λ m. mark (m == 0)) (height x) (heights (replicate k x)) in
        let one = is_one (height x) 0 e in
        omega (arith, c, one, all_zero k)
