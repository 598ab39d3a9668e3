-- Where installs are held at a host, it has installed the VMs that have a port there; and each hairpin's entry is in the log.
use Rattle.std.proofs.Common.{◌≡◌, ℕ, zero, suc, ◌+◌, ◌<◌, ◌≤◌, Bool, true, false, cond, List, [], ◌∷◌, ◌++◌, length, get_or, set, map, refl, sym, ap, ◌∙◌, subst, arith, Option, Some, None}
use Rattle.std.specs.Prelude.{option_map, position}
use Rattle.std.specs.List.{position_from}
use Rattle.std.proofs.lemmas.List.{get_or-map, take-append-le, append-nil, append_assoc}
use Rattle.std.proofs.lemmas.Iterator.Adapters.{position_from-zero}
use Rattle.and_policy.specs.declared.entry.Entry.{Entry}
use Rattle.and_policy.specs.declared.entry.Op.{Op}
use Rattle.and_policy.specs.declared.entry.Op.TheVariants as ops
use Rattle.and_policy.specs.Programmes.{entries, prefix, adds, added_at}
use Rattle.and_events.specs.declared.event.Given.{Given}
use Rattle.and_events.specs.Programming.{Programmes, Word, Quiet, Logs, Orders, Announces, Installs, programme_at, installed_at, with_orders, programmes_after, entries_installed, HasInstalled}
use Rattle.and_laws.proofs.Needed.{Raises}
use Rattle.and_laws.proofs.Rows.{set_at}

-- ---- what a node has installed stays installed

-- the node has installed the entry that adds the VM
abbrev pub KnowsIn : Programmes → ℕ → ℕ → Type 0
KnowsIn p n vm = (q : ℕ) × (added_at p.log vm ≡ Some q) × HasInstalled p n q

found_stays : (t : Entry → Bool) (xs ys : List Entry) (i j : ℕ) → position_from t i xs ≡ Some j → position_from t i (xs ++ ys) ≡ Some j
found_stays t [] ys i j e = absurd (cc)
found_stays t (x ∷ xs) ys i j e = step (t x) e (λ f. found_stays t xs ys (i + 1) j f)
  where
    step : (b : Bool) → cond b (Some i) (position_from t (i + 1) xs) ≡ Some j → (position_from t (i + 1) xs ≡ Some j → position_from t (i + 1) (xs ++ ys) ≡ Some j) → cond b (Some i) (position_from t (i + 1) (xs ++ ys)) ≡ Some j
    step true f later = f
    step false f later = later f

added_stays : (k : List Entry) (e : Entry) (vm q : ℕ) → added_at k vm ≡ Some q → added_at (k ++ e ∷ []) vm ≡ Some q
added_stays k e vm q is = stays (position (adds vm) k) refl is
  where
    stays : (o : Option ℕ) → position (adds vm) k ≡ o → option_map suc o ≡ Some q → option_map suc (position (adds vm) (k ++ e ∷ [])) ≡ Some q
    stays None there told = absurd (cc)
    stays (Some j) there told =
        let now : position_from (adds vm) 0 (k ++ e ∷ []) ≡ Some j = found_stays (adds vm) k (e ∷ []) 0 j (sym (position_from-zero (adds vm) k) ∙ there) in
        ap (option_map suc) (position_from-zero (adds vm) (k ++ e ∷ []) ∙ now) ∙ told

more_entries : (xs : List Op) (m n : ℕ) → m ≤ n → length (prefix xs m) ≤ length (prefix xs n)
more_entries [] m n l = omega (arith, none_taken m)
  where
    none_taken : (m : ℕ) → length (prefix [] m) ≡ 0
    none_taken zero = refl
    none_taken (suc m) = refl
more_entries (x ∷ xs) zero n l = omega arith
more_entries (x ∷ xs) (suc m) zero l = absurd (omega (arith, l))
more_entries (ops.Entry e ∷ xs) (suc m) (suc n) l = omega (arith, more_entries xs m n (omega (arith, l)))
more_entries (ops.Offload o ∷ xs) (suc m) (suc n) l = more_entries xs m n (omega (arith, l))

-- orders come at the ends of programmes
record Longer (before after : List Op) : Type 0 where
  pub more : List Op
  pub is : after ≡ before ++ more

longer_at : (programmes : List (List Op)) (host n : ℕ) (o : Op) → Longer (get_or programmes n []) (get_or (set programmes host (get_or programmes host [] ++ o ∷ [])) n [])
longer_at programmes host n o =
    let empty : List Op = [] in
    set_at programmes host n (get_or programmes host [] ++ o ∷ []) empty (Longer (get_or programmes n [])) (record { more = []; is = sym (append-nil (get_or programmes n [])) })
    (λ is. subst (λ m. Longer (get_or programmes m []) (get_or programmes host [] ++ o ∷ [])) is (record { more = o ∷ []; is = refl }))

longer : (os : List Given) (programmes : List (List Op)) (n : ℕ) → Longer (get_or programmes n []) (get_or (with_orders programmes os) n [])
longer [] programmes n = record { more = []; is = sym (append-nil (get_or programmes n [])) }
longer (g ∷ os) programmes n =
    let now = longer_at programmes g.host n (ops.Offload g.order) in
    let later = longer os (set programmes g.host (get_or programmes g.host [] ++ ops.Offload g.order ∷ [])) n in
    record { more = now.more ++ later.more; is = later.is ∙ ap (λ xs. xs ++ later.more) now.is ∙ append_assoc (get_or programmes n []) now.more later.more }

still_installed : (xs ys : List Op) (k : ℕ) → k ≤ length xs → length (prefix (xs ++ ys) k) ≡ length (prefix xs k)
still_installed xs ys k l = ap (λ zs. length (entries zs)) (take-append-le k xs ys l)

pub knows_after : (p : Programmes) (w : Word) (n vm : ℕ) → n < length p.ops → installed_at p n ≤ length (programme_at p n) → Raises p w → KnowsIn p n vm → KnowsIn (programmes_after p w) n vm
unfolding programmes_after
knows_after p Quiet n vm there short more k = k
knows_after p (Logs e) n vm there short more (q, is, has) =
    let grown = get_or-map (λ xs. xs ++ ops.Entry e ∷ []) p.ops n [] [] there in
    let same : length (prefix (get_or (map (λ xs. xs ++ ops.Entry e ∷ []) p.ops) n []) (installed_at p n)) ≡ entries_installed p n =
    ap (λ xs. length (prefix xs (installed_at p n))) grown ∙ still_installed (programme_at p n) (ops.Entry e ∷ []) (installed_at p n) short in
    (q, added_stays p.log e vm q is, omega (arith, has, same))
knows_after p (Orders os) n vm there short more (q, is, has) =
    let grown = longer os p.ops n in
    let same : length (prefix (get_or (with_orders p.ops os) n []) (installed_at p n)) ≡ entries_installed p n =
    ap (λ xs. length (prefix xs (installed_at p n))) grown.is ∙ still_installed (programme_at p n) grown.more (installed_at p n) short in
    (q, is, omega (arith, has, same))
knows_after p (Announces m upto) n vm there short more k = k
knows_after p (Installs m upto) n vm there short more (q, is, has) =
    let at_least : entries_installed p n ≤ length (prefix (programme_at p n) (get_or (set p.installed m upto) n 0)) =
    set_at p.installed m n upto 0 (λ x. entries_installed p n ≤ length (prefix (programme_at p n) x)) (omega arith)
    (λ e. more_entries (programme_at p n) (installed_at p n) upto (omega (arith, more, ap (installed_at p) e))) in
    (q, is, omega (arith, has, at_least))
