-- Programmes after an operation more, an announcement and an install.
use Rattle.std.proofs.Common.{◌≡◌, ℕ, zero, suc, ◌+◌, ◌-◌, ◌<◌, ◌≤◌, ◌==◌, ◌↔◌, ◌^◌, Bool, true, false, not, cond, IsTrue, List, [], ◌∷◌, ◌++◌, length, get_or, set, take, drop, map, refl, sym, ap, ◌∙◌, subst, arith, replicate}
use Rattle.std.specs.Prelude.{nat_eq}
use Rattle.std.specs.List.{All, count_by}
use Rattle.std.proofs.lemmas.Bool.{eqb-true, eq-eqb, not-false}
use Rattle.std.proofs.lemmas.List.{map-set, get_or-map, length-map, length-append, take-append-le, length-set, take-set, take_all, drop_all, append-nil, get_or-set_other}
use Rattle.std.proofs.lemmas.List.Sums.{sum_by-cons}
use Rattle.std.proofs.lemmas.List.Edits.{map_over_more}
use Rattle.std.proofs.Math.Seq.{map-set_same}
use Rattle.std.proofs.lemmas.List.Elements.{All-nil, All-replicate, All-map, All-weaker, All-head, All-tail, All-more, All-from_get_or}
use Rattle.and_policy.specs.declared.entry.Entry.{Entry}
use Rattle.and_policy.specs.declared.entry.Op.{Op}
use Rattle.and_policy.specs.declared.entry.Op.TheVariants as ops
use Rattle.and_policy.specs.Placements as placements
use Rattle.and_policy.specs.Placements.{ArePlacements}
use Rattle.and_policy.specs.Programmes.{entries, prefix}
use Rattle.and_policy.specs.declared.placements.Placements.{Placements}
use Rattle.and_events.specs.Programming.{Programmes, Logs, Announces, Installs, programmes_after, programme_at, installed_at}
use Rattle.and_kept.specs.Nodes.{Programmed, with_op, with_entry, is_behind, CountsEntries, IsProgrammed, programmes_of, no_programme, node_at, IsProgress}
use Rattle.and_kept.proofs.Counts.{count_none, none_counted}

-- ---- one programme

entries-push : (p : List Op) (e : Entry) → entries (p ++ ops.Entry e ∷ []) ≡ entries p ++ e ∷ []
entries-push [] e = refl
entries-push (ops.Entry x ∷ p) e = ap (λ xs. x ∷ xs) (entries-push p e)
entries-push (ops.Offload o ∷ p) e = entries-push p e

pub entries_short : (p : List Op) → length (entries p) ≤ length p
entries_short [] = omega arith
entries_short (ops.Entry x ∷ p) = omega (arith, entries_short p)
entries_short (ops.Offload o ∷ p) = omega (arith, entries_short p)

pub prefix_push : (p : List Op) (op : Op) (j : ℕ) → j ≤ length p → prefix (p ++ op ∷ []) j ≡ prefix p j
prefix_push p op j h = ap entries (take-append-le j p (op ∷ []) h)

pub counts_more : (n n' : Programmed) (all announced installed capacity : ℕ) (e : Entry) → IsProgrammed n capacity → CountsEntries n all announced installed → n' ≡ with_entry e n → CountsEntries n' (all + 1) announced installed
counts_more n n' all announced installed capacity e is counts same =
    subst (λ m. CountsEntries m (all + 1) announced installed) (sym same)
    (record {
      all_are = omega (arith, counts.all_are, ap length (entries-push n.ops e), length-append (entries n.ops) (e ∷ []));
      announced_are = counts.announced_are ∙ ap length (sym (prefix_push n.ops (ops.Entry e) n.announced is.announced));
      installed_are = counts.installed_are ∙ ap length (sym (prefix_push n.ops (ops.Entry e) n.installed (omega (arith, is.installed, is.announced))));
    })

pub programmed_more : (n n' : Programmed) (op : Op) (capacity capacity' : ℕ) → IsProgrammed n capacity → length n.ops < n.limit → n' ≡ with_op op n → capacity' ≡ capacity → IsProgrammed n' capacity'
programmed_more n n' op capacity capacity' is room same kept =
    let longer = length-append n.ops (op ∷ []) in
    subst (λ m. IsProgrammed m capacity') (sym same)
    (record {
      installed = is.installed;
      announced = omega (arith, is.announced, longer);
      within = omega (arith, longer, room);
      reserved = omega (arith, is.reserved, kept);
      small = is.small;
    })

-- ---- all nodes

pub announces_nodes : (log : List Entry) (nodes nodes' : List Programmed) (i : ℕ) → nodes' ≡ set nodes i (record (node_at nodes i) { announced = length (node_at nodes i).ops }) → programmes_of log nodes' ≡ programmes_after (programmes_of log nodes) (Announces i (length (node_at nodes i).ops))
unfolding programmes_after
announces_nodes log nodes nodes' i is =
    let n = node_at nodes i in
    let new : Programmed = record n { announced = length n.ops } in
    let e1 = map-set_same (λ (m : Programmed). m.ops) nodes i new no_programme refl in
    let e2 = map-set (λ (m : Programmed). m.announced) nodes i new in
    let e3 = map-set_same (λ (m : Programmed). m.installed) nodes i new no_programme refl in
    ap (programmes_of log) is ∙ cc (e1, e2, e3)

pub installs_nodes : (log : List Entry) (nodes nodes' : List Programmed) (i : ℕ) → nodes' ≡ set nodes i (record (node_at nodes i) { installed = (node_at nodes i).announced }) → programmes_of log nodes' ≡ programmes_after (programmes_of log nodes) (Installs i (node_at nodes i).announced)
unfolding programmes_after
installs_nodes log nodes nodes' i is =
    let n = node_at nodes i in
    let new : Programmed = record n { installed = n.announced } in
    let e1 = map-set_same (λ (m : Programmed). m.ops) nodes i new no_programme refl in
    let e2 = map-set_same (λ (m : Programmed). m.announced) nodes i new no_programme refl in
    let e3 = map-set (λ (m : Programmed). m.installed) nodes i new in
    ap (programmes_of log) is ∙ cc (e1, e2, e3)

not_behind : (n : Programmed) → is_behind n ≡ false → n.installed ≡ length n.ops
not_behind n e = eqb-true n.installed (length n.ops) (not-false (n.installed == length n.ops) e)

up_to_date : (n : Programmed) → n.installed ≡ length n.ops → is_behind n ≡ false
up_to_date n e = ap not (eq-eqb n.installed (length n.ops) e)

pub ops_at : (nodes : List Programmed) (i : ℕ) → i < length nodes → get_or (map (λ n. n.ops) nodes) i [] ≡ (node_at nodes i).ops
ops_at nodes i h = get_or-map (λ (n : Programmed). n.ops) nodes i no_programme [] h

pub installed_there : (nodes : List Programmed) (i : ℕ) → i < length nodes → get_or (map (λ n. n.installed) nodes) i 0 ≡ (node_at nodes i).installed
installed_there nodes i h = get_or-map (λ (n : Programmed). n.installed) nodes i no_programme 0 h

-- none is behind exactly where each has installed its whole programme
pub none_behind : (log : List Entry) (nodes : List Programmed) (count : ℕ) (p : Programmes) → programmes_of log nodes ≡ p → count ≡ count_by is_behind nodes →
    IsTrue (nat_eq count 0) ↔ ((n : ℕ) → n < length p.ops → installed_at p n ≡ length (programme_at p n))
none_behind log nodes count p view counted =
    subst (λ (q : Programmes). IsTrue (nat_eq count 0) ↔ ((n : ℕ) → n < length q.ops → installed_at q n ≡ length (programme_at q n))) view (
      (λ t n h.
          let there : n < length nodes = omega (arith, h, length-map nodes (λ (m : Programmed). m.ops)) in
          installed_there nodes n there
          ∙ (not_behind (node_at nodes n) (count_none is_behind nodes (sym counted ∙ eqb-true count 0 t) n no_programme there)
          ∙ ap length (sym (ops_at nodes n there)))),
      (λ all. eq-eqb count 0
          (counted
          ∙ none_counted is_behind nodes
          (All-from_get_or (λ (m : Programmed). is_behind m ≡ false) nodes no_programme
          (λ n there. up_to_date (node_at nodes n)
          (sym (installed_there nodes n there)
          ∙ (all n (omega (arith, there, length-map nodes (λ (m : Programmed). m.ops))) ∙ ap length (ops_at nodes n there))))))),
    )

pub all_counted : {X : Type 0} (p : X → Bool) (xs : List X) → All (λ x. p x ≡ true) xs → count_by p xs ≡ length xs
all_counted {X} p [] all = refl
all_counted {X} p (x ∷ xs) all =
    let c = sum_by-cons (λ y. cond (p y) 1 0) x xs in
    let f : Bool → ℕ = λ b. cond b 1 0 in
    let first : f (p x) ≡ 1 = ap f (All-head (λ y. p y ≡ true) x xs all) in
    let rest = all_counted p xs (All-tail (λ y. p y ≡ true) x xs all) in
    omega (arith, c, first, rest)

-- ---- an entry more at each node

room_more : (e : Entry) (limit n : ℕ) (m : Programmed) → n < limit → length m.ops + (limit - n) ≤ m.limit → length (with_entry e m).ops + (limit - (n + 1)) ≤ m.limit
room_more e limit n m h room = omega (arith, h, room, length-append m.ops (ops.Entry e ∷ []))

pub has_room : (log : List Entry) (nodes : List Programmed) (limit : ℕ) → length log < limit → All (λ n. length n.ops + (limit - length log) ≤ n.limit) nodes → All (λ n. length n.ops < n.limit) nodes
has_room log nodes limit h rooms =
    All-weaker (λ (n : Programmed). length n.ops + (limit - length log) ≤ n.limit) (λ n. length n.ops < n.limit) (λ n r. omega (arith, h, r)) nodes rooms

-- the placements have room for one entry where the log has
pub room_for : (limit : ℕ) (log : List Entry) (p : Placements) → length log < limit → placements.HasRoom (limit - length log) p → placements.HasRoom 1 p
room_for limit log p h room = record { additions = omega (arith, h, room.additions); hosts = omega (arith, h, room.hosts) }

pub progress_more : (log log' : List Entry) (nodes nodes' : List Programmed) (p p' : Placements) (e : Entry) (count count' limit capacity capacity' : ℕ) → IsProgress log nodes p count limit capacity → length log < limit → log' ≡ log ++ e ∷ [] → nodes' ≡ map (with_entry e) nodes → All (λ n. is_behind n ≡ true) nodes' → count' ≡ length nodes' → capacity' ≡ capacity → ArePlacements p' (log ++ e ∷ []) → ((n : ℕ) → placements.HasRoom (n + 1) p → placements.HasRoom n p') → IsProgress log' nodes' p' count' limit capacity'
progress_more log log' nodes nodes' p p' e count count' limit capacity capacity' is h longer all behind counted same placed less =
    let long : length log' ≡ length log + 1 = omega (arith, ap length longer, length-append log (e ∷ [])) in
    record {
      behind = counted ∙ sym (all_counted is_behind nodes' behind);
      rooms = subst (λ ns. All (λ (n : Programmed). length n.ops + (limit - length log') ≤ n.limit) ns) (sym all)
          (All-map (λ (n : Programmed). length n.ops + (limit - length log') ≤ n.limit) (with_entry e) nodes
          (All-weaker (λ (n : Programmed). length n.ops + (limit - length log) ≤ n.limit) (λ n. length (with_entry e n).ops + (limit - length log') ≤ n.limit)
          (λ n r. subst (λ k. length (with_entry e n).ops + (limit - k) ≤ n.limit) (sym long) (room_more e limit (length log) n h r)) nodes is.rooms));
      placed = subst (ArePlacements p') (sym longer) placed;
      room = less (limit - length log') (subst (λ n. placements.HasRoom n p) (omega (arith, long, h)) is.room);
      logged = omega (arith, long, h);
      reserved = omega (arith, is.reserved, same);
      small = is.small;
    }

map_twice : {X Y Z : Type 0} (f : X → Y) (g : Y → Z) (xs : List X) → map g (map f xs) ≡ map (λ x. g (f x)) xs
map_twice f g [] = refl
map_twice f g (x ∷ xs) = ap (λ zs. g (f x) ∷ zs) (map_twice f g xs)

pub logs_nodes : (log log' : List Entry) (nodes nodes' : List Programmed) (e : Entry) → log' ≡ log ++ e ∷ [] → nodes' ≡ map (with_entry e) nodes → programmes_of log' nodes' ≡ programmes_after (programmes_of log nodes) (Logs e)
unfolding programmes_after
logs_nodes log log' nodes nodes' e longer all =
    let a1 = map_twice (with_entry e) (λ (n : Programmed). n.ops) nodes in
    let a2 = map_twice (λ (n : Programmed). n.ops) (λ programme. programme ++ ops.Entry e ∷ []) nodes in
    let a3 = map_twice (with_entry e) (λ (n : Programmed). n.announced) nodes in
    let a4 = map_twice (with_entry e) (λ (n : Programmed). n.installed) nodes in
    let ops_are = a1 ∙ sym a2 in
    ap (λ l. programmes_of l nodes') longer ∙ (ap (programmes_of (log ++ e ∷ [])) all ∙ cc (ops_are, a3, a4))

-- the first i have the entry
pub record HaveEntry (e : Entry) (before nodes : List Programmed) (i : ℕ) : Type 0 where
  pub nodes_are : nodes ≡ map (with_entry e) (take i before) ++ drop i before
  pub behind : All (λ n. is_behind n ≡ true) (take i nodes)
  pub same : length nodes ≡ length before
  pub later : (k : ℕ) → i ≤ k → node_at nodes k ≡ node_at before k

pub in_range_same : {X : Type 0} (xs : List X) (i : ℕ) (d f : X) → i < length xs → get_or xs i d ≡ get_or xs i f
in_range_same [] i d f h = absurd (omega (arith, h))
in_range_same (x ∷ xs) zero d f h = refl
in_range_same (x ∷ xs) (suc i) d f h = in_range_same xs i d f (omega (arith, h))

pub have_more : (e : Entry) (before nodes nodes' : List Programmed) (i : ℕ) → i < length before → HaveEntry e before nodes i → nodes' ≡ set nodes i (with_entry e (node_at nodes i)) → is_behind (node_at nodes' i) ≡ true → HaveEntry e before nodes' (i + 1)
have_more e before nodes nodes' i h have is late =
    let new = with_entry e (node_at nodes i) in
    let long : length nodes' ≡ length before = ap length is ∙ (length-set nodes i new ∙ have.same) in
    let front : take i nodes' ≡ take i nodes = ap (take i) is ∙ take-set nodes i new in
    record {
      nodes_are = is ∙ map_over_more (with_entry e) before nodes i (node_at nodes i) h have.nodes_are (in_range_same nodes i no_programme (node_at nodes i) (omega (arith, h, have.same)));
      behind = All-more (λ n. is_behind n ≡ true) nodes' i no_programme (omega (arith, h, long)) (subst (All (λ n. is_behind n ≡ true)) (sym front) have.behind) late;
      same = long;
      later = λ k l. ap (λ ns. node_at ns k) is ∙ (get_or-set_other nodes i k new no_programme (λ q. omega (arith, l, q)) ∙ have.later k (omega (arith, l)));
    }

pub have_none : (e : Entry) (nodes : List Programmed) → HaveEntry e nodes nodes 0
have_none e nodes = record { nodes_are = refl; behind = All-nil (λ n. is_behind n ≡ true); same = refl; later = λ k l. refl }

pub have_all : (e : Entry) (before nodes : List Programmed) (i : ℕ) → i ≡ length before → HaveEntry e before nodes i → (nodes ≡ map (with_entry e) before) × All (λ n. is_behind n ≡ true) nodes
have_all e before nodes i end have =
    let f = with_entry e in
    let whole : nodes ≡ map f before =
    have.nodes_are
    ∙ (ap (λ xs. map f (take i before) ++ xs) (drop_all i before (omega (arith, end)))
    ∙ (append-nil (map f (take i before)) ∙ ap (map f) (take_all i before (omega (arith, end))))) in
    (whole, subst (All (λ n. is_behind n ≡ true)) (take_all i nodes (omega (arith, end, have.same))) have.behind)

pub room_there : (e : Entry) (before nodes : List Programmed) (i : ℕ) → i < length before → HaveEntry e before nodes i → All (λ n. length n.ops < n.limit) before → length (node_at nodes i).ops < (node_at nodes i).limit
room_there e before nodes i h have rooms =
    subst (λ (n : Programmed). length n.ops < n.limit) (sym (have.later i (omega arith))) (rooms i no_programme h)

-- ---- the start

abbrev pub new_programme : ℕ → Programmed
new_programme limit = record { ops = []; announced = 0; installed = 0; limit = limit }

pub progress_start : (log : List Entry) (nodes : List Programmed) (p : Placements) (count limit capacity : ℕ) → log ≡ [] → nodes ≡ replicate count (new_programme limit) → ArePlacements p [] → placements.HasRoom limit p → limit ≤ capacity → limit < 2 ^ 32 → IsProgress log nodes p 0 limit capacity
progress_start log nodes p count limit capacity none all placed room reserved small =
    let new = new_programme limit in
    subst (λ l. IsProgress l nodes p 0 limit capacity) (sym none)
    (subst (λ ns. IsProgress [] ns p 0 limit capacity) (sym all)
    (record {
      behind = sym (none_counted is_behind (replicate count new) (All-replicate (λ n. is_behind n ≡ false) count new refl));
      rooms = All-replicate (λ (n : Programmed). length n.ops + (limit - 0) ≤ n.limit) count new (omega arith);
      placed = placed;
      room = subst (λ n. placements.HasRoom n p) (omega arith) room;
      logged = omega arith;
      reserved = reserved;
      small = small;
    }))

map_same : {X Y : Type 0} (f : X → Y) (n : ℕ) (x : X) → map f (replicate n x) ≡ replicate n (f x)
map_same f zero x = refl
map_same f (suc n) x = ap (λ ys. f x ∷ ys) (map_same f n x)

pub programmes_start : (log : List Entry) (nodes : List Programmed) (count limit : ℕ) → log ≡ [] → nodes ≡ replicate count (new_programme limit) → programmes_of log nodes ≡ record { log = []; ops = replicate count []; announced = replicate count 0; installed = replicate count 0 }
programmes_start log nodes count limit none all =
    let new = new_programme limit in
    let a1 = map_same (λ (n : Programmed). n.ops) count new in
    let a2 = map_same (λ (n : Programmed). n.announced) count new in
    let a3 = map_same (λ (n : Programmed). n.installed) count new in
    ap (λ l. programmes_of l nodes) none ∙ (ap (programmes_of []) all ∙ cc (a1, a2, a3))
