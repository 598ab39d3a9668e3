-- Queues after a parcel more, and after the first one is gone.
use Rattle.std.proofs.Common.{◌≡◌, ℕ, ◌+◌, ◌-◌, ◌<◌, ◌≤◌, ◌↔◌, Bool, true, false, cond, IsTrue, List, [], ◌∷◌, ◌++◌, length, get_or, set, drop, map, refl, sym, ap, ◌∙◌, subst, arith, replicate, ⊎_elim, Some}
use Rattle.std.specs.Prelude.{nat_lt, nat_eq, slice_get, slice_index}
use Rattle.std.specs.List.{All, count_by}
use Rattle.std.proofs.lemmas.Bool.{ltb-false, lt-ltb, eqb-true, eq-eqb, cases_lt}
use Rattle.std.proofs.lemmas.List.{map-append, map-set, set-get_or, get_or-map, get_or-set_same, length-map, drop-map, length-append, get_or_push, get_or_append_left}
use Rattle.std.proofs.lemmas.List.Elements.{All-set, All-map, All-weaker, All-head, All-tail, All-push}
use Rattle.and_parcel.specs.Parcels.{ParcelView, QueueView}
use Rattle.and_events.specs.declared.plan.Settings.{Settings}
use Rattle.and_events.specs.Places.{capacity_at}
use Rattle.and_events.specs.Flow.{queue_at, pushed, popped}
use Rattle.and_kept.specs.Lanes.{Lanes, lanes_of, numbers_in, AreEmpty, no_queue, queue_of, grown, shrunk, parcels_at, with_parcel, without_first, has_parcels, IsCounted}
use Rattle.and_kept.proofs.Counts.{count_set, count_none, none_counted}

packet : ParcelView → ℕ
packet p = p.packet

-- ---- what is read at a place

numbers_at : (qs : List QueueView) (i : ℕ) → i < length qs → queue_at (map numbers_in qs) i ≡ numbers_in (queue_of qs i)
numbers_at qs i h = get_or-map numbers_in qs i no_queue [] h

parcels_there : (qs : List QueueView) (i : ℕ) → i < length qs → parcels_at (map (λ q. q.parcels) qs) i ≡ (queue_of qs i).parcels
parcels_there qs i h = get_or-map (λ (q : QueueView). q.parcels) qs i no_queue [] h

capacity_there : (qs : List QueueView) (i : ℕ) → i < length qs → slice_index (map (λ q. q.capacity) qs) i ≡ (queue_of qs i).capacity
capacity_there qs i h = get_or-map (λ (q : QueueView). q.capacity) qs i no_queue 0 h

-- ---- one more

numbers_set : (qs : List QueueView) (i : ℕ) (p : ParcelView) → i < length qs → map numbers_in (set qs i (grown (queue_of qs i) p)) ≡ pushed (map numbers_in qs) i p.packet
numbers_set qs i p h =
    let q = queue_of qs i in
    let e : numbers_in (grown q p) ≡ queue_at (map numbers_in qs) i ++ p.packet ∷ [] =
    map-append (λ (x : ParcelView). x.packet) q.parcels (p ∷ []) ∙ ap (λ xs. xs ++ p.packet ∷ []) (sym (numbers_at qs i h)) in
    map-set numbers_in qs i (grown q p) ∙ ap (set (map numbers_in qs) i) e

parcels_set : (qs : List QueueView) (i : ℕ) (p : ParcelView) → i < length qs → map (λ q. q.parcels) (set qs i (grown (queue_of qs i) p)) ≡ with_parcel (map (λ q. q.parcels) qs) i p
parcels_set qs i p h =
    map-set (λ (q : QueueView). q.parcels) qs i (grown (queue_of qs i) p)
    ∙ ap (λ xs. set (map (λ (q : QueueView). q.parcels) qs) i (xs ++ p ∷ [])) (sym (parcels_there qs i h))

capacities_set : (qs : List QueueView) (i : ℕ) (new : QueueView) → i < length qs → new.capacity ≡ (queue_of qs i).capacity → map (λ q. q.capacity) (set qs i new) ≡ map (λ q. q.capacity) qs
capacities_set qs i new h e =
    let cs = map (λ (q : QueueView). q.capacity) qs in
    map-set (λ (q : QueueView). q.capacity) qs i new ∙ (ap (set cs i) (e ∙ sym (capacity_there qs i h)) ∙ set-get_or cs i 0)

pub numbers_pushed : (qs qs' : List QueueView) (i : ℕ) (p : ParcelView) (v : Lanes) → lanes_of qs ≡ v → i < length qs → qs' ≡ set qs i (grown (queue_of qs i) p) → map numbers_in qs' ≡ pushed v.numbers i p.packet
numbers_pushed qs qs' i p v view h is =
    subst (λ (w : Lanes). map numbers_in qs' ≡ pushed w.numbers i p.packet) view (ap (map numbers_in) is ∙ numbers_set qs i p h)

pub parcels_pushed : (qs qs' : List QueueView) (i : ℕ) (p : ParcelView) (v : Lanes) → lanes_of qs ≡ v → i < length qs → qs' ≡ set qs i (grown (queue_of qs i) p) → map (λ q. q.parcels) qs' ≡ with_parcel v.parcels i p
parcels_pushed qs qs' i p v view h is =
    subst (λ (w : Lanes). map (λ (q : QueueView). q.parcels) qs' ≡ with_parcel w.parcels i p) view (ap (map (λ (q : QueueView). q.parcels)) is ∙ parcels_set qs i p h)

pub capacities_pushed : (qs qs' : List QueueView) (i : ℕ) (p : ParcelView) (v : Lanes) → lanes_of qs ≡ v → i < length qs → qs' ≡ set qs i (grown (queue_of qs i) p) → map (λ q. q.capacity) qs' ≡ v.capacities
capacities_pushed qs qs' i p v view h is =
    subst (λ (w : Lanes). map (λ (q : QueueView). q.capacity) qs' ≡ w.capacities) view (ap (map (λ (q : QueueView). q.capacity)) is ∙ capacities_set qs i (grown (queue_of qs i) p) h refl)

-- ---- the first one gone

pub numbers_popped : (qs qs' : List QueueView) (i : ℕ) (v : Lanes) → lanes_of qs ≡ v → i < length qs → qs' ≡ set qs i (shrunk (queue_of qs i)) → map numbers_in qs' ≡ popped v.numbers i
numbers_popped qs qs' i v view h is =
    let q = queue_of qs i in
    let e : numbers_in (shrunk q) ≡ drop 1 (queue_at (map numbers_in qs) i) =
    sym (drop-map (λ (x : ParcelView). x.packet) 1 q.parcels) ∙ ap (drop 1) (sym (numbers_at qs i h)) in
    subst (λ (w : Lanes). map numbers_in qs' ≡ popped w.numbers i) view
    (ap (map numbers_in) is ∙ (map-set numbers_in qs i (shrunk q) ∙ ap (set (map numbers_in qs) i) e))

pub parcels_popped : (qs qs' : List QueueView) (i : ℕ) (v : Lanes) → lanes_of qs ≡ v → i < length qs → qs' ≡ set qs i (shrunk (queue_of qs i)) → map (λ q. q.parcels) qs' ≡ without_first v.parcels i
parcels_popped qs qs' i v view h is =
    subst (λ (w : Lanes). map (λ (q : QueueView). q.parcels) qs' ≡ without_first w.parcels i) view
    (ap (map (λ (q : QueueView). q.parcels)) is
    ∙ (map-set (λ (q : QueueView). q.parcels) qs i (shrunk (queue_of qs i))
    ∙ ap (λ xs. set (map (λ (q : QueueView). q.parcels) qs) i (drop 1 xs)) (sym (parcels_there qs i h))))

pub capacities_popped : (qs qs' : List QueueView) (i : ℕ) (v : Lanes) → lanes_of qs ≡ v → i < length qs → qs' ≡ set qs i (shrunk (queue_of qs i)) → map (λ q. q.capacity) qs' ≡ v.capacities
capacities_popped qs qs' i v view h is =
    subst (λ (w : Lanes). map (λ (q : QueueView). q.capacity) qs' ≡ w.capacities) view (ap (map (λ (q : QueueView). q.capacity)) is ∙ capacities_set qs i (shrunk (queue_of qs i)) h refl)

first_number : (xs : List ParcelView) (p : ParcelView) → slice_get xs 0 ≡ Some p → slice_get (map packet xs) 0 ≡ Some p.packet
unfolding packet
first_number [] p e = cc
first_number (x ∷ xs) p e = cc

pub number_first : (qs : List QueueView) (i : ℕ) (p : ParcelView) (v : Lanes) → lanes_of qs ≡ v → i < length qs → slice_get (queue_of qs i).parcels 0 ≡ Some p → slice_get (queue_at v.numbers i) 0 ≡ Some p.packet
unfolding packet
number_first qs i p v view h is =
    subst (λ (w : Lanes). slice_get (queue_at w.numbers i) 0 ≡ Some p.packet) view
    (ap (λ xs. slice_get xs 0) (numbers_at qs i h) ∙ first_number (queue_of qs i).parcels p is)

-- ---- empty

no_parcels : (ps : List ParcelView) → nat_lt 0 (length ps) ≡ false → map (λ p. p.packet) ps ≡ []
no_parcels [] e = refl
no_parcels (p ∷ ps) e = absurd (omega (arith, ltb-false 0 (length (p ∷ ps)) e))

no_numbers : (ps : List ParcelView) → map (λ p. p.packet) ps ≡ [] → nat_lt 0 (length ps) ≡ false
no_numbers [] e = refl
no_numbers (p ∷ ps) e = cc

-- none is occupied exactly where all queues are empty
pub empty_lanes : (qs : List QueueView) (count : ℕ) (v : Lanes) → lanes_of qs ≡ v → IsCounted qs count → IsTrue (nat_eq count 0) ↔ All (λ q. q ≡ []) v.numbers
empty_lanes qs count v view counted =
    subst (λ (w : Lanes). IsTrue (nat_eq count 0) ↔ All (λ q. q ≡ []) w.numbers) view (
      (λ t. All-map (λ (q : List ℕ). q ≡ []) numbers_in qs
          (All-weaker (λ (q : QueueView). has_parcels q ≡ false) (λ q. numbers_in q ≡ []) (λ q h. no_parcels q.parcels h) qs
          (count_none has_parcels qs (omega (arith, counted.occupied, eqb-true count 0 t))))),
      (λ all. eq-eqb count 0
          (counted.occupied
          ∙ none_counted has_parcels qs
          (λ k d h. no_numbers (get_or qs k d).parcels
          (sym (get_or-map numbers_in qs k d [] h) ∙ all k [] (omega (arith, length-map qs numbers_in)))))),
    )

shorter : (ps : List ParcelView) (n : ℕ) → length ps ≤ n → length (drop 1 ps) ≤ n
shorter [] n h = h
shorter (p ∷ ps) n h = omega (arith, h)

one_where : (n : ℕ) → 0 < n → cond {A = ℕ} (nat_lt 0 n) 1 0 ≡ 1
one_where n h = let f : Bool → ℕ = λ b. cond b 1 0 in ap f (lt-ltb 0 n h)

emptied : (ps : List ParcelView) (b : Bool) → 0 < length ps → (IsTrue b ↔ (drop 1 ps ≡ [])) → cond (nat_lt 0 (length ps)) 1 0 ≡ cond (nat_lt 0 (length (drop 1 ps))) 1 0 + cond b 1 0
emptied [] b some e = absurd (omega (arith, some))
emptied (p ∷ []) true some e = refl
emptied (p ∷ []) false some e = cc (e.1 refl)
emptied (p ∷ (x ∷ ps)) true some e = cc (e.0 refl)
emptied (p ∷ (x ∷ ps)) false some e =
    one_where (length (p ∷ x ∷ ps)) (omega arith) ∙ (sym (one_where (length (x ∷ ps)) (omega arith)) ∙ omega arith)

-- the place is one of the queues
pub in_lanes : (qs : List QueueView) (i : ℕ) (v : Lanes) → lanes_of qs ≡ v → i < length v.numbers → i < length qs
in_lanes qs i v view h =
    let there : i < length (map numbers_in qs) = subst (λ (w : Lanes). i < length w.numbers) (sym view) h in
    omega (arith, there, length-map qs numbers_in)

-- a queue has as many parcels as numbers
pub some_parcels : (qs : List QueueView) (i : ℕ) (v : Lanes) → lanes_of qs ≡ v → i < length qs → 0 < length (queue_at v.numbers i) → 0 < length (queue_of qs i).parcels
some_parcels qs i v view h some =
    let there : 0 < length (queue_at (map numbers_in qs) i) = subst (λ (w : Lanes). 0 < length (queue_at w.numbers i)) (sym view) some in
    let same = ap length (numbers_at qs i h) in
    omega (arith, there, same, length-map (queue_of qs i).parcels (λ (p : ParcelView). p.packet))

pub counted_popped : (qs qs' seen : List QueueView) (i count one : ℕ) (b : Bool) → i < length qs → IsCounted qs count → 0 < length (queue_of qs i).parcels → seen ≡ qs' → (IsTrue b ↔ ((queue_of seen i).parcels ≡ [])) → qs' ≡ set qs i (shrunk (queue_of qs i)) → one ≡ cond b 1 0 → IsCounted qs' (count - one)
counted_popped qs qs' seen i count one b h counted some saw empty is told_one =
    let q = queue_of qs i in
    let there : queue_of seen i ≡ shrunk q = ap (λ xs. queue_of xs i) (saw ∙ is) ∙ get_or-set_same qs i (shrunk q) no_queue h in
    let told = subst (λ (x : QueueView). IsTrue b ↔ (x.parcels ≡ [])) there empty in
    let less = emptied q.parcels b some told in
    let written = count_set has_parcels qs i (shrunk q) no_queue h in
    let same = ap (count_by has_parcels) is in
    record {
      occupied = omega (arith, counted.occupied, less, written, same, told_one);
      within = subst (All (λ (x : QueueView). length x.parcels ≤ x.capacity)) (sym is)
          (All-set (λ (x : QueueView). length x.parcels ≤ x.capacity) qs i (shrunk q) (shorter q.parcels q.capacity (counted.within i no_queue h)) counted.within);
    }

-- ---- new queues

map_fixed_to : {X Y : Type 0} (f : X → Y) (y : Y) (xs : List X) (n : ℕ) → length xs ≡ n → All (λ x. f x ≡ y) xs → map f xs ≡ replicate n y
map_fixed_to {X} {Y} f y [] n e all = ap (λ k. replicate k y) e
map_fixed_to {X} {Y} f y (x ∷ xs) n e all =
    ap (λ z. z ∷ map f xs) (All-head (λ x. f x ≡ y) x xs all)
    ∙ (ap (λ zs. y ∷ zs) (map_fixed_to f y xs (length xs) refl (All-tail (λ x. f x ≡ y) x xs all)) ∙ ap (λ k. replicate k y) e)

pub new_numbers : (s : Settings) (n : ℕ) (qs : List QueueView) → AreEmpty s n qs → map numbers_in qs ≡ replicate n []
new_numbers s n qs new =
    let none : List ℕ = [] in
    map_fixed_to numbers_in none qs n new.length
    (All-weaker (λ (q : QueueView). q.parcels ≡ []) (λ q. numbers_in q ≡ none) (λ q e. ap (map (λ (p : ParcelView). p.packet)) e) qs new.parcels)

pub new_parcels : (s : Settings) (n : ℕ) (qs : List QueueView) → AreEmpty s n qs → map (λ q. q.parcels) qs ≡ replicate n []
new_parcels s n qs new =
    let none : List ParcelView = [] in
    map_fixed_to (λ (q : QueueView). q.parcels) none qs n new.length new.parcels

pub new_counted : (s : Settings) (n : ℕ) (qs : List QueueView) → AreEmpty s n qs → IsCounted qs 0
new_counted s n qs new = record {
  occupied = sym (none_counted has_parcels qs (All-weaker (λ (q : QueueView). q.parcels ≡ []) (λ q. has_parcels q ≡ false) (λ q e. ap (λ (ps : List ParcelView). nat_lt 0 (length ps)) e) qs new.parcels));
  within = All-weaker (λ (q : QueueView). q.parcels ≡ []) (λ q. length q.parcels ≤ q.capacity) (λ q e. omega (arith, ap length e)) qs new.parcels;
}

capacity_more : (s : Settings) (n : ℕ) (qs : List QueueView) (q : QueueView) (i : ℕ) → AreEmpty s n qs → q.capacity ≡ capacity_at s n → i < n + 1 → (queue_of (qs ++ q ∷ []) i).capacity ≡ capacity_at s i
capacity_more s n qs q i new is h =
    ⊎_elim (λ (w : i < n). ap (λ (x : QueueView). x.capacity) (get_or_append_left qs (q ∷ []) no_queue i (omega (arith, w, new.length))) ∙ new.capacities i w)
    (λ (w : n ≤ i). let same : i ≡ n = omega (arith, w, h) in
    ap (λ (x : QueueView). x.capacity) (get_or_push qs q no_queue i (new.length ∙ sym same)) ∙ (is ∙ ap (capacity_at s) (sym same)))
    (cases_lt i n)

pub new_more : (s : Settings) (n : ℕ) (qs qs' : List QueueView) (q : QueueView) → AreEmpty s n qs → q ≡ record { capacity = capacity_at s n; parcels = [] } → qs' ≡ qs ++ q ∷ [] → AreEmpty s (n + 1) qs'
new_more s n qs qs' q new is items =
    subst (AreEmpty s (n + 1)) (sym items)
    (record {
      length = length-append qs (q ∷ []) ∙ omega (arith, new.length);
      parcels = All-push (λ (x : QueueView). x.parcels ≡ []) qs q new.parcels (ap (λ (x : QueueView). x.parcels) is);
      capacities = λ i h. capacity_more s n qs q i new (ap (λ (x : QueueView). x.capacity) is) h;
    })
