-- What is in which queue after a push and a pop, and that each queue has a place of its own.
use Rattle.std.proofs.Common.{◌≡◌, ℕ, ◌<◌, ◌≤◌, ◌==◌, cond, List, [], ◌∷◌, ◌++◌, length, drop, refl, sym, ap, ◌∙◌, subst, arith, ⊎_elim, inl, inr, ◌⊎◌}
use Rattle.std.proofs.lemmas.List.{get_or-set_same, get_or-set_other, set_past}
use Rattle.std.proofs.lemmas.List.Sums.{sum_by_push, sum_by-cons}
use Rattle.std.proofs.lemmas.Bool.{cases_eq, cases_lt}
use Rattle.std.proofs.lemmas.Grind.{common_steps}
use Rattle.and_events.specs.declared.event.Node.{Node}
use Rattle.and_events.specs.declared.event.Node.TheVariants.{Host, Gate}
use Rattle.and_events.specs.declared.event.Queue.{Queue}
use Rattle.and_events.specs.declared.event.Queue.TheVariants.{Out, Wire, Seal}
use Rattle.and_events.specs.declared.plan.Settings.{Settings}
use Rattle.and_events.specs.Places.{queue_place, queue_count, IsNode, HasQueue}
use Rattle.and_events.specs.Flow.{queue_at, pushed, popped}
use Rattle.and_laws.specs.Stages.{count_in}

dropped_in : (xs : List ℕ) (i : ℕ) → 0 < count_in i (drop 1 xs) → 0 < count_in i xs
dropped_in [] i h = h
dropped_in (x ∷ xs) i h = omega (arith, sum_by-cons (λ y. cond (y == i) 1 0) x xs, h)

not_counted : (i j : ℕ) (xs : List ℕ) → (j ≡ i → ⊥) → count_in i (xs ++ j ∷ []) ≡ count_in i xs
not_counted i j xs n =
    let more = sum_by_push (λ x. cond (x == i) 1 0) xs j in
    grind (arith, common_steps, more)

pushed_same : (queues : List (List ℕ)) (p j i q : ℕ) → p < length queues → q ≡ p → (j ≡ i → ⊥) → 0 < count_in i (queue_at (pushed queues p j) q) → 0 < count_in i (queue_at queues q)
pushed_same queues p j i q there e n some =
    let xs = queue_at queues p in
    let at = subst (λ ys. 0 < count_in i ys) (ap (λ k. queue_at (pushed queues p j) k) e ∙ get_or-set_same queues p (xs ++ j ∷ []) [] there) some in
    subst (λ k. 0 < count_in i (queue_at queues k)) (sym e) (subst (λ m. 0 < m) (not_counted i j xs n) at)

pub pushed_in : (queues : List (List ℕ)) (p j i q : ℕ) → p < length queues → 0 < count_in i (queue_at (pushed queues p j) q) → (0 < count_in i (queue_at queues q)) ⊎ ((q ≡ p) × (j ≡ i))
pushed_in queues p j i q there some =
    let xs = queue_at queues p in
    let other = get_or-set_other queues p q (xs ++ j ∷ []) [] in
    ⊎_elim
    (λ (e : q ≡ p). ⊎_elim (λ (f : j ≡ i). inr (e, f)) (λ (f : j ≡ i → ⊥). inl (pushed_same queues p j i q there e f some)) (cases_eq j i))
    (λ (e : q ≡ p → ⊥). inl (subst (λ ys. 0 < count_in i ys) (other e) some)) (cases_eq q p)

pub popped_in : (queues : List (List ℕ)) (p i q : ℕ) → 0 < count_in i (queue_at (popped queues p) q) → 0 < count_in i (queue_at queues q)
popped_in queues p i q some =
    let xs = queue_at queues p in
    ⊎_elim
    (λ (e : q ≡ p).
    ⊎_elim
    (λ (l : p < length queues).
    let d = subst (λ ys. 0 < count_in i ys) (ap (λ k. queue_at (popped queues p) k) e ∙ get_or-set_same queues p (drop 1 xs) [] l) some in
    subst (λ k. 0 < count_in i (queue_at queues k)) (sym e) (dropped_in xs i d))
    (λ (l : length queues ≤ p). subst (λ ys. 0 < count_in i (queue_at ys q)) (set_past queues p (drop 1 xs) l) some)
    (cases_lt p (length queues)))
    (λ (e : q ≡ p → ⊥). subst (λ ys. 0 < count_in i ys) (get_or-set_other queues p q (drop 1 xs) [] e) some) (cases_eq q p)

pub front_counts : (i : ℕ) (xs rest : List ℕ) → xs ≡ i ∷ rest → 0 < count_in i xs
front_counts i xs rest e =
    let c = sum_by-cons (λ x. cond (x == i) 1 0) i rest in
    let d = ap (count_in i) e in
    grind (arith, common_steps, c, d)

-- ---- places

-- the place of a node's queue is among the queues
pub queue_within : (s : Settings) (node : Node) (q : Queue) → IsNode s node → HasQueue node q → queue_place s node q < queue_count s
queue_within s (Host h) Out is has = omega arith
queue_within s (Host h) Seal is has = omega arith
queue_within s (Host h) Wire is has = omega arith
queue_within s (Gate g) Wire is has = omega arith
queue_within s (Gate g) Out is has = absurd has
queue_within s (Gate g) Seal is has = absurd has

pub wire_there : (node : Node) → HasQueue node Wire
wire_there (Host h) = tt
wire_there (Gate g) = tt

pub record IsOneQueue (q q' : Queue) (node node' : Node) : Type 0 where
  pub is_queue : q ≡ q'
  pub is_node : node ≡ node'

-- two queues at one place are one queue
pub same_queue : (s : Settings) (node node' : Node) (q q' : Queue) → IsNode s node → HasQueue node q → IsNode s node' → HasQueue node' q' → queue_place s node q ≡ queue_place s node' q' → IsOneQueue q q' node node'
same_queue s (Gate g) node' Out q' is has is' has' e = absurd has
same_queue s (Gate g) node' Seal q' is has is' has' e = absurd has
same_queue s node (Gate g) q Out is has is' has' e = absurd has'
same_queue s node (Gate g) q Seal is has is' has' e = absurd has'
same_queue s (Host h) (Host k) Out Out is has is' has' e = let same : h ≡ k = omega arith in record { is_queue = refl; is_node = ap Host same }
same_queue s (Host h) (Host k) Seal Seal is has is' has' e = let same : h ≡ k = omega arith in record { is_queue = refl; is_node = ap Host same }
same_queue s (Host h) (Host k) Wire Wire is has is' has' e = let same : h ≡ k = omega arith in record { is_queue = refl; is_node = ap Host same }
same_queue s (Gate g) (Gate k) Wire Wire is has is' has' e = let same : g ≡ k = omega arith in record { is_queue = refl; is_node = ap Gate same }
same_queue s (Host h) (Host k) Out Seal is has is' has' e = absurd (omega (arith, is, is', e))
same_queue s (Host h) (Host k) Out Wire is has is' has' e = absurd (omega (arith, is, is', e))
same_queue s (Host h) (Host k) Seal Out is has is' has' e = absurd (omega (arith, is, is', e))
same_queue s (Host h) (Host k) Seal Wire is has is' has' e = absurd (omega (arith, is, is', e))
same_queue s (Host h) (Host k) Wire Out is has is' has' e = absurd (omega (arith, is, is', e))
same_queue s (Host h) (Host k) Wire Seal is has is' has' e = absurd (omega (arith, is, is', e))
same_queue s (Host h) (Gate k) Out Wire is has is' has' e = absurd (omega (arith, is, is', e))
same_queue s (Host h) (Gate k) Seal Wire is has is' has' e = absurd (omega (arith, is, is', e))
same_queue s (Host h) (Gate k) Wire Wire is has is' has' e = absurd (omega (arith, is, is', e))
same_queue s (Gate g) (Host k) Wire Out is has is' has' e = absurd (omega (arith, is, is', e))
same_queue s (Gate g) (Host k) Wire Seal is has is' has' e = absurd (omega (arith, is, is', e))
same_queue s (Gate g) (Host k) Wire Wire is has is' has' e = absurd (omega (arith, is, is', e))
