-- What the set tells of a hand is what the definition says of its actor.
use Rattle.std.proofs.Common.{◌≡◌, ℕ, ◌+◌, ◌*◌, ◌<◌, ◌≤◌, ◌⊎◌, ◌↔◌, Bool, true, false, ◌||◌, List, [], ◌∷◌, length, refl, sym, ap, ◌∙◌, inl, inr, arith, Option, Some, None}
use Rattle.std.specs.Prelude.{◌&&◌, not, is_some, nat_lt, if◌then◌else◌, slice_index_or}
use Rattle.std.proofs.lemmas.Grind.{common_steps}
use Rattle.std.proofs.lemmas.Nat.{div-mul-add, mul-add-lt}
use Rattle.and_events.specs.declared.event.Actor.{Actor}
use Rattle.and_events.specs.declared.event.Actor.TheVariants.{HostInstall, GateInstall, Worker, Coproc, Gateway, Controller, Driver}
use Rattle.and_events.specs.declared.event.Held.{Held}
use Rattle.and_events.specs.declared.event.Node.TheVariants.{Host, Gate}
use Rattle.and_events.specs.declared.event.Queue.TheVariants.{Out, Wire, Seal}
use Rattle.and_events.specs.declared.plan.Settings.{Settings}
use Rattle.and_events.specs.Flow.{Flow, queue_at, hand_at}
use Rattle.and_events.specs.Places.{queue_place, hand_place, IsActor, Handles}
use Rattle.and_kept.specs.Busy.{first_queue, other_queue, hand_node, has_some, is_busy}
use Rattle.and_kept.specs.Moves.{IsBusy}

abbrev Full : Flow → ℕ → Type 0
Full f k = (h : Held) × (hand_at f.hands k ≡ Some h)

abbrev Filled : List ℕ → Type 0
Filled xs = xs ≡ [] → ⊥

-- ---- tests

full_is : (o : Option Held) → is_some o ≡ true → (h : Held) × (o ≡ Some h)
full_is None e = absurd (cc)
full_is (Some h) e = (h, refl)

is_full : (o : Option Held) → (h : Held) × (o ≡ Some h) → is_some o ≡ true
is_full o (h, e) = ap is_some e

filled_is : (xs : List ℕ) → nat_lt 0 (length xs) ≡ true → Filled xs
filled_is [] e none = absurd (cc)
filled_is (x ∷ xs) e none = absurd (cc)

is_filled : (xs : List ℕ) → Filled xs → nat_lt 0 (length xs) ≡ true
is_filled [] some = absurd (some refl)
is_filled (x ∷ xs) some = grind (arith, common_steps)

or_is : (a b : Bool) → (a || b) ≡ true → (a ≡ true) ⊎ (b ≡ true)
or_is true b e = inl refl
or_is false b e = inr e

is_or : (a b : Bool) → (a ≡ true) ⊎ (b ≡ true) → (a || b) ≡ true
is_or true b either = refl
is_or false b (inl e) = absurd (cc)
is_or false b (inr e) = e

-- ---- places

less_is : (a b : ℕ) → a < b → nat_lt a b ≡ true
less_is a b less = grind (arith, common_steps)

not_less : (a b : ℕ) → b ≤ a → nat_lt a b ≡ false
not_less a b le = grind (arith, common_steps)

below : (v : Settings) (h w : ℕ) → h < v.hosts → w < v.workers → h * v.workers + w < v.hosts * v.workers
below v h w there less = let l = mul-add-lt h v.workers w v.hosts there less in omega (arith, l)

module _ (v : Settings) (h w : ℕ) (there : h < v.hosts) (less : w < v.workers) where
  worker_first : first_queue v (hand_place v (Worker h w)) ≡ queue_place v (Host h) Wire
  worker_first = rw (less_is _ _ (below v h w there less), div-mul-add h v.workers w less) refl

  worker_other : other_queue v (hand_place v (Worker h w)) ≡ queue_place v (Host h) Out
  worker_other = rw (less_is _ _ (below v h w there less), div-mul-add h v.workers w less) refl

  worker_node : hand_node v (hand_place v (Worker h w)) ≡ h
  worker_node = rw (less_is _ _ (below v h w there less), div-mul-add h v.workers w less) refl

module _ (v : Settings) (h : ℕ) (there : h < v.hosts) where
  coproc_node : hand_node v (hand_place v (Coproc h)) ≡ h
  coproc_node = rw (not_less (v.hosts * v.workers + h) (v.hosts * v.workers) (omega arith)) (omega arith)

  coproc_first : first_queue v (hand_place v (Coproc h)) ≡ queue_place v (Host h) Seal
  coproc_first = rw (not_less (v.hosts * v.workers + h) (v.hosts * v.workers) (omega arith), less_is (v.hosts * v.workers + h) (v.hosts * v.workers + v.hosts) (omega (arith, there))) (omega arith)

  coproc_other : other_queue v (hand_place v (Coproc h)) ≡ queue_place v (Host h) Seal
  coproc_other = rw (not_less (v.hosts * v.workers + h) (v.hosts * v.workers) (omega arith), less_is (v.hosts * v.workers + h) (v.hosts * v.workers + v.hosts) (omega (arith, there))) (omega arith)

module _ (v : Settings) (g : ℕ) where
  gateway_node : hand_node v (hand_place v (Gateway g)) ≡ v.hosts + g
  gateway_node = rw (not_less (v.hosts * v.workers + v.hosts + g) (v.hosts * v.workers) (omega arith)) (omega arith)

  gateway_first : first_queue v (hand_place v (Gateway g)) ≡ queue_place v (Gate g) Wire
  gateway_first =
      rw (not_less (v.hosts * v.workers + v.hosts + g) (v.hosts * v.workers) (omega arith), not_less (v.hosts * v.workers + v.hosts + g) (v.hosts * v.workers + v.hosts) (omega arith)) (omega arith)

  gateway_other : other_queue v (hand_place v (Gateway g)) ≡ queue_place v (Gate g) Wire
  gateway_other =
      rw (not_less (v.hosts * v.workers + v.hosts + g) (v.hosts * v.workers) (omega arith), not_less (v.hosts * v.workers + v.hosts + g) (v.hosts * v.workers + v.hosts) (omega arith)) (omega arith)

both_are : (a b : Bool) → (not a && b) ≡ true → (a ≡ false) × (b ≡ true)
both_are true b e = absurd (cc)
both_are false b e = (refl, e)

are_both : (a b : Bool) → a ≡ false → b ≡ true → (not a && b) ≡ true
are_both a b e g = rw e g

module _ (v : Settings) (f : Flow) (held : List Bool) where
  abbrev Goes : ℕ → Type 0
  Goes n = slice_index_or held n false ≡ false

  -- the node and the two queues, in the definition's order
  by_parts : (k n p q : ℕ) → hand_node v k ≡ n → first_queue v k ≡ p → other_queue v k ≡ q
      → is_busy v f.queues f.hands held k ≡ (is_some (hand_at f.hands k) || (not (slice_index_or held n false) && (has_some f.queues p || has_some f.queues q)))
  unfolding is_busy
  by_parts k n p q node first other =
      ap (λ x. is_some (hand_at f.hands k) || (not (slice_index_or held x false) && (has_some f.queues (first_queue v k) || has_some f.queues (other_queue v k)))) node
      ∙ (ap (λ x. is_some (hand_at f.hands k) || (not (slice_index_or held n false) && (has_some f.queues x || has_some f.queues (other_queue v k)))) first
      ∙ ap (λ x. is_some (hand_at f.hands k) || (not (slice_index_or held n false) && (has_some f.queues p || has_some f.queues x))) other)

  -- busy by its hand, or by one of its queues where forwarding is not held
  parts : (k n p q : ℕ) → hand_node v k ≡ n → first_queue v k ≡ p → other_queue v k ≡ q
      → (is_busy v f.queues f.hands held k ≡ true) ↔ (Full f k ⊎ (Goes n × (Filled (queue_at f.queues p) ⊎ Filled (queue_at f.queues q))))
  parts k n p q node first other =
      let is = by_parts k n p q node first other in (
        (λ busy. from (or_is _ _ (sym is ∙ busy))),
        (λ why. is ∙ is_or _ _ (to why)),
      )
    where
      queues : (has_some f.queues p ≡ true) ⊎ (has_some f.queues q ≡ true) → Filled (queue_at f.queues p) ⊎ Filled (queue_at f.queues q)
      queues (inl e) = inl (filled_is _ e)
      queues (inr e) = inr (filled_is _ e)

      some : Filled (queue_at f.queues p) ⊎ Filled (queue_at f.queues q) → (has_some f.queues p || has_some f.queues q) ≡ true
      some (inl filled) = is_or _ _ (inl (is_filled _ filled))
      some (inr filled) = is_or _ _ (inr (is_filled _ filled))

      from : (is_some (hand_at f.hands k) ≡ true) ⊎ ((not (slice_index_or held n false) && (has_some f.queues p || has_some f.queues q)) ≡ true) → Full f k ⊎ (Goes n × (Filled (queue_at f.queues p) ⊎ Filled (queue_at f.queues q)))
      from (inl e) = inl (full_is _ e)
      from (inr e) = let both = both_are _ _ e in inr (both.0, queues (or_is _ _ both.1))

      to : Full f k ⊎ (Goes n × (Filled (queue_at f.queues p) ⊎ Filled (queue_at f.queues q))) → (is_some (hand_at f.hands k) ≡ true) ⊎ ((not (slice_index_or held n false) && (has_some f.queues p || has_some f.queues q)) ≡ true)
      to (inl has) = inl (is_full _ has)
      to (inr (goes, filled)) = inr (are_both _ _ goes (some filled))

  -- a worker finds a packet where one of its two queues has one
  finds : (h : ℕ) (b : Bool) → has_some f.queues (queue_place v (Host h) Wire) ≡ b
      → (Filled (queue_at f.queues (queue_place v (Host h) Wire)) ⊎ Filled (queue_at f.queues (queue_place v (Host h) Out))) ↔ Filled (queue_at f.queues (queue_place v (Host h) (if b then Wire else Out)))
  finds h true e = ((λ either. filled_is _ e), (λ some. inl some))
  finds h false e = (out, (λ some. inr some))
    where
      out : Filled (queue_at f.queues (queue_place v (Host h) Wire)) ⊎ Filled (queue_at f.queues (queue_place v (Host h) Out)) → Filled (queue_at f.queues (queue_place v (Host h) Out))
      out (inl some) = let clash : true ≡ false = sym (is_filled _ some) ∙ e in absurd (cc)
      out (inr some) = some

  either_is : (A G B C : Type 0) → (B ↔ C) → (A ⊎ (G × B)) ↔ (A ⊎ (G × C))
  either_is A G B C is = (to, from)
    where
      to : A ⊎ (G × B) → A ⊎ (G × C)
      to (inl a) = inl a
      to (inr b) = inr (b.0, is.0 b.1)

      from : A ⊎ (G × C) → A ⊎ (G × B)
      from (inl a) = inl a
      from (inr c) = inr (c.0, is.1 c.1)

  -- the same queue twice
  once : (A : Type 0) → (A ⊎ A) ↔ A
  once A = (to, (λ a. inl a))
    where
      to : A ⊎ A → A
      to (inl a) = a
      to (inr a) = a

  -- the set's test of an actor's hand is the definition's
  pub busy_is : (a : Actor) → IsActor v a → Handles a → (is_busy v f.queues f.hands held (hand_place v a) ≡ true) ↔ IsBusy v f held a
  busy_is (Worker h w) is takes =
      let found = parts (hand_place v (Worker h w)) _ _ _ (worker_node v h w is.0 is.1) (worker_first v h w is.0 is.1) (worker_other v h w is.0 is.1) in
      let same = either_is (Full f (hand_place v (Worker h w))) (Goes h) _ _ (finds h _ refl) in
      ((λ busy. same.0 (found.0 busy)), (λ why. found.1 (same.1 why)))
  busy_is (Coproc h) is takes =
      let found = parts (hand_place v (Coproc h)) _ _ _ (coproc_node v h is) (coproc_first v h is) (coproc_other v h is) in
      let same = either_is (Full f (hand_place v (Coproc h))) (Goes h) _ _ (once (Filled (queue_at f.queues (queue_place v (Host h) Seal)))) in
      ((λ busy. same.0 (found.0 busy)), (λ why. found.1 (same.1 why)))
  busy_is (Gateway g) is takes =
      let found = parts (hand_place v (Gateway g)) _ _ _ (gateway_node v g) (gateway_first v g) (gateway_other v g) in
      let same = either_is (Full f (hand_place v (Gateway g))) (Goes (v.hosts + g)) _ _ (once (Filled (queue_at f.queues (queue_place v (Gate g) Wire)))) in
      ((λ busy. same.0 (found.0 busy)), (λ why. found.1 (same.1 why)))
  busy_is (HostInstall h) is takes = absurd takes
  busy_is (GateInstall g) is takes = absurd takes
  busy_is Controller is takes = absurd takes
  busy_is Driver is takes = absurd takes
