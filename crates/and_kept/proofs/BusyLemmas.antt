-- The set tells the truth after a hand or a queue has changed and those that it can change were looked at again.
use Rattle.std.proofs.Common.{◌≡◌, ◌≢◌, ℕ, false, ◌+◌, ◌<◌, ◌≤◌, ◌⊎◌, Bool, List, [], set, refl, sym, ap, ◌∙◌, inl, inr, arith, ⊎_elim, Option, None}
use Rattle.std.proofs.lemmas.Bool.{cases_eq}
use Rattle.std.proofs.lemmas.List.{get_or-set_other}
use Rattle.and_events.specs.declared.event.Held.{Held}
use Rattle.and_events.specs.declared.plan.Settings.{Settings}
use Rattle.and_events.specs.Places.{hand_count}
use Rattle.and_kept.specs.Numbers.{Numbers}
use Rattle.and_kept.specs.Busy.{first_queue, other_queue, hand_node, is_busy, Tells, TellsAll}

abbrev Between : ℕ → ℕ → ℕ → Type 0
Between low high k = (low ≤ k) × (k < high)

-- what `refresh` ensures
abbrev pub Refreshed : Settings → List (List ℕ) → List (Option Held) → List Bool → Numbers → Numbers → ℕ → ℕ → Type 0
Refreshed s queues hands held old new low high =
    (k : ℕ) → k < hand_count s → Between low high k ⊎ Tells s queues hands held old k → Tells s queues hands held new k

-- the queues from which a hand is filled lead to it
abbrev pub Takers : Settings → (ℕ → ℕ) → ℕ → ℕ → ℕ → Type 0
Takers s queue_of q low high = (k : ℕ) → k < hand_count s → queue_of k ≡ q → Between low high k

module _ (s : Settings) (queues : List (List ℕ)) (hands : List (Option Held)) (held : List Bool) (busy busy' : Numbers) (told : TellsAll s queues hands held busy) where
  by_hand : (a k : ℕ) (x : Option Held) → k ≢ a → is_busy s queues (set hands a x) held k ≡ is_busy s queues hands held k
  unfolding is_busy
  by_hand a k x other = rw (get_or-set_other hands a k x None other) refl

  by_queue : (q k : ℕ) (xs : List ℕ) → first_queue s k ≢ q → other_queue s k ≢ q → is_busy s (set queues q xs) hands held k ≡ is_busy s queues hands held k
  unfolding is_busy
  by_queue q k xs first other = rw (get_or-set_other queues q (first_queue s k) xs [] first, get_or-set_other queues q (other_queue s k) xs [] other) refl

  pub told_hand : (a : ℕ) (x : Option Held) (hands' : List (Option Held)) → hands' ≡ set hands a x → Refreshed s queues hands' held busy busy' a (a + 1) → TellsAll s queues hands' held busy'
  told_hand a x hands' is again k there =
      again k there (⊎_elim (λ (same : k ≡ a). inl (omega arith, omega arith))
      (λ (other : k ≢ a). inr (told k there ∙ (sym (by_hand a k x other) ∙ sym (ap (λ hs. is_busy s queues hs held k) is))))
      (cases_eq k a))

  pub told_queue : (q low high : ℕ) (xs : List ℕ) (queues' : List (List ℕ)) → queues' ≡ set queues q xs → Takers s (first_queue s) q low high → Takers s (other_queue s) q low high
      → Refreshed s queues' hands held busy busy' low high → TellsAll s queues' hands held busy'
  told_queue q low high xs queues' is first other again k there =
      again k there (⊎_elim (λ (same : first_queue s k ≡ q). inl (first k there same))
      (λ (apart : first_queue s k ≢ q).
      ⊎_elim (λ (same : other_queue s k ≡ q). inl (other k there same))
      (λ (far : other_queue s k ≢ q). inr (told k there ∙ (sym (by_queue q k xs apart far) ∙ sym (ap (λ qs. is_busy s qs hands held k) is))))
      (cases_eq (other_queue s k) q))
      (cases_eq (first_queue s k) q))

-- a node's hands were looked at, those of its workers and then the other one, after its mark was written
module _ (s : Settings) (queues : List (List ℕ)) (hands : List (Option Held)) (held : List Bool) (busy busy' busy'' : Numbers) (told : TellsAll s queues hands held busy) where
  by_mark : (n k : ℕ) (on : Bool) → hand_node s k ≢ n → is_busy s queues hands (set held n on) k ≡ is_busy s queues hands held k
  unfolding is_busy
  by_mark n k on other = rw (get_or-set_other held n (hand_node s k) on false other) refl

  pub told_mark : (n : ℕ) (on : Bool) (first last first' last' : ℕ) → ((k : ℕ) → k < hand_count s → hand_node s k ≡ n → Between first last k ⊎ Between first' last' k)
      → Refreshed s queues hands (set held n on) busy busy' first last → Refreshed s queues hands (set held n on) busy' busy'' first' last' → TellsAll s queues hands (set held n on) busy''
  told_mark n on first last first' last' all once again k there =
      again k there (⊎_elim
      (λ (same : hand_node s k ≡ n).
      ⊎_elim (λ (among : Between first last k). inr (once k there (inl among))) (λ (among : Between first' last' k). inl among) (all k there same))
      (λ (other : hand_node s k ≢ n). inr (once k there (inr (told k there ∙ sym (by_mark n k on other)))))
      (cases_eq (hand_node s k) n))

-- all hands were looked at
pub told_anew : (s : Settings) (queues : List (List ℕ)) (hands : List (Option Held)) (held : List Bool) (busy busy' : Numbers) (high : ℕ) → high ≡ hand_count s → Refreshed s queues hands held busy busy' 0 high → TellsAll s queues hands held busy'
told_anew s queues hands held busy busy' high is again k there = again k there (inl (omega arith, omega (arith, is)))
