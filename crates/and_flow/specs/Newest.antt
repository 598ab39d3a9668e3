-- What a cache answers after a list of puts.
use Rattle.std.specs.Prelude.{◌≡◌, ◌≤◌, ℕ, List, Option, Some}
use Rattle.std.specs.List.{find}
use Rattle.and_policy.specs.declared.cached.Cached.{Cached}
use Rattle.and_policy.specs.declared.decision.Outcome.{Outcome}
use Rattle.and_policy.specs.declared.entry.FlowKey.{FlowKey}
use Rattle.and_policy.specs.Caches.{after_puts, look, same_key}

-- of these puts, the newest of which is first, the newest of this key
abbrev pub newest : FlowKey → List Cached → Option Cached
newest key puts = find (λ x. same_key x.key key) puts

-- where a cache answers, it answers the newest put of the key, whose stamp is not below the floor
abbrev pub AnswersNewest : Type 0
AnswersNewest =
    (puts : List Cached) (key : FlowKey) (floor : ℕ) (o : Outcome) → look (after_puts puts) key floor ≡ Some o
    → (x : Cached) × (newest key puts ≡ Some x) × (x.outcome ≡ o) × (floor ≤ x.stamp)
