-- Flow caches: 64 groups of at most 16 entries, the oldest first.
use Rattle.std.specs.Prelude.{ℕ, ◌%◌, ◌==◌, ◌&&◌, not, Bool, true, false, nat_lt, nat_le, if◌then◌else◌, List, [], ◌∷◌, ◌++◌, length, drop, slice_set, slice_index_or, replicate, Option, Some, None, is_some}
use Rattle.std.specs.List.{filter, find, fold}
use Rattle.and_policy.specs.declared.packet.Tuple.{Tuple}
use Rattle.and_policy.specs.declared.entry.Side.{Side}
use Rattle.and_policy.specs.declared.entry.Side.TheVariants as sides
use Rattle.and_policy.specs.declared.entry.FlowKey.{FlowKey}
use Rattle.and_policy.specs.declared.entry.Op.{Op}
use Rattle.and_policy.specs.declared.decision.Leaving.{Leaving}
use Rattle.and_policy.specs.declared.decision.Leaving.TheVariants as leavings
use Rattle.and_policy.specs.declared.decision.Outcome.{Outcome}
use Rattle.and_policy.specs.declared.decision.Outcome.TheVariants as outcomes
use Rattle.and_policy.specs.declared.decision.Way.{Way}
use Rattle.and_policy.specs.declared.decision.Way.TheVariants.{Fast, Slow}
use Rattle.and_policy.specs.declared.cached.Cached.{Cached}
use Rattle.and_policy.specs.Matching.{is_side}
use Rattle.and_policy.specs.FlowHash.{flow_hash}
use Rattle.and_policy.specs.Ingress.{landing}
use Rattle.and_policy.specs.Programmes.{prefix, leaving}

abbrev pub Cache : Type 0
Cache = List (List Cached)

abbrev pub same_tuple : Tuple → Tuple → Bool
same_tuple a b =
    (a.protocol == b.protocol) && (a.source == b.source) && (a.destination == b.destination) && (a.source_port == b.source_port)
    && (a.destination_port == b.destination_port)

abbrev pub same_key : FlowKey → FlowKey → Bool
same_key a b = is_side a.side b.side && (a.scope == b.scope) && same_tuple a.tuple b.tuple

abbrev pub empty : Cache
empty = replicate 64 []

abbrev pub group_of : FlowKey → ℕ
group_of key = flow_hash key.tuple % 64

abbrev pub group : Cache → FlowKey → List Cached
group c key = slice_index_or c (group_of key) []

-- the key's old entry goes, and the oldest where there are then 17
abbrev pub without : FlowKey → List Cached → List Cached
without key xs = filter (λ x. not (same_key x.key key)) xs

abbrev pub at_most_16 : List Cached → List Cached
at_most_16 xs = if nat_lt 16 (length xs) then drop 1 xs else xs

abbrev pub put_in : List Cached → Cached → List Cached
put_in xs new = at_most_16 (without new.key xs ++ new ∷ [])

unfoldable pub put : Cache → Cached → Cache
put c new = slice_set c (group_of new.key) (put_in (group c new.key) new)

-- the entry's outcome, where its stamp is not below the floor
abbrev pub answer : ℕ → Option Cached → Option Outcome
answer floor None = None
answer floor (Some x) = if nat_le floor x.stamp then Some x.outcome else None

unfoldable pub look : Cache → FlowKey → ℕ → Option Outcome
look c key floor = answer floor (find (λ x. same_key x.key key) (group c key))

-- the cache after these puts, the newest of which is first
abbrev pub after_puts : List Cached → Cache
after_puts [] = empty
after_puts (x ∷ earlier) = put (after_puts earlier) x

-- ---- decisions with a cache

abbrev pub said_by : ℕ → List Op → ℕ → Side → FlowKey → Outcome
said_by gateways p at sides.Egress key = outcomes.Leaving (leaving gateways p at key.scope key.tuple)
said_by gateways p at sides.Ingress key = outcomes.Landing (landing (prefix p at) key.scope key.tuple)

-- what the first `at` operations say of the key, with this many gateways
unfoldable pub said : ℕ → List Op → ℕ → FlowKey → Outcome
said gateways p at key = said_by gateways p at key.side key

-- an outcome for a VM that is not live is neither asked for nor put
abbrev pub is_cached : Outcome → Bool
is_cached (outcomes.Leaving leavings.NoVm) = false
is_cached _ = true

-- an entry put before this number of operations does not answer. It will be `touched` of the key's network
abbrev pub floor : List Op → ℕ → FlowKey → ℕ
floor p at key = at

abbrev pub hits : Cache → List Op → ℕ → FlowKey → Bool
hits c p at key = is_some (look c key (floor p at key))

abbrev pub way_by : Bool → Bool → Way
way_by true true = Fast
way_by _ _ = Slow

abbrev pub cache_by : Bool → Bool → Cache → Cached → Cache
cache_by true false c new = put c new
cache_by _ _ c new = c

-- how a decision at this number over the programme p is found
abbrev pub way : ℕ → Cache → List Op → ℕ → FlowKey → Way
way gateways c p at key = way_by (is_cached (said gateways p at key)) (hits c p at key)

-- and the cache after it
abbrev pub decided : ℕ → Cache → List Op → ℕ → FlowKey → Cache
decided gateways c p at key =
    cache_by (is_cached (said gateways p at key)) (hits c p at key) c (record { key = key; stamp = at; outcome = said gateways p at key })
