-- The index of live routes by prefix, and what it says of a log.
use Rattle.std.specs.Prelude.{◌≡◌, ℕ, ◌≤◌, ◌-◌, ◌/◌, ◌^◌, ◌==◌, ◌&&◌, Bool, nat_lt, List, [], Option, option_map, unwrap_or}
use Rattle.std.specs.List.{filter, find}
use Rattle.std.specs.HashMap as hash
use Rattle.std.specs.HashMap.{HashMap}
use Rattle.std.specs.declared.hash.FoldHasher.{FoldHasher}
use Rattle.std.specs.declared.hash.BuildHasherDefault.{BuildHasherDefault}
use Rattle.and_policy.specs.declared.entry.Entry.{Entry}
use Rattle.and_policy.specs.declared.entry.Route.{Route}
use Rattle.and_policy.specs.Logs.{routes}
use Rattle.and_policy.specs.Matching.{holds, least}
use Rattle.and_policy.specs.Once.{Once}
use Rattle.and_policy.specs.Registers.{pair_eq}
use Rattle.and_policy.specs.Routes.{route_before}
use Rattle.and_policy.specs.Sorting.{sorted, smaller_route}
use Rattle.and_routes.specs.declared.prefixes.Prefixes.{Prefixes}

abbrev pub key_eq : (ℕ × ℕ) × ℕ → (ℕ × ℕ) × ℕ → Bool
key_eq a b = pair_eq a.0 b.0 && (a.1 == b.1)

abbrev pub bucket_at : HashMap ((ℕ × ℕ) × ℕ) (List Route) (BuildHasherDefault FoldHasher) → (ℕ × ℕ) × ℕ → List Route
bucket_at m q = unwrap_or (hash.get key_eq m q) []

-- the route's prefix has this length, and these are its bits that count
abbrev pub in_bucket : ℕ → ℕ → Route → Bool
in_bucket length high route = (route.prefix.length == length) && (route.prefix.address / 2 ^ (32 - length) == high)

-- the prefix has this length, and holds the address
abbrev pub holds_at : ℕ → ℕ → Route → Bool
holds_at length address route = (route.prefix.length == length) && holds route.prefix address

-- it is shorter than this length, and holds the address
abbrev pub holds_below : ℕ → ℕ → Route → Bool
holds_below length address route = nat_lt route.prefix.length length && holds route.prefix address

-- of the routes of this length that hold the address, the one of the smallest number
abbrev pub first_in : ℕ → ℕ → List Route → Option Route
first_in length address list = least smaller_route (filter (holds_at length address) list)

-- of the shorter ones, the one that decides
abbrev pub best_below : ℕ → ℕ → List Route → Option Route
best_below length address list = least route_before (filter (holds_below length address) list)

-- each bucket has the live routes of its prefix, in the order of their numbers; the prefix of each live route is found by its number
pub record IsPrefixes (x : Prefixes) (k : List Entry) : Type 0 where
  pub buckets : (net length high : ℕ) → length ≤ 32 → bucket_at x.buckets ((net, length), high) ≡ sorted smaller_route (filter (in_bucket length high) (routes k net))
  pub prefixes : (net number : ℕ) → hash.get pair_eq x.prefixes (net, number) ≡ option_map (λ route. route.prefix) (find (λ route. route.number == number) (routes k net))
  pub once : (net number : ℕ) → Once (λ route. route.number == number) (routes k net)
