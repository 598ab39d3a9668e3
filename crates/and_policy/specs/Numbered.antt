-- The numbers of live rules, or of live routes, by network.
use Rattle.std.specs.Prelude.{◌≡◌, ℕ, ◌<◌, ◌==◌, not, Bool, nat_eq, if◌then◌else◌, List, [], ◌∷◌, ◌++◌, length, map, unwrap_or}
use Rattle.std.specs.List.{list_any, filter}
use Rattle.std.specs.HashMap as hash
use Rattle.std.specs.HashSet as bag
use Rattle.and_policy.specs.declared.entry.Entry.{Entry}
use Rattle.and_policy.specs.declared.numbered.Numbered.{Numbered}
use Rattle.and_policy.specs.Logs.{rules, routes}
use Rattle.and_policy.specs.Once.{Once}
use Rattle.and_policy.specs.Registers.{pair_eq}

abbrev pub rule_numbers : List Entry → ℕ → List ℕ
rule_numbers k net = map (λ rule. rule.number) (rules k net)

abbrev pub route_numbers : List Entry → ℕ → List ℕ
route_numbers k net = map (λ route. route.number) (routes k net)

-- with one number more at the network
abbrev pub with_number : (ℕ → List ℕ) → ℕ → ℕ → ℕ → List ℕ
with_number f net number q = f q ++ (if net == q then number ∷ [] else [])

-- the list without the elements of this number, where they are of the same network
abbrev pub less : {A : Type 0} → (A → ℕ) → Bool → ℕ → List A → List A
less number same n xs = if same then filter (λ x. not (number x == n)) xs else xs

-- without the number at the network
abbrev pub without_number : (ℕ → List ℕ) → ℕ → ℕ → ℕ → List ℕ
without_number f net number q = less (λ n. n) (net == q) number (f q)

-- the tables say which numbers each network has, and how many; none stands twice
pub record IsNumbered (x : Numbered) (f : ℕ → List ℕ) : Type 0 where
  pub counts : (net : ℕ) → unwrap_or (hash.get nat_eq x.counts net) 0 ≡ length (f net)
  pub live : (net number : ℕ) → bag.contains pair_eq x.live (net, number) ≡ list_any (λ n. n == number) (f net)
  pub once : (net number : ℕ) → Once (λ n. n == number) (f net)

-- the same look-ups
pub record IsSameNumbered (x y : Numbered) : Type 0 where
  pub counts : (net : ℕ) → hash.get nat_eq y.counts net ≡ hash.get nat_eq x.counts net
  pub live : (q : ℕ × ℕ) → bag.contains pair_eq y.live q ≡ bag.contains pair_eq x.live q

-- one number more takes no memory
pub record HasRoom (x : Numbered) : Type 0 where
  pub counts : 0 < hash.spare x.counts
  pub live : 0 < bag.spare x.live
