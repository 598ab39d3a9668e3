-- What the placements of VMs have of a list of entries, whether or not each fits those before it.
use Rattle.std.specs.Prelude.{◌≡◌, ℕ, ◌<◌, ◌≤◌, ◌^◌, ◌==◌, nat_eq, if◌then◌else◌, List, length, Option, Some, None, option_map}
use Rattle.std.specs.HashMap as hash
use Rattle.and_policy.specs.declared.entry.Entry.{Entry}
use Rattle.and_policy.specs.declared.entry.Entry.TheVariants.{AddVm}
use Rattle.and_policy.specs.declared.placements.Placements.{Placements}
use Rattle.and_policy.specs.Owners.{place}
use Rattle.and_policy.specs.Programmes.{net_of_vm, added_at}

-- the network in which an entry adds the VM
abbrev pub net_by : ℕ → Entry → Option ℕ
net_by vm (AddVm v net mac ip host) = if v == vm then Some net else None
net_by vm _ = None

-- they say of each VM to which network the first entry adds it, which entry that is, and the host to which the last entry brings
-- it. They count the entries as far as 32 bits go
pub record ArePlacements (p : Placements) (k : List Entry) : Type 0 where
  pub count : length k < 2 ^ 32 → p.count ≡ length k
  pub networks : (vm : ℕ) → option_map (λ a. a.net) (hash.get nat_eq p.additions vm) ≡ net_of_vm k vm
  pub numbers : length k < 2 ^ 32 → (vm : ℕ) → option_map (λ a. a.number) (hash.get nat_eq p.additions vm) ≡ added_at k vm
  pub hosts : (vm : ℕ) → hash.get nat_eq p.hosts vm ≡ place k vm

-- the same look-ups
pub record AreSamePlacements (p q : Placements) : Type 0 where
  pub count : q.count ≡ p.count
  pub additions : (vm : ℕ) → hash.get nat_eq q.additions vm ≡ hash.get nat_eq p.additions vm
  pub hosts : (vm : ℕ) → hash.get nat_eq q.hosts vm ≡ hash.get nat_eq p.hosts vm

-- so many entries more take no memory
pub record HasRoom (n : ℕ) (p : Placements) : Type 0 where
  pub additions : n ≤ hash.spare p.additions
  pub hosts : n ≤ hash.spare p.hosts
