-- What the register of VMs has of a log.
use Rattle.std.specs.Prelude.{◌≡◌, ℕ, ◌==◌, ◌&&◌, Bool, ◌<◌, nat_eq, List, length, option_map}
use Rattle.std.specs.List.{find}
use Rattle.std.specs.HashMap as hash
use Rattle.and_policy.specs.declared.entry.Entry.{Entry}
use Rattle.and_policy.specs.declared.register.Register.{Register}
use Rattle.and_policy.specs.declared.register.Residence.{Residence}
use Rattle.and_policy.specs.Logs.{Vm, added, vms, vm_of}
use Rattle.and_policy.specs.Once.{Once}
use Rattle.and_policy.specs.Owners.{owner}
use Rattle.and_policy.specs.Placements as placements
use Rattle.and_policy.specs.Placements.{ArePlacements}

-- how the keys of two numbers are compared
abbrev pub pair_eq : ℕ × ℕ → ℕ × ℕ → Bool
pair_eq a b = (a.0 == b.0) && (a.1 == b.1)

-- network and addresses of a VM
abbrev pub residence_of : Vm → Residence
residence_of v = record { net = v.net; mac = v.mac; ip = v.ip }

-- the tests by which VMs are found
abbrev pub is_numbered : ℕ → Vm → Bool
is_numbered vm v = v.number == vm

abbrev pub has_mac : ℕ → Vm → Bool
has_mac mac v = v.mac == mac

abbrev pub has_address : ℕ → ℕ → Vm → Bool
has_address net ip v = (v.net == net) && (v.ip == ip)

-- what a register says of live VMs is what the entries k have: of each its network and addresses, and who has an address. No two
-- have the same number or address
pub record AreLive (r : Register) (k : List Entry) : Type 0 where
  pub count : r.count ≡ length (added k)
  pub residents : (vm : ℕ) → hash.get nat_eq r.residents vm ≡ option_map residence_of (vm_of k vm)
  pub owners : (net ip : ℕ) → hash.get pair_eq r.owners (net, ip) ≡ owner k net ip
  pub macs : (mac : ℕ) → hash.get nat_eq r.macs mac ≡ option_map (λ v. v.number) (find (has_mac mac) (vms k))
  pub one_numbered : (vm : ℕ) → Once (is_numbered vm) (vms k)
  pub one_addressed : (net ip : ℕ) → Once (has_address net ip) (vms k)
  pub one_mac : (mac : ℕ) → Once (has_mac mac) (vms k)

-- the register says what the entries k have: of each VM that was added its network, its entry and its place, and how many these are; and of
-- the live ones the above
pub record IsRegister (r : Register) (k : List Entry) : Type 0 where
  pub placements : ArePlacements r.placements k
  pub live : AreLive r k

-- the same look-ups
pub record IsSameRegister (r s : Register) : Type 0 where
  pub placements : (k : List Entry) → ArePlacements r.placements k → ArePlacements s.placements k
  pub count : s.count ≡ r.count
  pub residents : (vm : ℕ) → hash.get nat_eq s.residents vm ≡ hash.get nat_eq r.residents vm
  pub owners : (q : ℕ × ℕ) → hash.get pair_eq s.owners q ≡ hash.get pair_eq r.owners q
  pub macs : (mac : ℕ) → hash.get nat_eq s.macs mac ≡ hash.get nat_eq r.macs mac

-- one VM more takes no memory, beside its placement
pub record HasLiveRoom (r : Register) : Type 0 where
  pub residents : 0 < hash.spare r.residents
  pub owners : 0 < hash.spare r.owners
  pub macs : 0 < hash.spare r.macs

-- one entry more takes no memory
pub record HasRoom (r : Register) : Type 0 where
  pub placements : placements.HasRoom 1 r.placements
  pub live : HasLiveRoom r
