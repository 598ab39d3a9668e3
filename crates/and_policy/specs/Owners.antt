-- Who has an address, and where it is.
use Rattle.std.specs.Prelude.{ℕ, ◌==◌, ◌&&◌, if◌then◌else◌, List, [], ◌∷◌, Option, Some, None, option_map}
use Rattle.std.specs.List.{find}
use Rattle.and_policy.specs.declared.entry.Entry.{Entry}
use Rattle.and_policy.specs.declared.entry.Entry.TheVariants.{AddVm, Place}
use Rattle.and_policy.specs.declared.decision.Name.{Name}
use Rattle.and_policy.specs.declared.decision.Routing.{Routing}
use Rattle.and_policy.specs.declared.decision.Routing.TheVariants as routings
use Rattle.and_policy.specs.declared.decision.Routed.{Routed}
use Rattle.and_policy.specs.declared.decision.Routed.TheVariants as routeds
use Rattle.and_policy.specs.declared.decision.Located.{Located}
use Rattle.and_policy.specs.declared.decision.Located.TheVariants as locateds
use Rattle.and_policy.specs.Logs.{vms}
use Rattle.and_policy.specs.Routes.{route}

-- the live VM of the network with this address. In a log there is at most one
abbrev pub owner : List Entry → ℕ → ℕ → Option ℕ
owner k net address = option_map (λ v. v.number) (find (λ v. (v.net == net) && (v.ip == address)) (vms k))

-- the host to which an entry brings the VM
abbrev pub host_by : ℕ → Entry → Option ℕ
host_by vm (AddVm v net mac ip host) = if v == vm then Some host else None
host_by vm (Place v host) = if v == vm then Some host else None
host_by vm _ = None

abbrev pub or_else : Option ℕ → Option ℕ → Option ℕ
or_else (Some host) earlier = Some host
or_else None earlier = earlier

-- the host of the VM's last AddVm or Place entry
abbrev pub place : List Entry → ℕ → Option ℕ
place [] vm = None
place (entry ∷ later) vm = or_else (place later vm) (host_by vm entry)

-- the place of the owner, where there is one
abbrev pub owner_place : List Entry → ℕ → ℕ → Option ℕ
owner_place k net address = place_of k (owner k net address)
  where
    place_of : List Entry → Option ℕ → Option ℕ
    place_of k None = None
    place_of k (Some vm) = place k vm

abbrev pub routed_at : Name → ℕ → Option ℕ → Routed
routed_at by net None = routeds.NoOwner by
routed_at by net (Some host) = routeds.To by net host

abbrev pub routed_by : List Entry → ℕ → Routing → Routed
routed_by k address (routings.Dropped by) = routeds.Dropped by
routed_by k address (routings.Into by net) = routed_at by net (owner_place k net address)

-- the route of the network for the address, and the place of the address's owner in the network where it leads
abbrev pub routed : List Entry → ℕ → ℕ → Routed
routed k net address = routed_by k address (route k net address)

abbrev pub located_at : Option ℕ → Located
located_at None = locateds.NoOwner
located_at (Some host) = locateds.To host

-- the place of the address's owner in the network itself
abbrev pub located : List Entry → ℕ → ℕ → Located
located k net address = located_at (owner_place k net address)
