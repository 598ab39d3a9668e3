-- The plain state of a script, before anything runs, and what its items and steps ask of it.
use Rattle.std.specs.Prelude.{◌≡◌, ℕ, suc, ◌+◌, Bool, true, false, ◌==◌, ◌&&◌, ◌||◌, not, nat_lt, nat_le, if◌then◌else◌, List, [], ◌∷◌, ◌++◌, length, Option, Some, None, unwrap_or}
use Rattle.std.specs.List.{list_any, filter, find}
use Rattle.and_policy.specs.declared.entry.Entry.{Entry}
use Rattle.and_policy.specs.declared.entry.Entry.TheVariants as entries
use Rattle.and_policy.specs.declared.entry.EntryFault.{EntryFault}
use Rattle.and_policy.specs.declared.entry.EntryFault.TheVariants as faults
use Rattle.and_policy.specs.Checks.{first_failing}
use Rattle.and_policy.specs.Logs.{Vm, vms, is_live}
use Rattle.and_policy.specs.Fitting.{fits}
use Rattle.and_policy.specs.Owners.{place}
use Rattle.and_events.specs.declared.event.Node.{Node}
use Rattle.and_events.specs.declared.event.Node.TheVariants.{Host, Gate}
use Rattle.and_events.specs.declared.plan.What.{What}
use Rattle.and_events.specs.declared.plan.What.TheVariants.{Install, Forward}
use Rattle.and_events.specs.declared.plan.ItemFault.{ItemFault}
use Rattle.and_events.specs.declared.plan.ItemFault.TheVariants as item_faults
use Rattle.and_events.specs.declared.plan.Item.{Item}
use Rattle.and_events.specs.declared.plan.Item.TheVariants as items
use Rattle.and_events.specs.declared.plan.Settings.{Settings}

-- a VM on its way to a host
pub record Moving : Type 0 where
  pub vm : ℕ
  pub to : ℕ

-- what is held at a node
pub record HeldAt : Type 0 where
  pub node : Node
  pub what : What

pub record Script : Type 0 where
  pub log : List Entry
  pub moving : List Moving
  pub holds : List HeldAt

abbrev pub at_start : Script
at_start = record { log = []; moving = []; holds = [] }

abbrev pub same_node : Node → Node → Bool
same_node (Host a) (Host b) = a == b
same_node (Gate a) (Gate b) = a == b
same_node _ _ = false

abbrev pub same_what : What → What → Bool
same_what Install Install = true
same_what Forward Forward = true
same_what _ _ = false

abbrev pub is_hold : Node → What → HeldAt → Bool
is_hold node what h = same_node h.node node && same_what h.what what

abbrev pub holds_at : Script → Node → What → Bool
holds_at p node what = list_any (is_hold node what) p.holds

abbrev pub is_node : Settings → Node → Bool
is_node s (Host h) = nat_lt h s.hosts
is_node s (Gate g) = nat_lt g s.gateways

-- the host to which the VM is on its way
abbrev pub target_of : Script → ℕ → Option ℕ
target_of p vm = target_in (find (λ m. m.vm == vm) p.moving)
  where
    target_in : Option Moving → Option ℕ
    target_in None = None
    target_in (Some m) = Some m.to

abbrev pub is_moving : Script → ℕ → Bool
is_moving p vm = list_any (λ m. m.vm == vm) p.moving

abbrev pub is_place : Option ℕ → ℕ → Bool
is_place None host = false
is_place (Some h) host = h == host

-- what an entry asks beside its place in the log
abbrev pub beside : Script → Entry → List (Bool × ItemFault)
beside p (entries.AddVm vm net mac ip host) = (holds_at p (Host host) Install, item_faults.Held) ∷ []
beside p (entries.RemoveVm vm) = (is_moving p vm, item_faults.Paused) ∷ []
beside p _ = []

abbrev pub entry_first : Option EntryFault → Option ItemFault → Option ItemFault
entry_first (Some fault) other = Some (item_faults.Entry fault)
entry_first None other = other

-- the first check of the item that fails in the plain state
abbrev pub item_fault : Settings → Script → Item → Option ItemFault
item_fault s p (items.Entry e) = entry_first (fits (Some s.hosts) p.log e) (first_failing (beside p e))
item_fault s p items.Wait = None
item_fault s p (items.Send frames) = None
item_fault s p (items.Blackout vm host) = first_failing (
    (not (is_live p.log vm), item_faults.Entry faults.NoVm)
    ∷ (not (nat_lt host s.hosts), item_faults.Entry faults.NoHost)
    ∷ (is_moving p vm, item_faults.Paused)
    ∷ (is_place (place p.log vm) host, item_faults.SameHost)
    ∷ (holds_at p (Host host) Install, item_faults.Held)
    ∷ [])
item_fault s p (items.Resume vm) = first_failing ((not (is_live p.log vm), item_faults.Entry faults.NoVm) ∷ (not (is_moving p vm), item_faults.NotPaused) ∷ [])
item_fault s p (items.Hold node what) = first_failing ((not (is_node s node), item_faults.NoNode) ∷ (holds_at p node what, item_faults.HoldTaken) ∷ [])
item_fault s p (items.Free node what) = first_failing ((not (is_node s node), item_faults.NoNode) ∷ (not (holds_at p node what), item_faults.NoHold) ∷ [])

-- the plain state after an item that fits
abbrev pub script_after : Script → Item → Script
script_after p (items.Entry e) = record p { log = p.log ++ e ∷ [] }
script_after p items.Wait = p
script_after p (items.Send frames) = p
script_after p (items.Blackout vm host) = record p { moving = p.moving ++ record { vm = vm; to = host } ∷ [] }
script_after p (items.Resume vm) =
    record p { log = p.log ++ entries.Place vm (unwrap_or (target_of p vm) 0) ∷ []; moving = filter (λ m. not (m.vm == vm)) p.moving }
script_after p (items.Hold node what) = record p { holds = p.holds ++ record { node = node; what = what } ∷ [] }
script_after p (items.Free node what) = record p { holds = filter (λ h. not (is_hold node what h)) p.holds }

-- the live VM with this Ethernet address
abbrev pub source_vm : List Entry → ℕ → Option Vm
source_vm k mac = find (λ v. v.mac == mac) (vms k)
