-- What hosts and gateways decide of a parcel by all operations of their tables.
use Rattle.std.specs.Prelude.{◌≡◌, ◌≤◌, ℕ, Bool, true, false, List, [], ◌∷◌, length, Result, Ok, Err}
use Rattle.and_policy.specs.declared.cached.Cached.{Cached}
use Rattle.and_policy.specs.declared.decision.Decision.{Decision}
use Rattle.and_policy.specs.declared.decision.GateDecision.{GateDecision}
use Rattle.and_policy.specs.declared.decision.GateDecision.TheVariants as gates
use Rattle.and_policy.specs.declared.decision.Outcome.TheVariants as outcomes
use Rattle.and_policy.specs.declared.entry.FlowKey.{FlowKey}
use Rattle.and_policy.specs.declared.entry.Op.{Op}
use Rattle.and_policy.specs.declared.entry.Side.{Side}
use Rattle.and_policy.specs.declared.entry.Side.TheVariants as sides
use Rattle.and_policy.specs.declared.packet.Tuple.{Tuple}
use Rattle.and_policy.specs.Caches.{Cache, said, way}
use Rattle.and_policy.specs.Frames.{tuple_in}
use Rattle.and_policy.specs.Ingress.{landing}
use Rattle.and_policy.specs.Logs.{rules, vm_of}
use Rattle.and_policy.specs.Owners.{routed, located}
use Rattle.and_policy.specs.Programmes.{entries, prefix, leaving, own_net}
use Rattle.and_parcel.specs.Parcels.{ParcelView}
use Rattle.and_tables.specs.HostViews.{HostView}
use Rattle.and_decide.specs.declared.behind.Behind.{Behind}

-- the tuple of the frame in the parcel
abbrev pub tuple_of : ParcelView → Tuple
tuple_of parcel = tuple_in parcel.frame

-- by which the flow cache is asked of a parcel that leaves its VM, and of one that has come into a network
abbrev pub leaving_key : ParcelView → FlowKey
leaving_key parcel = record { side = sides.Egress; scope = parcel.vm; tuple = tuple_of parcel }

abbrev pub landing_key : ℕ → ParcelView → FlowKey
landing_key vni parcel = record { side = sides.Ingress; scope = vni; tuple = tuple_of parcel }

-- the policy's decision of a parcel that leaves its VM: by all operations of the tables, and found as the cache gives it
abbrev pub departure : HostView → Cache → ParcelView → Decision
departure t c parcel =
    record {
      at = length t.ops;
      way = way t.gateways c t.ops (length t.ops) (leaving_key parcel);
      outcome = outcomes.Leaving (leaving t.gateways t.ops (length t.ops) parcel.vm (tuple_of parcel));
    }

-- the same of a parcel that has come into the network
abbrev pub arrival : HostView → Cache → ℕ → ParcelView → Decision
arrival t c vni parcel =
    record {
      at = length t.ops;
      way = way t.gateways c t.ops (length t.ops) (landing_key vni parcel);
      outcome = outcomes.Landing (landing (prefix t.ops (length t.ops)) vni (tuple_of parcel));
    }

-- the policy's decision of a parcel at a gateway, by its redirect or its route address
abbrev pub passage : List Op → Bool → ℕ → ParcelView → GateDecision
passage ops true vni parcel = gates.Located (length ops) (located (entries ops) vni (tuple_of parcel).destination)
passage ops false vni parcel = gates.Routed (length ops) (routed (entries ops) vni (tuple_of parcel).destination)

-- a decision at this number
abbrev pub IsAt : ℕ → Result Decision Behind → Type 0
IsAt at (Ok d) = d.at ≡ at
IsAt at (Err e) = ⊥

-- a decision at this number, of the kind that the address asks for
abbrev pub IsPassage : ℕ → Bool → Result GateDecision Behind → Type 0
IsPassage at true (Ok (gates.Located number located)) = number ≡ at
IsPassage at false (Ok (gates.Routed number routed)) = number ≡ at
IsPassage at redirect _ = ⊥

-- the network of a key: that of the source VM, or the destination network
abbrev pub net_of_side : HostView → Side → ℕ → ℕ
net_of_side t sides.Egress vm = own_net (vm_of (entries t.ops) vm)
net_of_side t sides.Ingress net = net

abbrev pub net_of_key : HostView → FlowKey → ℕ
net_of_key t key = net_of_side t key.side key.scope

-- how many live rules the source VM's network has
abbrev pub rules_leaving : HostView → ParcelView → ℕ
rules_leaving t parcel = length (rules (entries t.ops) (own_net (vm_of (entries t.ops) parcel.vm)))

-- how many live rules the network has
abbrev pub rules_landing : HostView → ℕ → ℕ
rules_landing t vni = length (rules (entries t.ops) vni)

-- ---- what a cache needs

-- each element, one after the other
abbrev pub Each : {A : Type 0} → (A → Type 0) → List A → Type 0
Each P [] = Unit {0}
Each P (x ∷ xs) = P x × Each P xs

-- an entry is what the first operations of the tables say of its key, as many as its stamp
abbrev pub IsRight : HostView → Cached → Type 0
IsRight t x = (x.stamp ≤ length t.ops) × (x.outcome ≡ said t.gateways t.ops x.stamp x.key)

-- each entry of each group is
abbrev pub AreRight : HostView → Cache → Type 0
AreRight t c = Each (Each (IsRight t)) c
