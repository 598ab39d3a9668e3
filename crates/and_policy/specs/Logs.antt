-- What a prefix of the log has. All are filters of the list of entries, the oldest first.
use Rattle.std.specs.Prelude.{ℕ, ◌+◌, ◌==◌, ◌&&◌, not, Bool, false, if◌then◌else◌, List, [], ◌∷◌, Option}
use Rattle.std.specs.List.{list_any, find}
use Rattle.and_policy.specs.declared.entry.Entry.{Entry}
use Rattle.and_policy.specs.declared.entry.Entry.TheVariants.{AddNet, AddVm, RemoveVm, AddRule, DelRule, AddRoute, DelRoute, Tick}
use Rattle.and_policy.specs.declared.entry.Rule.{Rule}
use Rattle.and_policy.specs.declared.entry.Route.{Route}

-- a VM as its entry added it
pub record Vm : Type 0 where
  pub number : ℕ
  pub net : ℕ
  pub mac : ℕ
  pub ip : ℕ
  pub host : ℕ

-- the networks
abbrev pub nets : List Entry → List ℕ
nets [] = []
nets (AddNet net ∷ later) = net ∷ nets later
nets (_ ∷ later) = nets later

abbrev pub has_net : List Entry → ℕ → Bool
has_net k net = list_any (λ n. n == net) (nets k)

-- the VMs that were added, whether they were removed since or not
abbrev pub added : List Entry → List Vm
added [] = []
added (AddVm vm net mac ip host ∷ later) = record { number = vm; net = net; mac = mac; ip = ip; host = host } ∷ added later
added (_ ∷ later) = added later

abbrev pub removes : ℕ → Entry → Bool
removes vm (RemoveVm v) = v == vm
removes vm _ = false

-- the live VMs: those that no later entry removes
abbrev pub vms : List Entry → List Vm
vms [] = []
vms (AddVm vm net mac ip host ∷ later) =
    if list_any (removes vm) later then vms later else record { number = vm; net = net; mac = mac; ip = ip; host = host } ∷ vms later
vms (_ ∷ later) = vms later

-- the live VM of this number
abbrev pub vm_of : List Entry → ℕ → Option Vm
vm_of k vm = find (λ v. v.number == vm) (vms k)

abbrev pub is_live : List Entry → ℕ → Bool
is_live k vm = list_any (λ v. v.number == vm) (vms k)

abbrev pub deletes_rule : ℕ → ℕ → Entry → Bool
deletes_rule net number (DelRule n m) = (n == net) && (m == number)
deletes_rule net number _ = false

-- the live rules of the network: those that no later entry deletes
abbrev pub rules : List Entry → ℕ → List Rule
rules [] net = []
rules (AddRule n rule ∷ later) net =
    if (n == net) && not (list_any (deletes_rule net rule.number) later) then rule ∷ rules later net else rules later net
rules (_ ∷ later) net = rules later net

abbrev pub has_rule : List Entry → ℕ → ℕ → Bool
has_rule k net number = list_any (λ rule. rule.number == number) (rules k net)

abbrev pub deletes_route : ℕ → ℕ → Entry → Bool
deletes_route net number (DelRoute n m) = (n == net) && (m == number)
deletes_route net number _ = false

-- the live routes of the network: those that no later entry deletes
abbrev pub routes : List Entry → ℕ → List Route
routes [] net = []
routes (AddRoute n route ∷ later) net =
    if (n == net) && not (list_any (deletes_route net route.number) later) then route ∷ routes later net else routes later net
routes (_ ∷ later) net = routes later net

abbrev pub has_route : List Entry → ℕ → ℕ → Bool
has_route k net number = list_any (λ route. route.number == number) (routes k net)

-- the number of ticks
abbrev pub now : List Entry → ℕ
now [] = 0
now (Tick ∷ later) = 1 + now later
now (_ ∷ later) = now later
