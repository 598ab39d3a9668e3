-- Which entries fit a log.
use Rattle.std.specs.Prelude.{◌≡◌, ℕ, ◌==◌, ◌&&◌, not, Bool, false, nat_lt, nat_le, List, [], ◌∷◌, length, take, slice_get, Option, Some, None}
use Rattle.std.specs.List.{list_any}
use Rattle.and_policy.specs.declared.entry.Entry.{Entry}
use Rattle.and_policy.specs.declared.entry.Entry.TheVariants.{AddNet, AddVm, RemoveVm, Place, AddRule, DelRule, AddRoute, DelRoute, Tick}
use Rattle.and_policy.specs.declared.entry.Target.{Target}
use Rattle.and_policy.specs.declared.entry.Target.TheVariants as targets
use Rattle.and_policy.specs.declared.entry.EntryFault.{EntryFault}
use Rattle.and_policy.specs.declared.entry.EntryFault.TheVariants.{NoNet, NetTaken, NoVm, VmTaken, MacTaken, AddressTaken, NoHost, NoRule, RuleTaken, NoRoute, RouteTaken, TooMany}
use Rattle.and_policy.specs.Checks.{first_failing}
use Rattle.and_policy.specs.Logs.{nets, has_net, added, vms, is_live, rules, has_rule, routes, has_route}

-- where the number of hosts is known, the host is none of them
abbrev pub no_host : Option ℕ → ℕ → Bool
no_host None host = false
no_host (Some hosts) host = not (nat_lt host hosts)

-- the target is a network that is not there
abbrev pub no_peer : List Entry → Target → Bool
no_peer k (targets.Peer net) = not (has_net k net)
no_peer k _ = false

-- the checks of an entry after the entries k, in their order
abbrev pub entry_checks : Option ℕ → List Entry → Entry → List (Bool × EntryFault)
entry_checks hosts k (AddNet net) = (has_net k net, NetTaken) ∷ (nat_le 64 (length (nets k)), TooMany) ∷ []
entry_checks hosts k (AddVm vm net mac ip host) =
    (not (has_net k net), NoNet)
    ∷ (list_any (λ v. v.number == vm) (added k), VmTaken)
    ∷ (no_host hosts host, NoHost)
    ∷ (list_any (λ v. v.mac == mac) (vms k), MacTaken)
    ∷ (list_any (λ v. (v.net == net) && (v.ip == ip)) (vms k), AddressTaken)
    ∷ (nat_le 1024 (length (added k)), TooMany)
    ∷ []
entry_checks hosts k (RemoveVm vm) = (not (is_live k vm), NoVm) ∷ []
entry_checks hosts k (Place vm host) = (not (is_live k vm), NoVm) ∷ (no_host hosts host, NoHost) ∷ []
entry_checks hosts k (AddRule net rule) =
    (not (has_net k net), NoNet) ∷ (has_rule k net rule.number, RuleTaken) ∷ (nat_le 256 (length (rules k net)), TooMany) ∷ []
entry_checks hosts k (DelRule net number) = (not (has_net k net), NoNet) ∷ (not (has_rule k net number), NoRule) ∷ []
entry_checks hosts k (AddRoute net route) =
    (not (has_net k net), NoNet)
    ∷ (no_peer k route.target, NoNet)
    ∷ (has_route k net route.number, RouteTaken)
    ∷ (nat_le 256 (length (routes k net)), TooMany)
    ∷ []
entry_checks hosts k (DelRoute net number) = (not (has_net k net), NoNet) ∷ (not (has_route k net number), NoRoute) ∷ []
entry_checks hosts k Tick = []

-- the first check of the entry that fails after the entries k; none where the entry fits
abbrev pub fits : Option ℕ → List Entry → Entry → Option EntryFault
fits hosts k entry = first_failing (entry_checks hosts k entry)

-- each entry fits the entries before it
abbrev pub IsLog : Option ℕ → List Entry → Type 0
IsLog hosts k = (j : ℕ) (entry : Entry) → slice_get k j ≡ Some entry → fits hosts (take j k) entry ≡ None
