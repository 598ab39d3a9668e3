-- What the rules say, and what they say of a packet that leaves its VM.
use Rattle.std.specs.Prelude.{ℕ, ◌==◌, ◌&&◌, ◌||◌, Bool, true, false, nat_lt, if◌then◌else◌, List, Option, Some, None}
use Rattle.std.specs.List.{filter}
use Rattle.and_policy.specs.declared.packet.Tuple.{Tuple}
use Rattle.and_policy.specs.declared.entry.Entry.{Entry}
use Rattle.and_policy.specs.declared.entry.Rule.{Rule}
use Rattle.and_policy.specs.declared.entry.Side.{Side}
use Rattle.and_policy.specs.declared.entry.Side.TheVariants as sides
use Rattle.and_policy.specs.declared.decision.Name.{Name}
use Rattle.and_policy.specs.declared.decision.Name.TheVariants as names
use Rattle.and_policy.specs.declared.decision.Verdict.{Verdict}
use Rattle.and_policy.specs.declared.decision.Exit.{Exit}
use Rattle.and_policy.specs.declared.decision.Exit.TheVariants.{NoVm, Spoofed, Denied, Allowed}
use Rattle.and_policy.specs.Matching.{matches, is_side, least}
use Rattle.and_policy.specs.Logs.{Vm, vm_of, rules}

-- the smaller priority comes first, and of one priority the smaller number
abbrev pub rule_before : Rule → Rule → Bool
rule_before a b = nat_lt a.priority b.priority || ((a.priority == b.priority) && nat_lt a.number b.number)

-- the rule that decides on this side: of those that match, the first
abbrev pub deciding_rule : Side → Tuple → List Rule → Option Rule
deciding_rule side x list = least rule_before (filter (λ rule. is_side rule.side side && matches x rule) list)

abbrev pub is_egress : Side → Bool
is_egress sides.Egress = true
is_egress sides.Ingress = false

-- where no rule matches, a packet may leave and may not enter
abbrev pub verdict_by : Side → Option Rule → Verdict
verdict_by side None = record { by = names.Implied; allow = is_egress side; sealed = false }
verdict_by side (Some rule) = record { by = names.Rule rule.number; allow = rule.allow; sealed = rule.sealed }

abbrev pub verdict : Side → Tuple → List Rule → Verdict
verdict side x list = verdict_by side (deciding_rule side x list)

-- the number of what denied; the implied verdict of egress never does
abbrev pub number_of : Name → ℕ
number_of names.Implied = 0
number_of (names.Rule number) = number

abbrev pub exit_by : Verdict → Exit
exit_by v = if v.allow then Allowed v.by v.sealed else Denied (number_of v.by)

abbrev pub exit_of : List Entry → Tuple → Option Vm → Exit
exit_of k x None = NoVm
exit_of k x (Some v) = if x.source == v.ip then exit_by (verdict sides.Egress x (rules k v.net)) else Spoofed

-- what the entries k say of a packet of this VM
abbrev pub egress : List Entry → ℕ → Tuple → Exit
egress k vm x = exit_of k x (vm_of k vm)
