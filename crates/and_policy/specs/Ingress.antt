-- What the rules say of a packet that has come for a VM.
use Rattle.std.specs.Prelude.{ℕ, List, Option, Some, None}
use Rattle.and_policy.specs.declared.packet.Tuple.{Tuple}
use Rattle.and_policy.specs.declared.entry.Entry.{Entry}
use Rattle.and_policy.specs.declared.entry.Side.TheVariants as sides
use Rattle.and_policy.specs.declared.decision.Verdict.{Verdict}
use Rattle.and_policy.specs.declared.decision.Landing.{Landing}
use Rattle.and_policy.specs.declared.decision.Landing.TheVariants.{NoOwner, Owned}
use Rattle.and_policy.specs.Logs.{rules}
use Rattle.and_policy.specs.Egress.{verdict}
use Rattle.and_policy.specs.Owners.{owner}

abbrev pub owned_by : ℕ → Verdict → Landing
owned_by vm v = Owned vm v.by v.allow

abbrev pub landing_at : List Entry → ℕ → Tuple → Option ℕ → Landing
landing_at k net x None = NoOwner
landing_at k net x (Some vm) = owned_by vm (verdict sides.Ingress x (rules k net))

-- the owner of the destination in the network, and the verdict of the network's ingress rules
abbrev pub landing : List Entry → ℕ → Tuple → Landing
landing k net x = landing_at k net x (owner k net x.destination)
