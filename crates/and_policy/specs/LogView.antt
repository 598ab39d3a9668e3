-- What contracts see of a log.
use Rattle.std.specs.Prelude.{ℕ, List, ◌++◌, ◌∷◌, [], Bool, true, false}
use Rattle.and_policy.specs.declared.entry.Entry.{Entry}
use Rattle.and_policy.specs.declared.entry.Entry.TheVariants.{AddNet, AddVm, AddRule}

-- the number of hosts, and the entries, the oldest first
pub record LogView : Type 0 where
  pub hosts : ℕ
  pub entries : List Entry

-- the log with one entry more
abbrev pub with_entry : LogView → Entry → LogView
with_entry log entry = record { hosts = log.hosts; entries = log.entries ++ entry ∷ [] }

-- the entry adds a network, a VM or a rule
abbrev pub is_first : Entry → Bool
is_first (AddNet net) = true
is_first (AddVm vm net mac ip host) = true
is_first (AddRule net rule) = true
is_first _ = false
