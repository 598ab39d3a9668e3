-- Lines of VMs, as the code puts them.
use Rattle.std.specs.Prelude.{◌≡◌, ℕ, ◌+◌, ◌<◌, ◌==◌, if◌then◌else◌, length, slice_index, codes, List, [], ◌∷◌, Option, Some, None}
use Rattle.std.specs.Fmt.{decimal}
use Rattle.std.specs.List.{count_by}
use Rattle.and_events.specs.declared.plan.Packet.{Packet}
use Rattle.and_report.specs.Report.{line}

-- one more at a place
abbrev pub RaisedAt : ℕ → List ℕ → List ℕ → Type 0
RaisedAt at old new = (j : ℕ) → j < length old → slice_index new j ≡ slice_index old j + (if at == j then 1 else 0)

-- how many of the packets each VM sent, by number
abbrev pub AreSent : List Packet → ℕ → List ℕ → Type 0
AreSent packets vms sent = (vm : ℕ) → vm < vms → slice_index sent vm ≡ count_by (λ p. p.vm == vm) packets

-- the line of a VM with these counts
abbrev pub vm_counted : List ℕ → ℕ → ℕ → List ℕ
vm_counted name sent received =
    line (codes "vm" ∷ name ∷ codes "sent" ∷ decimal sent ∷ codes "received" ∷ decimal received ∷ [])

-- the same, where the VM has a network, as each has that the log adds
abbrev pub vm_counted_if : Option ℕ → List ℕ → ℕ → ℕ → List ℕ
vm_counted_if None name sent received = []
vm_counted_if (Some net) name sent received = vm_counted name sent received
