-- The VMs of a drill: forty, over four networks and eight hosts.
use Rattle.std.specs.Prelude.{ℕ, ◌+◌, ◌%◌, List, ◌∷◌}
use Rattle.std.specs.Fmt.{decimal}

-- `v` and the VM's number
abbrev pub name_of : ℕ → List ℕ
name_of vm = 118 ∷ decimal vm

-- the VNI
abbrev pub network_of : ℕ → ℕ
network_of vm = 1 + vm % 4

-- from 02:00:00:00:00:01 on
abbrev pub mac_of : ℕ → ℕ
mac_of vm = 0x020000000001 + vm

-- from 10.0.0.1 on
abbrev pub address_of : ℕ → ℕ
address_of vm = 0x0a000001 + vm

-- where it is added
abbrev pub host_of : ℕ → ℕ
host_of vm = vm % 8
