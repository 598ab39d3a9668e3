-- The ports: for each VM, by number, its port at each host.
use Rattle.std.specs.Prelude.{◌≡◌, ℕ, Bool, true, false, List, [], ◌∷◌, length, slice_set, slice_index_or, replicate, Option, Some, None, position, unwrap_or}
use Rattle.and_policy.specs.declared.port.Port.{Port}
use Rattle.and_policy.specs.declared.port.Port.TheVariants.{Absent, Running, Paused, Arriving, Hairpin}

-- what an event does to the ports
pub data PortMove : Type 0 where
  Unmoved : PortMove
  Boot : (host vm : ℕ) → PortMove  -- the VM runs there
  Halt : (vm : ℕ) → PortMove  -- it has no port any more
  Pause : (vm old new : ℕ) → PortMove  -- paused at the old host, arriving at the new
  Arrive : (vm old new entry : ℕ) → PortMove  -- it runs at the new host, by this log entry
  Unpinned : (host vm : ℕ) → PortMove  -- its hairpin there goes

abbrev pub ports_of : List (List Port) → ℕ → List Port
ports_of ports vm = slice_index_or ports vm []

abbrev pub port_at : List (List Port) → ℕ → ℕ → Port
port_at ports host vm = slice_index_or (ports_of ports vm) host Absent

abbrev pub with_port : List (List Port) → ℕ → ℕ → Port → List (List Port)
with_port ports host vm port = slice_set ports vm (slice_set (ports_of ports vm) host port)

unfoldable pub ports_after : List (List Port) → PortMove → List (List Port)
ports_after ports Unmoved = ports
ports_after ports (Boot host vm) = with_port ports host vm Running
ports_after ports (Halt vm) = slice_set ports vm (replicate (length (ports_of ports vm)) Absent)
ports_after ports (Pause vm old new) = with_port (with_port ports old vm Paused) new vm Arriving
ports_after ports (Arrive vm old new entry) = with_port (with_port ports old vm (Hairpin new entry)) new vm Running
ports_after ports (Unpinned host vm) = with_port ports host vm Absent

abbrev pub is_running : Port → Bool
is_running Running = true
is_running _ = false

abbrev pub is_paused : Port → Bool
is_paused Paused = true
is_paused _ = false

abbrev pub is_arriving : Port → Bool
is_arriving Arriving = true
is_arriving _ = false

abbrev pub IsHairpin : Port → Type 0
IsHairpin (Hairpin host entry) = Unit {0}
IsHairpin _ = ⊥

-- the host that a VM in a blackout leaves, and the one that it comes to
abbrev pub leaves_host : List Port → ℕ
leaves_host ports = unwrap_or (position is_paused ports) 0

abbrev pub comes_to : List Port → ℕ
comes_to ports = unwrap_or (position is_arriving ports) 0
