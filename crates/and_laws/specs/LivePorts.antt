-- The ports of live VMs.
use Rattle.std.specs.Prelude.{◌≡◌, ◌≢◌, ℕ, ◌<◌, ◌==◌, Bool, true, false, IsTrue, if◌then◌else◌, List, slice_index_or, Option, Some, None}
use Rattle.std.specs.List.{count_by}
use Rattle.and_policy.specs.declared.port.Port.{Port}
use Rattle.and_policy.specs.declared.port.Port.TheVariants.{Absent, Running, Paused, Arriving, Hairpin}
use Rattle.and_policy.specs.Logs.{is_live}
use Rattle.and_policy.specs.Owners.{place}
use Rattle.and_events.specs.declared.event.Event.{Event}
use Rattle.and_events.specs.declared.plan.Plan.{Plan}
use Rattle.and_events.specs.Script.{is_moving, target_of}
use Rattle.and_events.specs.Ports.{ports_of, is_running}
use Rattle.and_events.specs.State.{state}
use Rattle.and_laws.specs.Scripted.{script_at}

-- a live VM outside a blackout has one running port, and one in a blackout none. The steps that were done say which VMs
-- are in a blackout
abbrev pub HasRunningPorts : Plan → List Event → Type 0
HasRunningPorts plan h =
    (vm : ℕ) → IsTrue (is_live (state plan h).programmes.log vm)
    → count_by is_running (ports_of (state plan h).ports vm) ≡ (if is_moving (script_at plan h) vm then 0 else 1)

-- ---- where the ports are

abbrev pub without_hairpin : Port → Port
without_hairpin (Hairpin host entry) = Absent
without_hairpin port = port

-- a VM's port at a host, hairpins aside
abbrev pub port_seen : List Port → ℕ → Port
port_seen ports host = without_hairpin (slice_index_or ports host Absent)

-- what it is where the VM rests at its home, and where it is on its way from there
abbrev pub resting_port : ℕ → ℕ → Port
resting_port home host = if host == home then Running else Absent

abbrev pub moving_port : ℕ → ℕ → ℕ → Port
moving_port home to host = if host == home then Paused else (if host == to then Arriving else Absent)

-- a VM's ports, by whether it is live, its place, and the host to which it is on its way: a VM that is not live has none, one
-- that rests runs at its place, and one on its way is paused there and arriving at the other host
abbrev pub FitsPorts : ℕ → Bool → Option ℕ → Option ℕ → List Port → Type 0
FitsPorts hosts false home to ports = (to ≡ None) × ((host : ℕ) → slice_index_or ports host Absent ≡ Absent)
FitsPorts hosts true None to ports = ⊥
FitsPorts hosts true (Some home) None ports = (home < hosts) × ((host : ℕ) → port_seen ports host ≡ resting_port home host)
FitsPorts hosts true (Some home) (Some to) ports =
    (home < hosts) × (to < hosts) × (home ≢ to) × ((host : ℕ) → port_seen ports host ≡ moving_port home to host)

-- the log and the ports are what the steps that were done say
pub record FollowsSteps (plan : Plan) (h : List Event) : Type 0 where
  pub log : (state plan h).programmes.log ≡ (script_at plan h).log
  pub ports : (vm : ℕ)
      → FitsPorts plan.settings.hosts (is_live (script_at plan h).log vm) (place (script_at plan h).log vm) (target_of (script_at plan h) vm) (ports_of (state plan h).ports vm)
