-- The plain state of a script as the plan's program keeps it.
use Rattle.std.specs.Prelude.{ℕ, Result, Ok, Err}
use Rattle.and_policy.specs.Logs.{Vm}
use Rattle.and_events.specs.declared.plan.Item.{Item}
use Rattle.and_events.specs.declared.plan.Settings.{Settings}
use Rattle.and_events.specs.declared.plan.SkipReason.{SkipReason}
use Rattle.and_events.specs.Script.{Script, Moving, HeldAt, script_after}
use Rattle.and_planner.specs.declared.moves.Move.{Move}
use Rattle.and_planner.specs.declared.holds.Hold.{Hold}

-- the state, and the settings of the system
pub record Standing : Type 0 where
  pub settings : Settings
  pub script : Script

-- after an item that fits
abbrev pub standing_after : Standing → Item → Standing
standing_after s item = record { settings = s.settings; script = script_after s.script item }

abbrev pub moving_of : Move → Moving
moving_of m = record { vm = m.vm; to = m.to }

abbrev pub held_at : Hold → HeldAt
held_at h = record { node = h.node; what = h.what }

-- a source VM by its number
abbrev pub number_of : Result Vm SkipReason → Result ℕ SkipReason
number_of (Ok vm) = Ok vm.number
number_of (Err reason) = Err reason
