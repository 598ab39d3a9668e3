-- What the plan's program keeps, as the definition of the plan sees it.
use Rattle.std.specs.Prelude.{◌≡◌, ◌≤◌, ℕ, [], ◌∷◌, ◌++◌, length, ◌+◌, Result, Ok, Err}
use Rattle.and_capture.specs.declared.capture.Taken.{Taken}
use Rattle.and_policy.specs.declared.packet.Tuple.{Tuple}
use Rattle.and_policy.specs.declared.packet.Fields.{Fields}
use Rattle.and_policy.specs.Logs.{Vm}
use Rattle.and_events.specs.declared.plan.Step.TheVariants as steps
use Rattle.and_events.specs.declared.plan.SkipReason.{SkipReason}
use Rattle.and_events.specs.Planned.{Planning}
use Rattle.and_planner.specs.declared.planner.Planner.{Planner}

abbrev pub planning_of : Planner → Planning
planning_of p =
    record {
      script = p.state.script;
      frames = p.frames.items;
      frame = p.frame;
      steps = p.steps;
      packets = p.packets;
      refused = p.refused;
      skipped = p.skipped;
    }

-- a frame's source VM by its number, and its tuple
abbrev pub sender_of : Result (Vm × Fields) SkipReason → Result (ℕ × Tuple) SkipReason
sender_of (Ok v) = Ok (v.0.number, v.1.tuple)
sender_of (Err reason) = Err reason

-- what becomes of the planning, by a frame's source VM and tuple
abbrev pub frame_skipped : Planning → SkipReason → Planning
frame_skipped p reason = record p { frame = p.frame + 1; skipped = p.skipped ++ (p.frame, reason) ∷ [] }

abbrev pub frame_planned : Planning → Taken → Result (ℕ × Tuple) SkipReason → Planning
frame_planned p taken (Err reason) = frame_skipped p reason
frame_planned p taken (Ok sender) =
    record p {
      frame = p.frame + 1;
      steps = p.steps ++ steps.Inject (length p.packets) ∷ [];
      packets = p.packets ++ record { vm = sender.0; tuple = sender.1; taken = taken } ∷ [];
    }

-- a frame more was sent or skipped
pub record KeepsOrder (old new : Planner) : Type 0 where
  pub frame : new.frame ≡ old.frame + 1
  pub frames : new.frames ≡ old.frames
  pub packets : length new.packets ≤ new.frame
  pub state : new.state ≡ old.state
