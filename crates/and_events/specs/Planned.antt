-- The plan that a scenario gives with a capture: its items are applied in order, before anything runs.
use Rattle.std.specs.Prelude.{ℕ, zero, suc, ◌+◌, ◌==◌, Bool, true, false, min, if◌then◌else◌, List, [], ◌∷◌, ◌++◌, length, Option, Some, None, Result, Ok, Err, unwrap_or}
use Rattle.and_capture.specs.declared.capture.Taken.{Taken}
use Rattle.and_capture.specs.declared.capture.Capture.{Capture}
use Rattle.and_policy.specs.declared.packet.Skip.{Skip}
use Rattle.and_policy.specs.declared.packet.Fields.{Fields}
use Rattle.and_policy.specs.declared.entry.Entry.{Entry}
use Rattle.and_policy.specs.declared.entry.Entry.TheVariants as entries
use Rattle.and_policy.specs.Frames.{fields}
use Rattle.and_policy.specs.Logs.{Vm}
use Rattle.and_events.specs.declared.event.Node.{Node}
use Rattle.and_events.specs.declared.event.Node.TheVariants.{Host, Gate}
use Rattle.and_events.specs.declared.plan.What.{What}
use Rattle.and_events.specs.declared.plan.What.TheVariants.{Install, Forward}
use Rattle.and_events.specs.declared.plan.ItemFault.{ItemFault}
use Rattle.and_events.specs.declared.plan.SkipReason.{SkipReason}
use Rattle.and_events.specs.declared.plan.SkipReason.TheVariants as skips
use Rattle.and_events.specs.declared.plan.Item.{Item}
use Rattle.and_events.specs.declared.plan.Item.TheVariants as items
use Rattle.and_events.specs.declared.plan.Step.{Step}
use Rattle.and_events.specs.declared.plan.Step.TheVariants as steps
use Rattle.and_events.specs.declared.plan.Packet.{Packet}
use Rattle.and_events.specs.declared.plan.Settings.{Settings}
use Rattle.and_events.specs.declared.plan.Scenario.{Scenario}
use Rattle.and_events.specs.declared.plan.Plan.{Plan}
use Rattle.and_events.specs.Script.{Script, at_start, item_fault, script_after, is_moving, source_vm, holds_at}

-- what the items up to now gave
pub record Planning : Type 0 where
  pub script : Script
  pub frames : List Taken  -- those of the capture that are left
  pub frame : ℕ  -- the number of the first of them
  pub steps : List Step
  pub packets : List Packet
  pub refused : List (ℕ × ItemFault)
  pub skipped : List (ℕ × SkipReason)

abbrev pub nothing_planned : List Taken → Planning
nothing_planned frames = record { script = at_start; frames = frames; frame = 0; steps = []; packets = []; refused = []; skipped = [] }

abbrev pub stepped : Planning → List Step → Planning
stepped p more = record p { steps = p.steps ++ more }

-- ---- frames

-- what becomes of a frame in the plain state: its source VM, or why it is skipped
abbrev pub source_or_skip : Script → Option Vm → Result Vm SkipReason
source_or_skip s None = Err skips.NoSource
source_or_skip s (Some vm) = if is_moving s vm.number then Err skips.PausedSource else Ok vm

abbrev pub with_fields : Fields → Result Vm SkipReason → Result (Vm × Fields) SkipReason
with_fields f (Ok vm) = Ok (vm, f)
with_fields f (Err reason) = Err reason

abbrev pub sendable : Script → Result Fields Skip → Result (Vm × Fields) SkipReason
sendable s (Err skip) = Err (skips.Frame skip)
sendable s (Ok f) = with_fields f (source_or_skip s (source_vm s.log f.source_mac))

abbrev pub frame_sent : Planning → Taken → Result (Vm × Fields) SkipReason → Planning
frame_sent p taken (Err reason) = record p { frame = p.frame + 1; skipped = p.skipped ++ (p.frame, reason) ∷ [] }
frame_sent p taken (Ok v) =
    record p {
      frame = p.frame + 1;
      steps = p.steps ++ steps.Inject (length p.packets) ∷ [];
      packets = p.packets ++ record { vm = v.0.number; tuple = v.1.tuple; taken = taken } ∷ [];
    }

-- the next frame is sent, where one is left
abbrev pub first_sent : Planning → List Taken → Planning
first_sent p [] = p
first_sent p (taken ∷ rest) = frame_sent (record p { frames = rest }) taken (sendable p.script (fields taken.frame))

abbrev pub send_frame : Planning → Planning
send_frame p = first_sent p p.frames

-- the next frames, so many; fewer where fewer are left
abbrev pub send_frames : ℕ → Planning → Planning
send_frames zero p = p
send_frames (suc n) p = send_frames n (send_frame p)

-- ---- items

abbrev pub item_steps : Item → List Step
item_steps (items.Entry entries.Tick) = steps.Append entries.Tick ∷ steps.Review ∷ []
item_steps (items.Entry e) = steps.Append e ∷ []
item_steps items.Wait = steps.Wait ∷ []
item_steps (items.Send frames) = []
item_steps (items.Blackout vm host) = steps.Blackout vm host ∷ []
item_steps (items.Resume vm) = steps.Resume vm ∷ []
item_steps (items.Hold node what) = steps.Hold node what ∷ []
item_steps (items.Free node what) = steps.Free node what ∷ []

abbrev pub frames_of : Planning → Item → Planning
frames_of p (items.Send wanted) = send_frames (min (unwrap_or wanted (length p.frames)) (length p.frames)) p
frames_of p _ = p

-- an item that does not fit is refused and leaves all else as it was
abbrev pub item_applied : ℕ → Planning → Item → Option ItemFault → Planning
item_applied n p item (Some fault) = record p { refused = p.refused ++ (n, fault) ∷ [] }
item_applied n p item None = frames_of (stepped (record p { script = script_after p.script item }) (item_steps item)) item

abbrev pub items_applied : Settings → ℕ → List Item → Planning → Planning
items_applied s n [] p = p
items_applied s n (item ∷ rest) p = items_applied s (suc n) rest (item_applied n p item (item_fault s p.script item))

-- ---- the end

-- node by node, hosts before gateways, installs before forwarding
abbrev pub frees_at : Script → Node → List Step
frees_at s node =
    (if holds_at s node Install then steps.Free node Install ∷ [] else [])
    ++ (if holds_at s node Forward then steps.Free node Forward ∷ [] else [])

abbrev pub frees_below : (ℕ → Node) → Script → ℕ → List Step
frees_below node s zero = []
frees_below node s (suc n) = frees_below node s n ++ frees_at s (node n)

abbrev pub frees : Settings → Script → List Step
frees settings s = frees_below Host s settings.hosts ++ frees_below Gate s settings.gateways

abbrev pub plan_from : Scenario → Capture → Planning → Plan
plan_from scenario capture p =
    record {
      settings = scenario.settings;
      steps = p.steps ++ frees scenario.settings p.script ++ steps.Finish ∷ [];
      log = p.script.log;
      packets = p.packets;
      refused = p.refused;
      skipped = p.skipped;
      frames = length capture.frames;
      unsent = length p.frames;
      nanos = capture.nanos;
      names = scenario.names;
    }

-- the plan of a scenario and a capture
unfoldable pub planned : Scenario → Capture → Plan
planned scenario capture =
    plan_from scenario capture (items_applied scenario.settings 0 scenario.items (nothing_planned capture.frames))
