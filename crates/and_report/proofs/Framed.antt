-- What becomes of the frames of a capture.
use Rattle.std.proofs.Common.{◌≡◌, ℕ, zero, suc, ◌+◌, List, [], ◌∷◌, ◌++◌, length, Option, Some, None, Result, Ok, Err, refl, sym, ap, ◌∙◌, arith, min, unwrap_or, length-append}
use Rattle.and_capture.specs.declared.capture.Capture.{Capture}
use Rattle.and_capture.specs.declared.capture.Taken.{Taken}
use Rattle.and_policy.specs.declared.packet.Fields.{Fields}
use Rattle.and_policy.specs.Frames.{fields}
use Rattle.and_policy.specs.Logs.{Vm}
use Rattle.and_events.specs.declared.plan.Item.{Item}
use Rattle.and_events.specs.declared.plan.Item.TheVariants as items
use Rattle.and_events.specs.declared.plan.ItemFault.{ItemFault}
use Rattle.and_events.specs.declared.plan.Scenario.{Scenario}
use Rattle.and_events.specs.declared.plan.Settings.{Settings}
use Rattle.and_events.specs.declared.plan.SkipReason.{SkipReason}
use Rattle.and_events.specs.Planned.{Planning, nothing_planned, stepped, sendable, frame_sent, first_sent, send_frames, item_steps, item_applied, items_applied, planned}
use Rattle.and_events.specs.Script.{item_fault, script_after}

-- the frames that are left, were skipped, or are packets
total : Planning → ℕ
total p = length p.frames + length p.skipped + length p.packets

frame_adds : (p : Planning) (taken : Taken) (r : Result (Vm × Fields) SkipReason) → total (frame_sent p taken r) ≡ total p + 1
unfolding total
frame_adds p taken (Err reason) = omega (arith, length-append p.skipped ((p.frame, reason) ∷ []))
frame_adds p taken (Ok v) = omega (arith, length-append p.packets (record { vm = v.0.number; tuple = v.1.tuple; taken = taken } ∷ []))

first_keeps : (p : Planning) (left : List Taken) → p.frames ≡ left → total (first_sent p left) ≡ total p
unfolding total
first_keeps p [] is = refl
first_keeps p (taken ∷ rest) is =
    omega (arith, frame_adds (record p { frames = rest }) taken (sendable p.script (fields taken.frame)), ap length is)

frames_keep : (n : ℕ) (p : Planning) → total (send_frames n p) ≡ total p
frames_keep zero p = refl
frames_keep (suc n) p = frames_keep n (first_sent p p.frames) ∙ first_keeps p p.frames refl

item_keeps : (n : ℕ) (p : Planning) (item : Item) (fault : Option ItemFault) → total (item_applied n p item fault) ≡ total p
unfolding total
item_keeps n p item (Some fault) = refl
item_keeps n p (items.Send wanted) None =
    frames_keep (min (unwrap_or wanted (length p.frames)) (length p.frames)) (stepped (record p { script = script_after p.script (items.Send wanted) }) [])
item_keeps n p (items.Entry e) None = refl
item_keeps n p items.Wait None = refl
item_keeps n p (items.Blackout vm host) None = refl
item_keeps n p (items.Resume vm) None = refl
item_keeps n p (items.Hold node what) None = refl
item_keeps n p (items.Free node what) None = refl

items_keep : (s : Settings) (n : ℕ) (more : List Item) (p : Planning) → total (items_applied s n more p) ≡ total p
items_keep s n [] p = refl
items_keep s n (item ∷ rest) p =
    items_keep s (suc n) rest (item_applied n p item (item_fault s p.script item)) ∙ item_keeps n p item (item_fault s p.script item)

-- each frame was skipped, is a packet, or was reached by no item
pub frames_add_up : (scenario : Scenario) (capture : Capture)
    → (planned scenario capture).frames ≡ length (planned scenario capture).skipped + (planned scenario capture).unsent + length (planned scenario capture).packets
unfolding planned total
frames_add_up scenario capture =
    omega (arith, items_keep scenario.settings 0 scenario.items (nothing_planned capture.frames))
