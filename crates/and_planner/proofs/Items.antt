-- The items of a script one after another: their steps fit.
use Rattle.std.proofs.Common.{◌≡◌, ℕ, zero, suc, ◌+◌, ◌*◌, ◌<◌, ◌≤◌, Bool, true, false, List, [], ◌∷◌, ◌++◌, length, Option, Some, None, Result, Ok, Err, refl, sym, ap, ◌∙◌, subst, arith, min, unwrap_or, length-append}
use Rattle.std.specs.Prelude.{if◌then◌else◌, slice_get, not}
use Rattle.std.specs.List.{All}
use Rattle.std.proofs.lemmas.List.Elements.{All-append, All-from_recursion, All-filter, All-head, All-tail, All-nil}
use Rattle.std.proofs.lemmas.List.{append_assoc}
use Rattle.and_capture.specs.declared.capture.Taken.{Taken}
use Rattle.and_policy.specs.declared.entry.Entry.{Entry}
use Rattle.and_policy.specs.declared.entry.Entry.TheVariants as entries
use Rattle.and_policy.specs.declared.packet.Skip.{Skip}
use Rattle.and_policy.specs.declared.packet.Fields.{Fields}
use Rattle.and_policy.specs.Frames.{fields}
use Rattle.and_policy.specs.Logs.{Vm}
use Rattle.and_events.specs.declared.event.Node.{Node}
use Rattle.and_events.specs.declared.plan.What.{What}
use Rattle.and_events.specs.declared.plan.Item.{Item}
use Rattle.and_events.specs.declared.plan.Item.TheVariants as items
use Rattle.and_events.specs.declared.plan.ItemFault.{ItemFault}
use Rattle.and_events.specs.declared.plan.ItemFault.TheVariants as faults
use Rattle.and_events.specs.declared.plan.SkipReason.{SkipReason}
use Rattle.and_events.specs.declared.plan.SkipReason.TheVariants as skips
use Rattle.and_events.specs.declared.plan.Step.{Step}
use Rattle.and_events.specs.declared.plan.Step.TheVariants as steps
use Rattle.and_events.specs.declared.plan.Packet.{Packet}
use Rattle.and_events.specs.declared.plan.Settings.{Settings}
use Rattle.and_events.specs.declared.plan.Plan.{Plan}
use Rattle.and_events.specs.Planned.{Planning, nothing_planned, stepped, source_or_skip, with_fields, sendable, frame_sent, first_sent, send_frame, send_frames, item_steps, item_applied, items_applied}
use Rattle.and_events.specs.Script.{Script, at_start, item_fault, script_after, is_moving, source_vm, is_node, is_hold}
use Rattle.and_events.specs.Sound.{IsEntry, IsSent, Fits, StepFits}
use Rattle.and_planner.specs.Scenarios.{IsItem}
use Rattle.and_planner.proofs.Walks.{Walk, walk_on, one_step}

-- what holds after n items, with so many frames in all
pub record Goes (s : Settings) (names frames n : ℕ) (p : Planning) : Type 0 where
  pub walk : (plan : Plan) → plan.settings ≡ s → length plan.names ≡ names → (more : List Packet) → plan.packets ≡ p.packets ++ more
      → Walk plan at_start 0 p.steps p.script (length p.packets)
  pub nodes : All (λ h. is_node s h.node ≡ true) p.script.holds
  pub steps : length p.steps + length p.frames ≤ 2 * n + frames
  pub packets : length p.packets + length p.frames ≤ frames

-- ---- frames

-- a frame that can be sent
record CanSend (p : Script) (f : Result Fields Skip) (vm : Vm) (found : Fields) : Type 0 where
  pub fields : f ≡ Ok found
  pub source : source_vm p.log found.source_mac ≡ Some vm
  pub resting : is_moving p vm.number ≡ false

sent_of : (p : Script) (found : Fields) (vm : Vm) (v : Vm × Fields) (b : Bool) → source_vm p.log found.source_mac ≡ Some vm → is_moving p vm.number ≡ b
    → with_fields found (if b then Err (skips.PausedSource) else Ok vm) ≡ Ok v → CanSend p (Ok found) v.0 v.1
sent_of p found vm v true at moving sent = absurd (cc)
sent_of p found vm v false at moving sent =
    let same : (vm, found) ≡ v = cc in
    subst (λ w. CanSend p (Ok found) w.0 w.1) same (record { fields = refl; source = at; resting = moving })

sent_source : (p : Script) (found : Fields) (source : Option Vm) → source_vm p.log found.source_mac ≡ source
    → (v : Vm × Fields) → with_fields found (source_or_skip p source) ≡ Ok v → CanSend p (Ok found) v.0 v.1
sent_source p found None at v sent = absurd (cc)
sent_source p found (Some vm) at v sent = sent_of p found vm v (is_moving p vm.number) at refl sent

can_send : (p : Script) (f : Result Fields Skip) (v : Vm × Fields) → sendable p f ≡ Ok v → CanSend p f v.0 v.1
can_send p (Err skip) v sent = absurd (cc)
can_send p (Ok found) v sent = sent_source p found (source_vm p.log found.source_mac) refl v sent

-- the packet that it gives
abbrev packet_of : Taken → Vm × Fields → Packet
packet_of taken v = record { vm = v.0.number; tuple = v.1.tuple; taken = taken }

is_sent : (p : Script) (taken : Taken) (v : Vm × Fields) → CanSend p (fields taken.frame) v.0 v.1 → IsSent p (packet_of taken v)
is_sent p taken v c = record { mac = v.1.source_mac; frame = c.fields; vm = v.0; source = c.source; number = refl; resting = c.resting }

one_more : (xs : List Packet) (x : Packet) → suc (length xs) ≡ length (xs ++ x ∷ [])
one_more [] x = refl
one_more (y ∷ xs) x = ap suc (one_more xs x)

at_seam : (xs : List Packet) (x : Packet) (more : List Packet) → slice_get ((xs ++ x ∷ []) ++ more) (length xs) ≡ Some x
at_seam [] x more = refl
at_seam (y ∷ xs) x more = at_seam xs x more

frame_goes : (s : Settings) (names frames n : ℕ) (p : Planning) (taken : Taken) (rest : List Taken) (r : Result (Vm × Fields) SkipReason)
    → p.frames ≡ taken ∷ rest → sendable p.script (fields taken.frame) ≡ r → Goes s names frames n p
    → Goes s names frames n (frame_sent (record p { frames = rest }) taken r)
frame_goes s names frames n p taken rest (Err reason) left said g =
    let few = g.steps in
    let sent = g.packets in
    let shorter : length p.frames ≡ suc (length rest) = ap length left in
    record { walk = g.walk; nodes = g.nodes; steps = grind (arith, few, shorter); packets = grind (arith, sent, shorter) }
frame_goes s names frames n p taken rest (Ok v) left said g =
    let few = g.steps in
    let sent = g.packets in
    let shorter : length p.frames ≡ suc (length rest) = ap length left in
    record {
      walk = λ plan settings many more all.
          let before : Walk plan at_start 0 p.steps p.script (length p.packets) =
          g.walk plan settings many (packet_of taken v ∷ more) (all ∙ append_assoc p.packets (packet_of taken v ∷ []) more) in
          let got : slice_get plan.packets (length p.packets) ≡ Some (packet_of taken v) = rw all (at_seam p.packets (packet_of taken v) more) in
          let fits : StepFits plan p.script (length p.packets) (steps.Inject (length p.packets)) = (refl, (packet_of taken v, got, is_sent p.script taken v (can_send p.script (fields taken.frame) v said))) in
          subst (λ m. Walk plan at_start 0 (p.steps ++ steps.Inject (length p.packets) ∷ []) p.script m) (one_more p.packets (packet_of taken v))
          (walk_on plan at_start 0 p.steps p.script (length p.packets) (steps.Inject (length p.packets) ∷ []) p.script (suc (length p.packets)) before
          (one_step plan p.script (length p.packets) (steps.Inject (length p.packets)) fits));
      nodes = g.nodes;
      steps = rw (length-append p.steps (steps.Inject (length p.packets) ∷ [])) (grind (arith, few, shorter));
      packets = rw (length-append p.packets (packet_of taken v ∷ [])) (grind (arith, sent, shorter));
    }

next_goes : (s : Settings) (names frames n : ℕ) (p : Planning) (left : List Taken) → p.frames ≡ left → Goes s names frames n p → Goes s names frames n (first_sent p left)
next_goes s names frames n p [] is g = g
next_goes s names frames n p (taken ∷ rest) is g = frame_goes s names frames n p taken rest (sendable p.script (fields taken.frame)) is refl g

frames_go : (s : Settings) (names frames n k : ℕ) (p : Planning) → Goes s names frames n p → Goes s names frames n (send_frames k p)
frames_go s names frames n zero p g = g
frames_go s names frames n (suc k) p g = frames_go s names frames n k (send_frame p) (next_goes s names frames n p p.frames refl g)

-- ---- items

-- steps of an item, at most two, that fit and inject nothing
abbrev Leads : Settings → ℕ → Script → List Step → Script → Type 0
Leads s names p xs q = (plan : Plan) (k : ℕ) → plan.settings ≡ s → length plan.names ≡ names → Walk plan p k xs q k

steps_go : (s : Settings) (names frames n : ℕ) (p : Planning) (script : Script) (xs : List Step) → Leads s names p.script xs script → length xs ≤ 2
    → All (λ h. is_node s h.node ≡ true) script.holds → Goes s names frames n p
    → Goes s names frames (suc n) (stepped (record p { script = script }) xs)
steps_go s names frames n p script xs lead two nodes g =
    let few = g.steps in
    record {
      walk = λ plan settings many more all.
          walk_on plan at_start 0 p.steps p.script (length p.packets) xs script (length p.packets) (g.walk plan settings many more all) (lead plan (length p.packets) settings many);
      nodes = nodes;
      steps = rw (length-append p.steps xs) (grind (arith, few, two));
      packets = g.packets;
    }

refused_goes : (s : Settings) (names frames n : ℕ) (p : Planning) (refused : List (ℕ × ItemFault)) → Goes s names frames n p → Goes s names frames (suc n) (record p { refused = refused })
refused_goes s names frames n p refused g = let few = g.steps in record { walk = g.walk; nodes = g.nodes; steps = grind (arith, few); packets = g.packets }

-- the checks that passed under these settings pass under the plan's
fits_for : (s : Settings) (plan : Plan) (p : Script) (item : Item) → plan.settings ≡ s → item_fault s p item ≡ None → Fits plan p item
fits_for s plan p item same fits = rw same fits

entry_leads : (s : Settings) (names : ℕ) (p : Script) (e : Entry) → item_fault s p (items.Entry e) ≡ None → IsItem names (items.Entry e)
    → Leads s names p (steps.Append e ∷ []) (script_after p (items.Entry e))
entry_leads s names p e fits is plan k same many =
    one_step plan p k (steps.Append e) (fits_for s plan p (items.Entry e) same fits, subst (λ m. IsEntry m e) (sym many) is.0, is.1)

tick_leads : (s : Settings) (names : ℕ) (p : Script) → item_fault s p (items.Entry entries.Tick) ≡ None
    → Leads s names p (steps.Append entries.Tick ∷ steps.Review ∷ []) (script_after p (items.Entry entries.Tick))
tick_leads s names p fits plan k same many = ((fits_for s plan p (items.Entry entries.Tick) same fits, tt, tt), (tt, (refl, refl)))

entry_steps : (s : Settings) (names : ℕ) (p : Script) (e : Entry) → item_fault s p (items.Entry e) ≡ None → IsItem names (items.Entry e)
    → Leads s names p (item_steps (items.Entry e)) (script_after p (items.Entry e)) × (length (item_steps (items.Entry e)) ≤ 2)
entry_steps s names p entries.Tick fits is = (tick_leads s names p fits, grind arith)
entry_steps s names p (entries.AddNet net) fits is = (entry_leads s names p (entries.AddNet net) fits is, grind arith)
entry_steps s names p (entries.AddVm vm net mac ip host) fits is = (entry_leads s names p (entries.AddVm vm net mac ip host) fits is, grind arith)
entry_steps s names p (entries.RemoveVm vm) fits is = (entry_leads s names p (entries.RemoveVm vm) fits is, grind arith)
entry_steps s names p (entries.Place vm host) fits is = (entry_leads s names p (entries.Place vm host) fits is, grind arith)
entry_steps s names p (entries.AddRule net rule) fits is = (entry_leads s names p (entries.AddRule net rule) fits is, grind arith)
entry_steps s names p (entries.DelRule net number) fits is = (entry_leads s names p (entries.DelRule net number) fits is, grind arith)
entry_steps s names p (entries.AddRoute net route) fits is = (entry_leads s names p (entries.AddRoute net route) fits is, grind arith)
entry_steps s names p (entries.DelRoute net number) fits is = (entry_leads s names p (entries.DelRoute net number) fits is, grind arith)

-- a node at which a hold fits is one
hold_node : (s : Settings) (p : Script) (node : Node) (what : What) (b : Bool) → is_node s node ≡ b → item_fault s p (items.Hold node what) ≡ None → is_node s node ≡ true
hold_node s p node what true is fits = is
hold_node s p node what false is fits =
    let fails : item_fault s p (items.Hold node what) ≡ Some faults.NoNode = rw is refl in
    absurd (let bad : Some faults.NoNode ≡ None = sym fails ∙ fits in cc)

item_goes : (s : Settings) (names frames n : ℕ) (p : Planning) (item : Item) (fault : Option ItemFault) → item_fault s p.script item ≡ fault → IsItem names item
    → Goes s names frames n p → Goes s names frames (suc n) (item_applied n p item fault)
item_goes s names frames n p item (Some fault) checked is g = refused_goes s names frames n p (p.refused ++ (n, fault) ∷ []) g
item_goes s names frames n p (items.Entry e) None checked is g =
    let (lead, two) = entry_steps s names p.script e checked is in
    steps_go s names frames n p (script_after p.script (items.Entry e)) (item_steps (items.Entry e)) lead two g.nodes g
item_goes s names frames n p items.Wait None checked is g =
    steps_go s names frames n p p.script (steps.Wait ∷ []) (λ plan k same many. one_step plan p.script k steps.Wait tt) (grind arith) g.nodes g
item_goes s names frames n p (items.Send wanted) None checked is g =
    frames_go s names frames (suc n) (min (unwrap_or wanted (length p.frames)) (length p.frames)) (stepped (record p { script = p.script }) [])
    (steps_go s names frames n p p.script [] (λ plan k same many. (refl, refl)) (grind arith) g.nodes g)
item_goes s names frames n p (items.Blackout vm host) None checked is g =
    steps_go s names frames n p (script_after p.script (items.Blackout vm host)) (steps.Blackout vm host ∷ [])
    (λ plan k same many. one_step plan p.script k (steps.Blackout vm host) (fits_for s plan p.script (items.Blackout vm host) same checked, subst (λ m. vm < m) (sym many) is)) (grind arith) g.nodes g
item_goes s names frames n p (items.Resume vm) None checked is g =
    steps_go s names frames n p (script_after p.script (items.Resume vm)) (steps.Resume vm ∷ [])
    (λ plan k same many. one_step plan p.script k (steps.Resume vm) (fits_for s plan p.script (items.Resume vm) same checked, subst (λ m. vm < m) (sym many) is)) (grind arith) g.nodes g
item_goes s names frames n p (items.Hold node what) None checked is g =
    steps_go s names frames n p (script_after p.script (items.Hold node what)) (steps.Hold node what ∷ [])
    (λ plan k same many. one_step plan p.script k (steps.Hold node what) (fits_for s plan p.script (items.Hold node what) same checked)) (grind arith)
    (All-append (λ h. is_node s h.node ≡ true) p.script.holds (record { node = node; what = what } ∷ []) g.nodes
    (All-from_recursion (λ h. is_node s h.node ≡ true) (record { node = node; what = what } ∷ []) (hold_node s p.script node what (is_node s node) refl checked, tt))) g
item_goes s names frames n p (items.Free node what) None checked is g =
    steps_go s names frames n p (script_after p.script (items.Free node what)) (steps.Free node what ∷ [])
    (λ plan k same many. one_step plan p.script k (steps.Free node what) (fits_for s plan p.script (items.Free node what) same checked)) (grind arith)
    (All-filter (λ h. not (is_hold node what h)) (λ h. is_node s h.node ≡ true) p.script.holds g.nodes) g

-- all items
pub items_go : (s : Settings) (names frames n : ℕ) (list : List Item) (p : Planning) → All (IsItem names) list → Goes s names frames n p
    → Goes s names frames (n + length list) (items_applied s n list p)
items_go s names frames n [] p are g = subst (λ m. Goes s names frames m p) (grind arith) g
items_go s names frames n (item ∷ rest) p are g =
    subst (λ m. Goes s names frames m (items_applied s n (item ∷ rest) p)) (grind arith)
    (items_go s names frames (suc n) rest (item_applied n p item (item_fault s p.script item)) (All-tail (IsItem names) item rest are)
    (item_goes s names frames n p item (item_fault s p.script item) refl (All-head (IsItem names) item rest are) g))

pub nothing_goes : (s : Settings) (names : ℕ) (frames : List Taken) → Goes s names (length frames) 0 (nothing_planned frames)
nothing_goes s names frames =
    record { walk = λ plan same many more all. (refl, refl); nodes = All-nil (λ h. is_node s h.node ≡ true); steps = grind arith; packets = grind arith }
