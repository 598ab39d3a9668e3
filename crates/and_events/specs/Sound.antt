-- Sound plans: what a script with a capture can give.
use Rattle.std.specs.Prelude.{◌≡◌, ℕ, suc, ◌+◌, ◌<◌, ◌≤◌, ◌^◌, true, false, List, [], ◌∷◌, length, slice_get, Option, Some, None, Result, Ok, Err}
use Rattle.and_policy.specs.declared.entry.Prefix.{Prefix}
use Rattle.and_policy.specs.declared.entry.Rule.{Rule}
use Rattle.and_policy.specs.declared.entry.Route.{Route}
use Rattle.and_policy.specs.declared.entry.Target.{Target}
use Rattle.and_policy.specs.declared.entry.Target.TheVariants as targets
use Rattle.and_policy.specs.declared.entry.Entry.{Entry}
use Rattle.and_policy.specs.declared.entry.Entry.TheVariants.{AddNet, AddVm, RemoveVm, Place, AddRule, DelRule, AddRoute, DelRoute, Tick}
use Rattle.and_policy.specs.declared.entry.Side.TheVariants as sides
use Rattle.and_policy.specs.declared.packet.Fields.{Fields}
use Rattle.and_policy.specs.Frames.{fields}
use Rattle.and_policy.specs.Logs.{Vm}
use Rattle.and_events.specs.declared.event.Node.{Node}
use Rattle.and_events.specs.declared.plan.Item.{Item}
use Rattle.and_events.specs.declared.plan.Item.TheVariants as items
use Rattle.and_events.specs.declared.plan.Step.{Step}
use Rattle.and_events.specs.declared.plan.Step.TheVariants.{Append, Review, Hold, Free, Wait, Inject, Blackout, Resume, Finish}
use Rattle.and_events.specs.declared.plan.Packet.{Packet}
use Rattle.and_events.specs.declared.plan.Settings.{Settings}
use Rattle.and_events.specs.declared.plan.Plan.{Plan}
use Rattle.and_events.specs.Script.{Script, at_start, item_fault, script_after, is_moving, source_vm}

-- ---- ranges

pub record AreSettings (s : Settings) : Type 0 where
  pub hosts : (1 ≤ s.hosts) × (s.hosts ≤ 64)
  pub gateways : (1 ≤ s.gateways) × (s.gateways ≤ 8)
  pub workers : (1 ≤ s.workers) × (s.workers ≤ 4)
  pub hop_limit : (1 ≤ s.hop_limit) × (s.hop_limit ≤ 32)
  pub out_queue : (1 ≤ s.out_queue) × (s.out_queue ≤ 4096)
  pub wire_queue : (1 ≤ s.wire_queue) × (s.wire_queue ≤ 4096)
  pub seal_queue : (1 ≤ s.seal_queue) × (s.seal_queue ≤ 4096)
  pub threshold : (1 ≤ s.threshold) × (s.threshold ≤ 1000000000)
  pub life : (1 ≤ s.life) × (s.life ≤ 10000)

abbrev pub IsVni : ℕ → Type 0
IsVni net = (1 ≤ net) × (net ≤ 16777215)

abbrev pub IsNumber : ℕ → Type 0
IsNumber n = (1 ≤ n) × (n ≤ 4294967295)

abbrev pub IsPrefix : Prefix → Type 0
IsPrefix p = p.length ≤ 32

-- a rule's ranges of ports are in order, and what is sealed is allowed to leave
pub record IsRule (rule : Rule) : Type 0 where
  pub number : IsNumber rule.number
  pub source : IsPrefix rule.source
  pub destination : IsPrefix rule.destination
  pub source_ports : rule.source_low ≤ rule.source_high
  pub destination_ports : rule.destination_low ≤ rule.destination_high
  pub sealed : rule.sealed ≡ true → (rule.side ≡ sides.Egress) × (rule.allow ≡ true)

abbrev pub IsTarget : Target → Type 0
IsTarget (targets.Peer net) = IsVni net
IsTarget _ = Unit {0}

-- the numbers of an entry are in their ranges, and a VM's is that of a name. A bound that a field's type gives is not said again
abbrev pub IsEntry : ℕ → Entry → Type 0
IsEntry names (AddNet net) = IsVni net
IsEntry names (AddVm vm net mac ip host) = (vm < names) × IsVni net × (mac < 2 ^ 48)
IsEntry names (RemoveVm vm) = vm < names
IsEntry names (Place vm host) = vm < names
IsEntry names (AddRule net rule) = IsVni net × IsRule rule
IsEntry names (DelRule net number) = IsVni net × IsNumber number
IsEntry names (AddRoute net route) = IsVni net × IsNumber route.number × IsPrefix route.prefix × IsTarget route.target
IsEntry names (DelRoute net number) = IsVni net × IsNumber number
IsEntry names Tick = Unit {0}

abbrev pub IsNoPlace : Entry → Type 0
IsNoPlace (Place vm host) = ⊥
IsNoPlace _ = Unit {0}

-- ---- steps

-- the item's checks pass
abbrev pub Fits : Plan → Script → Item → Type 0
Fits plan p item = item_fault plan.settings p item ≡ None

-- the packet's frame has its tuple, and its source VM is live and in no blackout
pub record IsSent (p : Script) (packet : Packet) : Type 0 where
  pub mac : ℕ
  pub frame : fields packet.taken.frame ≡ Ok (record { source_mac = mac; tuple = packet.tuple })
  pub vm : Vm
  pub source : source_vm p.log mac ≡ Some vm
  pub number : vm.number ≡ packet.vm
  pub resting : is_moving p packet.vm ≡ false

-- the step fits the plain state, in which so many packets were injected
abbrev pub StepFits : Plan → Script → ℕ → Step → Type 0
StepFits plan p sent (Append e) = Fits plan p (items.Entry e) × IsEntry (length plan.names) e × IsNoPlace e
StepFits plan p sent Review = Unit {0}
StepFits plan p sent (Hold node what) = Fits plan p (items.Hold node what)
StepFits plan p sent (Free node what) = Fits plan p (items.Free node what)
StepFits plan p sent Wait = Unit {0}
StepFits plan p sent (Inject i) = (i ≡ sent) × ((packet : Packet) × (slice_get plan.packets i ≡ Some packet) × IsSent p packet)
StepFits plan p sent (Blackout vm host) = Fits plan p (items.Blackout vm host) × (vm < length plan.names)
StepFits plan p sent (Resume vm) = Fits plan p (items.Resume vm) × (vm < length plan.names)
StepFits plan p sent Finish = ⊥

abbrev pub after_step : Script → Step → Script
after_step p (Append e) = script_after p (items.Entry e)
after_step p Review = p
after_step p (Hold node what) = script_after p (items.Hold node what)
after_step p (Free node what) = script_after p (items.Free node what)
after_step p Wait = p
after_step p (Inject i) = p
after_step p (Blackout vm host) = script_after p (items.Blackout vm host)
after_step p (Resume vm) = script_after p (items.Resume vm)
after_step p Finish = p

abbrev pub sent_after : ℕ → Step → ℕ
sent_after sent (Inject i) = suc sent
sent_after sent _ = sent

-- the end: nothing is held any more, the log is the plan's, and all packets were injected
pub record EndsWell (plan : Plan) (p : Script) (sent : ℕ) : Type 0 where
  pub holds : p.holds ≡ []
  pub log : p.log ≡ plan.log
  pub packets : sent ≡ length plan.packets

-- each step fits, and the last one alone is Finish
abbrev pub StepsFit : Plan → Script → ℕ → List Step → Type 0
StepsFit plan p sent [] = ⊥
StepsFit plan p sent (Finish ∷ []) = EndsWell plan p sent
StepsFit plan p sent (step ∷ rest) = StepFits plan p sent step × StepsFit plan (after_step p step) (sent_after sent step) rest

-- ---- the whole

pub record IsSound (plan : Plan) : Type 0 where
  pub settings : AreSettings plan.settings
  pub names : length plan.names ≤ 65536
  pub few_steps : length plan.steps ≤ 262144
  pub few_packets : length plan.packets ≤ 100000
  pub steps : StepsFit plan at_start 0 plan.steps
