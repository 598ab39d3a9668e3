-- The usage along a run: its bytes fit 64 bits, and its keys are of hosts that are there; so are the orders of a review.
use Rattle.std.proofs.Common.{◌≡◌, ℕ, suc, ◌+◌, ◌*◌, ◌<◌, ◌≤◌, ◌^◌, Bool, true, false, List, [], ◌∷◌, length, drop, refl, ap, ◌∙◌, arith, Option, Some, ⊎_elim}
use Rattle.std.specs.Prelude.{nat_lt, nat_le, if◌then◌else◌, Ok}
use Rattle.std.specs.List.{All, sum_by, filter, filter_map, cons_option}
use Rattle.std.proofs.lemmas.Bool.{cases_lt, ltb-false}
use Rattle.std.proofs.lemmas.List.{get_or_past}
use Rattle.std.proofs.lemmas.List.Elements.{All-nil, All-cons, All-head, All-tail, All-filter}
use Rattle.std.proofs.lemmas.List.Sums.{sum_by-cons}
use Rattle.std.proofs.lemmas.Nat.{mul-le}
use Rattle.std.proofs.lemmas.Option.{get_or_from_slice_get}
use Rattle.and_policy.specs.declared.decision.Routed.{Routed}
use Rattle.and_policy.specs.declared.decision.Routed.TheVariants as routeds
use Rattle.and_policy.specs.declared.entry.Entry.{Entry}
use Rattle.and_policy.specs.declared.packet.Fields.{Fields}
use Rattle.and_policy.specs.declared.packet.Skip.{Skip}
use Rattle.and_policy.specs.declared.packet.Skip.TheVariants.{TooLong}
use Rattle.and_policy.specs.declared.port.UsageKey.{UsageKey}
use Rattle.and_policy.specs.Checks.{first_failing, unless}
use Rattle.and_policy.specs.Frames.{fields, frame_checks, tuple_in}
use Rattle.and_policy.specs.Numbers.{number_from}
use Rattle.and_policy.specs.Owners.{routed}
use Rattle.and_events.specs.declared.event.Actor.{Actor}
use Rattle.and_events.specs.declared.event.Actor.TheVariants.{HostInstall, GateInstall, Worker, Coproc, Gateway, Controller, Driver}
use Rattle.and_events.specs.declared.event.Departure.{Departure}
use Rattle.and_events.specs.declared.event.Departure.TheVariants.{NoVm, Spoofed, Denied, Allowed}
use Rattle.and_events.specs.declared.event.Event.{Event}
use Rattle.and_events.specs.declared.event.Event.TheVariants.{Review, Egress}
use Rattle.and_events.specs.declared.event.Given.{Given}
use Rattle.and_events.specs.declared.event.Node.{Node}
use Rattle.and_events.specs.declared.plan.Plan.{Plan}
use Rattle.and_events.specs.declared.plan.Settings.{Settings}
use Rattle.and_events.specs.declared.plan.Step.{Step}
use Rattle.and_events.specs.declared.plan.Step.TheVariants as steps
use Rattle.and_events.specs.Legal.{Legal}
use Rattle.and_events.specs.Places.{node_count, node_of, IsActor, IsWorker}
use Rattle.and_events.specs.Run.{Run}
use Rattle.and_events.specs.Script.{Script, at_start}
use Rattle.and_events.specs.Sound.{IsSound, StepsFit, after_step, sent_after}
use Rattle.and_events.specs.State.{state, start, after, frame_at, host_of, no_packet, usage_by, usage_move_of}
use Rattle.and_events.specs.Usage.{Used, UsageMove, Unused, Uses, Cleared, key_before, same_key, with_use, usage_after, order_to, order_for, orders_of}
use Rattle.and_laws.proofs.Bounded.{run_ends}
use Rattle.and_usage.specs.Counting.{bytes_of}

-- ---- frames

not_first : (b : Bool) (rest : Option Skip) (x f : Fields) → unless (if b then Some TooLong else rest) x ≡ Ok f → b ≡ false
not_first true rest x f e = absurd (cc)
not_first false rest x f e = refl

-- a frame that has fields fits an outer packet
short_frame : (frame : List ℕ) (f : Fields) → fields frame ≡ Ok f → length frame ≤ 65499
short_frame frame f e =
    ltb-false 65499 (length frame)
    (not_first (nat_lt 65499 (length frame)) (first_failing (drop 1 (frame_checks frame))) (record { source_mac = number_from 6 6 frame; tuple = tuple_in frame }) f e)

-- the frames of the packets that steps inject, from a packet on, to the last one
frames_from : (plan : Plan) (p : Script) (sent : ℕ) (ss : List Step) (i : ℕ) → StepsFit plan p sent ss → sent ≤ i → i < length plan.packets → length (frame_at plan i) ≤ 65499
frames_from plan p sent [] i f from there = absurd f
frames_from plan p sent (steps.Finish ∷ []) i f from there = omega (arith, f.packets, from, there)
frames_from plan p sent (steps.Finish ∷ other ∷ later) i f from there = absurd f.0
frames_from plan p sent (steps.Inject j ∷ later) i f from there =
    ⊎_elim (λ (l : sent < i). frames_from plan (after_step p (steps.Inject j)) (suc sent) later i f.1 (omega (arith, l)) there)
    (λ (l : i ≤ sent).
    let at : i ≡ j = omega (arith, l, from, f.0.0) in
    let frame : frame_at plan i ≡ f.0.1.0.taken.frame =
    ap (λ k. frame_at plan k) at ∙ ap (λ x. x.taken.frame) (get_or_from_slice_get plan.packets j f.0.1.0 no_packet f.0.1.1) in
    omega (arith, ap length frame, short_frame f.0.1.0.taken.frame _ f.0.1.2.frame))
    (cases_lt sent i)
frames_from plan p sent (step ∷ later) i f from there = frames_from plan (after_step p step) (sent_after sent step) later i f.1 from there

frame_short : (plan : Plan) (i : ℕ) → IsSound plan → length (frame_at plan i) ≤ 65499
frame_short plan i sound =
    ⊎_elim (λ (l : i < length plan.packets). frames_from plan at_start 0 plan.steps i sound.steps (omega arith) l)
    (λ (l : length plan.packets ≤ i). omega (arith, ap (λ x. length x.taken.frame) (get_or_past plan.packets i no_packet l)))
    (cases_lt i (length plan.packets))

-- ---- bytes

abbrev all_bytes : List Used → ℕ
all_bytes us = sum_by (λ u. u.bytes) us

-- the bytes that an event adds
abbrev added_by : UsageMove → ℕ
added_by Unused = 0
added_by (Uses key bytes) = bytes
added_by Cleared = 0

bytes_with : (key : UsageKey) (bytes : ℕ) (us : List Used) → all_bytes (with_use key bytes us) ≡ all_bytes us + bytes
bytes_with key bytes [] = omega (arith, sum_by-cons (λ (u : Used). u.bytes) (record { key = key; bytes = bytes }) [])
bytes_with key bytes (u ∷ us) = at_first (same_key key u.key) (key_before key u.key) (bytes_with key bytes us)
  where
    new : ℕ → Used
    new n = record { key = key; bytes = n }

    at_first : (a b : Bool) → all_bytes (with_use key bytes us) ≡ all_bytes us + bytes
        → all_bytes (if a then record { key = key; bytes = u.bytes + bytes } ∷ us else (if b then record { key = key; bytes = bytes } ∷ u ∷ us else u ∷ with_use key bytes us)) ≡ all_bytes (u ∷ us) + bytes
    at_first true b ih = omega (arith, sum_by-cons (λ (x : Used). x.bytes) (record { key = key; bytes = u.bytes + bytes }) us, sum_by-cons (λ (x : Used). x.bytes) u us)
    at_first false true ih = omega (arith, sum_by-cons (λ (x : Used). x.bytes) (record { key = key; bytes = bytes }) (u ∷ us))
    at_first false false ih = omega (arith, sum_by-cons (λ (x : Used). x.bytes) u (with_use key bytes us), sum_by-cons (λ (x : Used). x.bytes) u us, ih)

bytes_after : (us : List Used) (m : UsageMove) → all_bytes (usage_after us m) ≤ all_bytes us + added_by m
unfolding usage_after
bytes_after us Unused = omega arith
bytes_after us (Uses key bytes) = omega (arith, bytes_with key bytes us)
bytes_after us Cleared = omega arith

at_most : (b : Bool) (x y most : ℕ) → x ≤ most → y ≤ most → (if b then x else y) ≤ most
at_most true x y most p q = p
at_most false x y most p q = q

bytes_of_one : (key : UsageKey) (us : List Used) → bytes_of key us ≤ all_bytes us
bytes_of_one key [] = omega arith
bytes_of_one key (u ∷ us) =
    let all = sum_by-cons (λ (x : Used). x.bytes) u us in
    at_most (same_key key u.key) u.bytes (bytes_of key us) (all_bytes (u ∷ us)) (omega (arith, all)) (omega (arith, all, bytes_of_one key us))

departure_adds : (plan : Plan) (here : Node) (i : ℕ) (d : Departure) → IsSound plan → added_by (usage_by plan here i d) ≤ 65499
departure_adds plan here i NoVm sound = omega arith
departure_adds plan here i Spoofed sound = omega arith
departure_adds plan here i (Denied n) sound = omega arith
departure_adds plan here i (Allowed by sealed dest end) sound = frame_short plan i sound

event_adds : (plan : Plan) (e : Event) → IsSound plan → added_by (usage_move_of plan e) ≤ 65499
unfolding usage_move_of
event_adds plan (Egress a i at way d) sound = departure_adds plan (node_of a) i d sound
event_adds plan (Review n) sound = omega arith
event_adds plan e sound = omega arith

bytes_so_far : (plan : Plan) (h : List Event) → IsSound plan → all_bytes (state plan h).usage ≤ 65499 * length h
unfolding state start after
bytes_so_far plan [] sound = omega arith
bytes_so_far plan (e ∷ h) sound =
    omega (arith, bytes_so_far plan h sound, bytes_after (state plan h).usage (usage_move_of plan e), event_adds plan e sound)

-- a frame more of any key fits 64 bits
pub sum_fits : (plan : Plan) (h : List Event) (key : UsageKey) (i : ℕ) → IsSound plan → Run plan h → bytes_of key (state plan h).usage + length (frame_at plan i) < 2 ^ 64
sum_fits plan h key i sound r =
    let nodes : node_count plan.settings ≤ 72 = omega (arith, sound.settings.hosts.1, sound.settings.gateways.1) in
    omega (
      arith,
      bytes_of_one key (state plan h).usage,
      bytes_so_far plan h sound,
      frame_short plan i sound,
      run_ends plan h r,
      sound.few_steps,
      mul-le (node_count plan.settings) (length plan.steps) 72 262144 nodes sound.few_steps,
      mul-le (length plan.packets) plan.settings.hop_limit 100000 32 sound.few_packets sound.settings.hop_limit.1,
    )

-- ---- hosts

abbrev AreAt : ℕ → List Used → Type 0
AreAt hosts us = All (λ (u : Used). u.key.host < hosts) us

at_with : (hosts : ℕ) (key : UsageKey) (bytes : ℕ) (us : List Used) → key.host < hosts → AreAt hosts us → AreAt hosts (with_use key bytes us)
at_with hosts key bytes [] here all = All-cons (λ (x : Used). x.key.host < hosts) _ [] here all
at_with hosts key bytes (u ∷ us) here all =
    at_first (same_key key u.key) (key_before key u.key) (at_with hosts key bytes us here (All-tail (λ (x : Used). x.key.host < hosts) u us all))
  where
    at_first : (a b : Bool) → AreAt hosts (with_use key bytes us)
        → AreAt hosts (if a then record { key = key; bytes = u.bytes + bytes } ∷ us else (if b then record { key = key; bytes = bytes } ∷ u ∷ us else u ∷ with_use key bytes us))
    at_first true b ih = All-cons (λ (x : Used). x.key.host < hosts) _ us here (All-tail (λ (x : Used). x.key.host < hosts) u us all)
    at_first false true ih = All-cons (λ (x : Used). x.key.host < hosts) _ (u ∷ us) here all
    at_first false false ih = All-cons (λ (x : Used). x.key.host < hosts) u (with_use key bytes us) (All-head (λ (x : Used). x.key.host < hosts) u us all) ih

host_there : (v : Settings) (a : Actor) → IsWorker a → IsActor v a → host_of (node_of a) < v.hosts
host_there v (Worker h w) worker is = is.0
host_there v (Gateway g) worker is = absurd worker
host_there v (HostInstall h) worker is = absurd worker
host_there v (GateInstall g) worker is = absurd worker
host_there v (Coproc h) worker is = absurd worker
host_there v Controller worker is = absurd worker
host_there v Driver worker is = absurd worker

departure_at : (plan : Plan) (here : Node) (i : ℕ) (d : Departure) (us : List Used) → host_of here < plan.settings.hosts → AreAt plan.settings.hosts us → AreAt plan.settings.hosts (usage_after us (usage_by plan here i d))
unfolding usage_after
departure_at plan here i NoVm us there all = all
departure_at plan here i Spoofed us there all = all
departure_at plan here i (Denied n) us there all = all
departure_at plan here i (Allowed by sealed dest end) us there all = at_with plan.settings.hosts _ _ us there all

-- the keys that are used are of hosts that are there
pub used_at_hosts : (plan : Plan) (h : List Event) → Run plan h → AreAt plan.settings.hosts (state plan h).usage
unfolding Run Legal state start after usage_move_of usage_after
used_at_hosts plan [] r = All-nil (λ (x : Used). x.key.host < plan.settings.hosts)
used_at_hosts plan (Egress a i at way d ∷ h) r =
    departure_at plan (node_of a) i d (state plan h).usage (host_there plan.settings a r.1.1 r.1.0.actor) (used_at_hosts plan h r.0)
used_at_hosts plan (Review n ∷ h) r = All-nil (λ (x : Used). x.key.host < plan.settings.hosts)
used_at_hosts plan (e ∷ h) r = used_at_hosts plan h r.0

-- ---- orders

abbrev pub AreFor : ℕ → List Given → Type 0
AreFor hosts gs = All (λ (g : Given). g.host < hosts) gs

for_more : (hosts : ℕ) (s : Settings) (log : List Entry) (u : Used) (said : Routed) (gs : List Given) → u.key.host < hosts → AreFor hosts gs → AreFor hosts (cons_option (order_to s log u.key said) gs)
for_more hosts s log u (routeds.To by net host) gs there all = All-cons (λ (g : Given). g.host < hosts) _ gs there all
for_more hosts s log u (routeds.Dropped by) gs there all = all
for_more hosts s log u (routeds.NoOwner by) gs there all = all

for_used : (hosts : ℕ) (s : Settings) (log : List Entry) (us : List Used) → AreAt hosts us → AreFor hosts (filter_map (order_for s log) us)
for_used hosts s log [] all = All-nil (λ (g : Given). g.host < hosts)
for_used hosts s log (u ∷ us) all =
    for_more hosts s log u (routed log u.key.net u.key.ip) (filter_map (order_for s log) us) (All-head (λ (x : Used). x.key.host < hosts) u us all)
    (for_used hosts s log us (All-tail (λ (x : Used). x.key.host < hosts) u us all))

-- the orders are for hosts that are there
pub orders_for_hosts : (plan : Plan) (h : List Event) (log : List Entry) → Run plan h → AreFor plan.settings.hosts (orders_of plan.settings log (state plan h).usage)
orders_for_hosts plan h log r =
    let over : Used → Bool = λ u. nat_le plan.settings.threshold u.bytes in
    for_used plan.settings.hosts plan.settings log (filter over (state plan h).usage)
    (All-filter over (λ (x : Used). x.key.host < plan.settings.hosts) (state plan h).usage (used_at_hosts plan h r))
