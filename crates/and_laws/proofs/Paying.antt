-- How long a run can be: every event is paid for by a step, by what a step or an order brings, or by a packet's hops.
use Rattle.std.proofs.Common.{◌≡◌, ℕ, ◌+◌, ◌*◌, ◌<◌, ◌≤◌, true, false, List, [], ◌∷◌, length, get_or, set, sum, replicate, refl, ap, arith}
use Rattle.std.proofs.lemmas.List.Sums.{sum_by-set}
use Rattle.std.proofs.lemmas.List.Folds.{sum_by-replicate}
use Rattle.std.proofs.lemmas.Option.{slice_get_within}
use Rattle.and_policy.specs.declared.entry.Entry.{Entry}
use Rattle.and_policy.specs.declared.entry.Entry.TheVariants as entries
use Rattle.and_policy.specs.declared.port.Port.{Port}
use Rattle.and_policy.specs.declared.port.Port.TheVariants as port_states
use Rattle.and_events.specs.declared.event.Node.{Node}
use Rattle.and_events.specs.declared.event.Node.TheVariants.{Host, Gate}
use Rattle.and_events.specs.declared.event.End.{End}
use Rattle.and_events.specs.declared.event.End.TheVariants.{Queued, Full, Hops}
use Rattle.and_events.specs.declared.event.Endpoint.{Endpoint}
use Rattle.and_events.specs.declared.event.Endpoint.TheVariants as endpoints
use Rattle.and_events.specs.declared.event.Carried.{Carried}
use Rattle.and_events.specs.declared.event.Departure.{Departure}
use Rattle.and_events.specs.declared.event.Departure.TheVariants.{NoVm, Spoofed, Denied, Allowed}
use Rattle.and_events.specs.declared.event.Passage.TheVariants as passages
use Rattle.and_events.specs.declared.event.Return.TheVariants as returns
use Rattle.and_events.specs.declared.event.Arrival.TheVariants as arrivals
use Rattle.and_events.specs.declared.event.Event.{Event}
use Rattle.and_events.specs.declared.event.Event.TheVariants.{Append, Review, Hold, Free, Wait, Inject, Blackout, Resume, Finish, Announce, Installed, Take, Egress, Sealed, Route, Redirect, Ingress, Unpin}
use Rattle.and_events.specs.declared.plan.Settings.{Settings}
use Rattle.and_events.specs.declared.plan.Plan.{Plan}
use Rattle.and_events.specs.Places.{node_count, node_place, node_of, hand_place, hand_count, queue_count, capacity_at, IsNode}
use Rattle.and_events.specs.Programming.{programmes_after}
use Rattle.and_events.specs.Ports.{port_at}
use Rattle.and_events.specs.State.{State, state, start, after, move_of, word_of, step_of, ports_move_of, ports_move_of_entry, departs, send, source_net, carried_at, dest_endpoint, dest_net}
use Rattle.and_events.specs.Legal.{Legal, IsRipe}
use Rattle.and_events.specs.Run.{Run}
use Rattle.and_laws.specs.Sizes.{HasNodes}
use Rattle.and_laws.specs.Bound.{HasShortProgrammes}
use Rattle.and_laws.proofs.Sizes.{sizes, nodes}
use Rattle.and_laws.proofs.LegalMoves.{legal_moves}
use Rattle.and_laws.proofs.Fates.{nothing_at_start}
use Rattle.and_laws.proofs.Leaving.{orderly}
use Rattle.and_laws.proofs.Work.{work_left, brings, costs, work_after}
use Rattle.and_laws.proofs.Hairpins.{hairpins, pins, pin, made, taken, IsTaken, hairpins_after}
use Rattle.and_laws.proofs.Short.{programmed, nothing_leaves}

-- ---- the steps done are steps of the plan

pub next_within : (plan : Plan) (h : List Event) → Run plan h → (state plan h).next ≤ length plan.steps
unfolding Run Legal state start after step_of
next_within plan [] r = omega arith
next_within plan (Append n ∷ h) (r, (entry, (is, told, can))) = omega (arith, is, slice_get_within plan.steps n _ told)
next_within plan (Review n ∷ h) (r, (is, told, can)) = omega (arith, is, slice_get_within plan.steps n _ told)
next_within plan (Hold n ∷ h) (r, (node, what, (is, told, can))) = omega (arith, is, slice_get_within plan.steps n _ told)
next_within plan (Free n ∷ h) (r, (node, what, (is, told, can))) = omega (arith, is, slice_get_within plan.steps n _ told)
next_within plan (Wait n ∷ h) (r, (is, told, can)) = omega (arith, is, slice_get_within plan.steps n _ told)
next_within plan (Inject n i full ∷ h) (r, ((is, told, can), l)) = omega (arith, is, slice_get_within plan.steps n _ told)
next_within plan (Blackout n ∷ h) (r, (vm, host, (is, told, can))) = omega (arith, is, slice_get_within plan.steps n _ told)
next_within plan (Resume n ∷ h) (r, (vm, (is, told, can))) = omega (arith, is, slice_get_within plan.steps n _ told)
next_within plan (Finish n ∷ h) (r, (is, told, can)) = omega (arith, is, slice_get_within plan.steps n _ told)
next_within plan (e ∷ h) r = next_within plan h r.0

pub short_programmes : (plan : Plan) (h : List Event) → Run plan h → HasShortProgrammes plan h
short_programmes plan h r = record { programmes = λ n. omega (arith, programmed plan h r n); steps = next_within plan h r }

-- ---- each event is paid for

-- five for each step done, and what was announced and installed
abbrev done_so_far : State → ℕ
done_so_far s = 5 * s.next + sum s.programmes.announced + sum s.programmes.installed

node_within : (s : Settings) (n : Node) → IsNode s n → node_place s n < node_count s
node_within s (Host h) is = omega arith
node_within s (Gate g) is = omega arith

raised : (xs : List ℕ) (n upto : ℕ) → n < length xs → get_or xs n 0 < upto → sum xs + 1 ≤ sum (set xs n upto)
raised xs n upto there more = omega (arith, sum_by-set (λ x. x) xs n upto 0 there, more)

pub made_by_entry : (e : Entry) → made (ports_move_of_entry e) ≡ 0
made_by_entry (entries.AddVm vm net mac ip host) = refl
made_by_entry (entries.RemoveVm vm) = refl
made_by_entry e = refl

-- a send costs one; so does a packet's end
send_pays : (s : Settings) (a i : ℕ) (end : End) (target : Endpoint) (net : ℕ) → 1 + brings (send s a i end target net) ≡ costs (send s a i end target net)
send_pays s a i Queued target net = refl
send_pays s a i Full target net = refl
send_pays s a i Hops target net = refl

depart_pays : (s : Settings) (own a i : ℕ) (here : Node) (d : Departure) → 1 + brings (departs s own a i here d) ≡ costs (departs s own a i here d)
depart_pays s own a i here NoVm = refl
depart_pays s own a i here Spoofed = refl
depart_pays s own a i here (Denied n) = refl
depart_pays s own a i here (Allowed by true dest Queued) = refl
depart_pays s own a i here (Allowed by true dest Full) = refl
depart_pays s own a i here (Allowed by true dest Hops) = refl
depart_pays s own a i here (Allowed by false dest end) = send_pays s a i end (dest_endpoint dest) (dest_net own dest)

event_pays : (plan : Plan) (s : State) (e : Event) → HasNodes plan s.programmes → Legal plan s e → 1 + brings (move_of plan s e) + made (ports_move_of plan s e) + done_so_far s ≤ costs (move_of plan s e) + taken (ports_move_of plan s e) + done_so_far (after plan s e)
unfolding Legal move_of ports_move_of after word_of step_of programmes_after
event_pays plan s (Append n) z (entry, (is, told, can)) = rw told (omega (arith, made_by_entry entry))
event_pays plan s (Review n) z (is, told, can) = rw told (omega arith)
event_pays plan s (Hold n) z l = omega arith
event_pays plan s (Free n) z l = omega arith
event_pays plan s (Wait n) z l = omega arith
event_pays plan s (Inject n i true) z l = omega arith
event_pays plan s (Inject n i false) z l = omega arith
event_pays plan s (Blackout n) z (vm, host, (is, told, can)) = rw told (omega arith)
event_pays plan s (Resume n) z (vm, (is, told, can)) = rw told (omega arith)
event_pays plan s (Finish n) z l = omega arith
event_pays plan s (Announce node upto) z ((is, held, same, more), whole) =
    let there = node_within plan.settings node is in
    omega (arith, raised s.programmes.announced (node_place plan.settings node) upto (omega (arith, there, z.announced)) (omega (arith, more, whole)))
event_pays plan s (Installed node upto) z ((is, more), whole) =
    let there = node_within plan.settings node is in
    omega (arith, raised s.programmes.installed (node_place plan.settings node) upto (omega (arith, there, z.installed)) (omega (arith, more, whole)))
event_pays plan s (Take a q i) z l = omega arith
event_pays plan s (Egress a i at way d) z l = omega (arith, depart_pays plan.settings (source_net plan i) (hand_place plan.settings a) i (node_of a) d)
event_pays plan s (Sealed a i end) z l = omega (arith, send_pays plan.settings (hand_place plan.settings a) i end (carried_at s i).target (carried_at s i).net)
event_pays plan s (Route a i at (passages.Send by net host end)) z l = omega (arith, send_pays plan.settings (hand_place plan.settings a) i end (endpoints.Host host) net)
event_pays plan s (Route a i at (passages.Dropped by)) z l = omega arith
event_pays plan s (Route a i at (passages.NoOwner by)) z l = omega arith
event_pays plan s (Route a i at (passages.Hops by)) z l = omega arith
event_pays plan s (Redirect a i at returns.NoOwner) z l = omega arith
event_pays plan s (Redirect a i at (returns.Send host end)) z l = omega (arith, send_pays plan.settings (hand_place plan.settings a) i end (endpoints.Host host) (carried_at s i).net)
event_pays plan s (Redirect a i at returns.Hops) z l = omega arith
event_pays plan s (Ingress a i at way arrivals.NoOwner) z l = omega arith
event_pays plan s (Ingress a i at way (arrivals.Running vm by pass)) z l = omega arith
event_pays plan s (Ingress a i at way (arrivals.Blackout vm)) z l = omega arith
event_pays plan s (Ingress a i at way (arrivals.Hairpin vm host end)) z l = omega (arith, send_pays plan.settings (hand_place plan.settings a) i end (endpoints.Host host) (carried_at s i).net)
event_pays plan s (Ingress a i at way (arrivals.Absent vm gateway end)) z l = omega (arith, send_pays plan.settings (hand_place plan.settings a) i end (endpoints.Redirect gateway) (carried_at s i).net)
event_pays plan s (Unpin host vm) z l = omega arith

-- a hairpin that is unpinned is there
ripe_pin : (plan : Plan) (s : State) (host vm : ℕ) → IsRipe plan s host vm → pin (port_at s.ports host vm) ≡ 1
ripe_pin plan s host vm r = ap pin r.3

entry_takes : (ports : List (List Port)) (e : Entry) → IsTaken ports (ports_move_of_entry e)
entry_takes ports (entries.AddVm vm net mac ip host) = tt
entry_takes ports (entries.RemoveVm vm) = tt
entry_takes ports e = tt

pub takes_pin : (plan : Plan) (s : State) (e : Event) → Legal plan s e → IsTaken s.ports (ports_move_of plan s e)
unfolding Legal ports_move_of
takes_pin plan s (Append n) (entry, (is, told, can)) = rw told (entry_takes s.ports entry)
takes_pin plan s (Blackout n) (vm, host, (is, told, can)) = rw told tt
takes_pin plan s (Resume n) (vm, (is, told, can)) = rw told tt
takes_pin plan s (Unpin host vm) l = ripe_pin plan s host vm l.0
takes_pin plan s _ l = tt

-- ---- runs

pub no_pins : (names hosts : ℕ) → hairpins (replicate names (replicate hosts port_states.Absent)) ≡ 0
no_pins names hosts =
    let row = replicate hosts port_states.Absent in
    let none : pins row ≡ 0 = omega (arith, sum_by-replicate pin hosts port_states.Absent) in
    let all = sum_by-replicate pins names row in
    let nothing : names * pins row ≡ names * 0 = ap (λ x. names * x) none in
    omega (arith, all, nothing)

paid_at_start : (plan : Plan) → work_left plan.settings.hosts (state plan []).flow + hairpins (state plan []).ports ≤ 2 * (length plan.packets * plan.settings.hop_limit)
unfolding state start
paid_at_start plan =
    let at_first : Carried = record { hops = plan.settings.hop_limit; sealed = false; net = 0; target = endpoints.Host 0 } in
    omega (
      arith,
      sum_by-replicate (λ (c : Carried). c.hops) (length plan.packets) at_first,
      nothing_at_start plan,
      nothing_leaves plan.settings.hosts (queue_count plan.settings) (hand_count plan.settings),
      no_pins (length plan.names) plan.settings.hosts,
    )

-- the events so far and the work that is left are no more than what was brought
pub paid : (plan : Plan) (h : List Event) → Run plan h → length h + work_left plan.settings.hosts (state plan h).flow + hairpins (state plan h).ports ≤ done_so_far (state plan h) + 2 * (length plan.packets * plan.settings.hop_limit)
unfolding Run state after
paid plan [] r = omega (arith, paid_at_start plan)
paid plan (e ∷ h) r =
    let s = state plan h in
    let m = move_of plan s e in
    omega (
      arith,
      paid plan h r.0,
      event_pays plan s e (nodes plan h) r.1,
      work_after plan.settings.hosts (capacity_at plan.settings) s.flow m (orderly plan s e r.1) (legal_moves plan s e (sizes plan h) r.1),
      hairpins_after s.ports (ports_move_of plan s e) (takes_pin plan s e r.1),
    )
