-- The packets that wait in `out` queues or are in hand from one: each is decided of by one Egress, and none comes back.
use Rattle.std.proofs.Common.{◌≡◌, ℕ, ◌+◌, ◌<◌, ◌≤◌, true, false, List, [], ◌∷◌, ◌++◌, length, take, drop, get_or, set, refl, ap, ◌∙◌, arith, Option, Some, None, length-append, length-take, ⊎_elim}
use Rattle.std.specs.List.{sum_by}
use Rattle.std.proofs.Math.Seq.{take-set-lt}
use Rattle.std.proofs.lemmas.List.{take-set-le, get_or-take}
use Rattle.std.proofs.lemmas.List.Sums.{sum_by-set}
use Rattle.std.proofs.lemmas.Bool.{cases_lt}
use Rattle.std.proofs.lemmas.Grind.{common_steps}
use Rattle.and_events.specs.declared.event.Actor.{Actor}
use Rattle.and_events.specs.declared.event.Actor.TheVariants.{HostInstall, GateInstall, Worker, Coproc, Gateway, Controller, Driver}
use Rattle.and_events.specs.declared.event.Queue.{Queue}
use Rattle.and_events.specs.declared.event.Queue.TheVariants.{Out, Wire, Seal}
use Rattle.and_events.specs.declared.event.End.{End}
use Rattle.and_events.specs.declared.event.End.TheVariants.{Queued, Full, Hops}
use Rattle.and_events.specs.declared.event.Endpoint.{Endpoint}
use Rattle.and_events.specs.declared.event.Endpoint.TheVariants as endpoints
use Rattle.and_events.specs.declared.event.Departure.{Departure}
use Rattle.and_events.specs.declared.event.Departure.TheVariants.{NoVm, Spoofed, Denied, Allowed}
use Rattle.and_events.specs.declared.event.Passage.TheVariants as passages
use Rattle.and_events.specs.declared.event.Return.TheVariants as returns
use Rattle.and_events.specs.declared.event.Arrival.TheVariants as arrivals
use Rattle.and_events.specs.declared.event.Event.{Event}
use Rattle.and_events.specs.declared.event.Event.TheVariants.{Inject, Take, Egress, Sealed, Route, Redirect, Ingress}
use Rattle.and_events.specs.declared.event.Held.{Held}
use Rattle.and_events.specs.declared.plan.Settings.{Settings}
use Rattle.and_events.specs.declared.plan.Plan.{Plan}
use Rattle.and_events.specs.Places.{hand_place, queue_place, node_of, IsActor, IsWorker}
use Rattle.and_events.specs.Flow.{Flow, Move, Stay, Enter, Lose, Grab, Send, SealLater, Stop, flow_after, CanMove, queue_at, hand_at, pushed, popped}
use Rattle.and_events.specs.State.{State, move_of, carried_at, send, departs, dest_endpoint, dest_net, source_net}
use Rattle.and_events.specs.Legal.{Legal, Decides, TakesFrom}
use Rattle.and_laws.proofs.Places.{front_within, hand_within}

abbrev pub is_out : Queue → ℕ
is_out Out = 1
is_out Wire = 0
is_out Seal = 0

-- a hand that has a packet from an `out` queue
abbrev pub from_out : Option Held → ℕ
from_out None = 0
from_out (Some g) = is_out g.queue

-- the `out` queues are the first, as many as there are hosts
abbrev pub out_queued : ℕ → List (List ℕ) → ℕ
out_queued hosts queues = sum_by length (take hosts queues)

abbrev pub leaving_count : ℕ → Flow → ℕ
leaving_count hosts f = out_queued hosts f.queues + sum_by from_out f.hands

-- ---- queues

out_set : (hosts : ℕ) (queues : List (List ℕ)) (q : ℕ) (xs : List ℕ) → q < length queues → q < hosts → out_queued hosts (set queues q xs) + length (queue_at queues q) ≡ out_queued hosts queues + length xs
out_set hosts queues q xs within first =
    let none : List ℕ = [] in
    let moved = ap (sum_by length) (take-set-lt hosts queues q xs first) in
    let there : q < length (take hosts queues) = simp length-take (grind (arith, common_steps)) in
    let e = sum_by-set length (take hosts queues) q xs none there in
    let same : length (get_or (take hosts queues) q none) ≡ length (queue_at queues q) = ap length (get_or-take hosts queues q none first) in
    omega (arith, moved, e, same)

out_past : (hosts : ℕ) (queues : List (List ℕ)) (q : ℕ) (xs : List ℕ) → hosts ≤ q → out_queued hosts (set queues q xs) ≡ out_queued hosts queues
out_past hosts queues q xs past = ap (sum_by length) (take-set-le hosts queues q xs past)

out_pushed : (hosts : ℕ) (queues : List (List ℕ)) (q i : ℕ) → q < length queues → out_queued hosts (pushed queues q i) ≤ out_queued hosts queues + 1
out_pushed hosts queues q i within =
    let more = length-append (queue_at queues q) (i ∷ []) in
    ⊎_elim (λ (l : q < hosts). omega (arith, out_set hosts queues q (queue_at queues q ++ i ∷ []) within l, more))
    (λ (l : hosts ≤ q). omega (arith, out_past hosts queues q (queue_at queues q ++ i ∷ []) l)) (cases_lt q hosts)

-- a packet that is taken from an `out` queue is in hand from one
out_popped : (hosts : ℕ) (queues : List (List ℕ)) (q i out : ℕ) (rest : List ℕ) → queue_at queues q ≡ i ∷ rest → out ≤ 1 → (hosts ≤ q → out ≡ 0) → out_queued hosts (popped queues q) + out ≤ out_queued hosts queues
out_popped hosts queues q i out rest front small only =
    let less : length (drop 1 (queue_at queues q)) ≡ length rest = ap (λ xs. length (drop 1 xs)) front in
    let was : length (queue_at queues q) ≡ length rest + 1 = ap length front ∙ omega arith in
    ⊎_elim (λ (l : q < hosts). omega (arith, out_set hosts queues q (drop 1 (queue_at queues q)) (front_within q i rest queues front) l, less, was))
    (λ (l : hosts ≤ q). omega (arith, out_past hosts queues q (drop 1 (queue_at queues q)) l, only l)) (cases_lt q hosts)

out_small : (q : Queue) → is_out q ≤ 1
out_small Out = omega arith
out_small Wire = omega arith
out_small Seal = omega arith

-- ---- moves

-- only what is in hand from an `out` queue is given to be sealed, and no packet goes back to an `out` queue
abbrev pub Orderly : ℕ → Flow → Move → Type 0
Orderly hosts f (Grab a q h) = hosts ≤ q → is_out h.queue ≡ 0
Orderly hosts f (Send a q i net target) = hosts ≤ q
Orderly hosts f (SealLater a q i net target) = (hosts ≤ q) × (from_out (hand_at f.hands a) ≡ 1)
Orderly hosts f _ = Unit {0}

abbrev pub enters : Move → ℕ
enters (Enter q i) = 1
enters _ = 0

-- the move lets go a packet from an `out` queue
abbrev pub let_go : Flow → Move → ℕ
let_go f (Send a q i net target) = from_out (hand_at f.hands a)
let_go f (SealLater a q i net target) = from_out (hand_at f.hands a)
let_go f (Stop a i) = from_out (hand_at f.hands a)
let_go f _ = 0

pub leaving_after : (hosts : ℕ) (capacity : ℕ → ℕ) (f : Flow) (m : Move) → Orderly hosts f m → CanMove capacity f m → leaving_count hosts (flow_after f m) + let_go f m ≤ leaving_count hosts f + enters m
unfolding CanMove flow_after
leaving_after hosts capacity f Stay o can = omega arith
leaving_after hosts capacity f (Enter q i) o can = omega (arith, out_pushed hosts f.queues q i can.0)
leaving_after hosts capacity f (Lose i) o can = omega arith
leaving_after hosts capacity f (Grab a q h) o (within, none, (rest, front)) =
    omega (
      arith,
      out_popped hosts f.queues q h.packet (is_out h.queue) rest front (out_small h.queue) o,
      sum_by-set from_out f.hands a (Some h) None within,
      ap from_out none,
    )
leaving_after hosts capacity f (Send a q i net target) o ((g, has, is), room, hops) =
    omega (
      arith,
      out_past hosts f.queues q (queue_at f.queues q ++ i ∷ []) o,
      sum_by-set from_out f.hands a None None (hand_within a g f.hands has),
    )
leaving_after hosts capacity f (SealLater a q i net target) o ((g, has, is), room) =
    omega (
      arith,
      out_past hosts f.queues q (queue_at f.queues q ++ i ∷ []) o.0,
      sum_by-set from_out f.hands a None None (hand_within a g f.hands has),
    )
leaving_after hosts capacity f (Stop a i) o (g, has, is) = omega (arith, sum_by-set from_out f.hands a None None (hand_within a g f.hands has))

-- ---- events

orderly_send : (plan : Plan) (s : State) (a i : ℕ) (end : End) (target : Endpoint) (net : ℕ) → Orderly plan.settings.hosts s.flow (send plan.settings a i end target net)
orderly_send plan s a i Queued (endpoints.Host host) net = omega arith
orderly_send plan s a i Queued (endpoints.Route g) net = omega arith
orderly_send plan s a i Queued (endpoints.Redirect g) net = omega arith
orderly_send plan s a i Full target net = tt
orderly_send plan s a i Hops target net = tt

seal_past : (s : Settings) (a : Actor) → IsWorker a → s.hosts ≤ queue_place s (node_of a) Seal
seal_past s (Worker h w) is = omega arith
seal_past s (HostInstall h) is = absurd is
seal_past s (GateInstall g) is = absurd is
seal_past s (Coproc h) is = absurd is
seal_past s (Gateway g) is = absurd is
seal_past s Controller is = absurd is
seal_past s Driver is = absurd is

orderly_depart : (plan : Plan) (s : State) (a : Actor) (own i : ℕ) (d : Departure) → IsWorker a → from_out (hand_at s.flow.hands (hand_place plan.settings a)) ≡ 1 → Orderly plan.settings.hosts s.flow (departs plan.settings own (hand_place plan.settings a) i (node_of a) d)
orderly_depart plan s a own i NoVm is from = tt
orderly_depart plan s a own i Spoofed is from = tt
orderly_depart plan s a own i (Denied n) is from = tt
orderly_depart plan s a own i (Allowed by true dest Queued) is from = (seal_past plan.settings a is, from)
orderly_depart plan s a own i (Allowed by true dest Full) is from = tt
orderly_depart plan s a own i (Allowed by true dest Hops) is from = tt
orderly_depart plan s a own i (Allowed by false dest end) is from = orderly_send plan s (hand_place plan.settings a) i end (dest_endpoint dest) (dest_net own dest)

orderly_take : (plan : Plan) (s : State) (a : Actor) (q : Queue) → IsActor plan.settings a → TakesFrom plan s a q → plan.settings.hosts ≤ queue_place plan.settings (node_of a) q → is_out q ≡ 0
orderly_take plan s (Worker h w) Out is from past = absurd (omega (arith, is.0, past))
orderly_take plan s a Wire is from past = refl
orderly_take plan s a Seal is from past = refl
orderly_take plan s (HostInstall h) Out is from past = absurd from
orderly_take plan s (GateInstall g) Out is from past = absurd from
orderly_take plan s (Coproc h) Out is from past = absurd from
orderly_take plan s (Gateway g) Out is from past = absurd from
orderly_take plan s Controller Out is from past = absurd from
orderly_take plan s Driver Out is from past = absurd from

pub decides_out : (plan : Plan) (s : State) (a : Actor) (i at : ℕ) → Decides plan s a i Out at → from_out (hand_at s.flow.hands (hand_place plan.settings a)) ≡ 1
decides_out plan s a i at d = ap from_out d.holds

pub orderly : (plan : Plan) (s : State) (e : Event) → Legal plan s e → Orderly plan.settings.hosts s.flow (move_of plan s e)
unfolding Legal move_of
orderly plan s (Inject n i true) l = tt
orderly plan s (Inject n i false) l = tt
orderly plan s (Take a q i) l = orderly_take plan s a q l.actor l.queue
orderly plan s (Egress a i at way d) l = orderly_depart plan s a (source_net plan i) i d l.1 (decides_out plan s a i at l.0)
orderly plan s (Sealed a i end) l = orderly_send plan s (hand_place plan.settings a) i end (carried_at s i).target (carried_at s i).net
orderly plan s (Route a i at (passages.Send by net host end)) l = orderly_send plan s (hand_place plan.settings a) i end (endpoints.Host host) net
orderly plan s (Route a i at (passages.Dropped by)) l = tt
orderly plan s (Route a i at (passages.NoOwner by)) l = tt
orderly plan s (Route a i at (passages.Hops by)) l = tt
orderly plan s (Redirect a i at returns.NoOwner) l = tt
orderly plan s (Redirect a i at (returns.Send host end)) l = orderly_send plan s (hand_place plan.settings a) i end (endpoints.Host host) (carried_at s i).net
orderly plan s (Redirect a i at returns.Hops) l = tt
orderly plan s (Ingress a i at way arrivals.NoOwner) l = tt
orderly plan s (Ingress a i at way (arrivals.Running vm by pass)) l = tt
orderly plan s (Ingress a i at way (arrivals.Blackout vm)) l = tt
orderly plan s (Ingress a i at way (arrivals.Hairpin vm host end)) l = orderly_send plan s (hand_place plan.settings a) i end (endpoints.Host host) (carried_at s i).net
orderly plan s (Ingress a i at way (arrivals.Absent vm gateway end)) l = orderly_send plan s (hand_place plan.settings a) i end (endpoints.Redirect gateway) (carried_at s i).net
orderly plan s _ l = tt
