-- The work that packets still have: every move of a packet uses some up.
use Rattle.std.proofs.Common.{◌≡◌, ℕ, ◌+◌, ◌*◌, ◌<◌, ◌≤◌, List, length, set, ap, arith, ⊎_elim}
use Rattle.std.specs.List.{sum_by}
use Rattle.std.proofs.lemmas.List.{set_past}
use Rattle.std.proofs.lemmas.List.Sums.{sum_by-set}
use Rattle.std.proofs.lemmas.Bool.{cases_lt}
use Rattle.and_events.specs.declared.event.Carried.{Carried}
use Rattle.and_events.specs.declared.event.Endpoint.{Endpoint}
use Rattle.and_events.specs.Flow.{Flow, Move, Stay, Enter, Lose, Grab, Send, SealLater, Stop, flow_after, CanMove, carried_in, nothing_carried, sent, to_be_sealed}
use Rattle.and_laws.specs.Fates.{queued_count, in_hand_count}
use Rattle.and_laws.proofs.Hops.{there}
use Rattle.and_laws.proofs.Places.{as_one, each_weighs, pushed_weighs, popped_weighs, filled_weighs, emptied_weighs}
use Rattle.and_laws.proofs.Leaving.{Orderly, leaving_count, leaving_after}

-- the hops that all packets have left
abbrev pub hops_total : List Carried → ℕ
hops_total carried = sum_by (λ (c : Carried). c.hops) carried

-- two for a hop, two for a place in a queue, one for a hand; two more where the packet is not yet decided of
abbrev pub work_left : ℕ → Flow → ℕ
work_left hosts f = 2 * hops_total f.carried + 2 * queued_count f + in_hand_count f + 2 * leaving_count hosts f

-- an injection brings work, and every other move uses some up
abbrev pub brings : Move → ℕ
brings (Enter q i) = 4
brings _ = 0

abbrev pub costs : Move → ℕ
costs (Grab a q h) = 1
costs (Send a q i net target) = 1
costs (SealLater a q i net target) = 1
costs (Stop a i) = 1
costs _ = 0

sent_total : (carried : List Carried) (j net : ℕ) (target : Endpoint) → 0 < (carried_in carried j).hops → hops_total (set carried j (sent (carried_in carried j) net target)) + 1 ≡ hops_total carried
sent_total carried j net target some =
    omega (arith, sum_by-set (λ (c : Carried). c.hops) carried j (sent (carried_in carried j) net target) nothing_carried (there carried j some), some)

waiting_total : (carried : List Carried) (j net : ℕ) (target : Endpoint) → hops_total (set carried j (to_be_sealed (carried_in carried j) net target)) ≡ hops_total carried
waiting_total carried j net target =
    ⊎_elim (λ (l : j < length carried). omega (arith, sum_by-set (λ (c : Carried). c.hops) carried j (to_be_sealed (carried_in carried j) net target) nothing_carried l))
    (λ (l : length carried ≤ j). ap hops_total (set_past carried j (to_be_sealed (carried_in carried j) net target) l)) (cases_lt j (length carried))

pub work_after : (hosts : ℕ) (capacity : ℕ → ℕ) (f : Flow) (m : Move) → Orderly hosts f m → CanMove capacity f m → work_left hosts (flow_after f m) + costs m ≤ work_left hosts f + brings m
unfolding CanMove flow_after
work_after hosts capacity f Stay o can = omega arith
work_after hosts capacity f (Enter q i) o can =
    omega (arith, leaving_after hosts capacity f (Enter q i) o can, pushed_weighs as_one length _ each_weighs f.queues q i can.0)
work_after hosts capacity f (Lose i) o can = omega arith
work_after hosts capacity f (Grab a q h) o can =
    omega (
      arith,
      leaving_after hosts capacity f (Grab a q h) o can,
      popped_weighs as_one length _ each_weighs f.queues q h.packet can.2.0 can.2.1,
      filled_weighs as_one length _ each_weighs f.hands a h can.0 can.1,
    )
work_after hosts capacity f (Send a q i net target) o can =
    omega (
      arith,
      leaving_after hosts capacity f (Send a q i net target) o can,
      pushed_weighs as_one length _ each_weighs f.queues q i can.1.0,
      emptied_weighs as_one length _ each_weighs f.hands a i can.0.0 can.0.1 can.0.2,
      sent_total f.carried i net target can.2,
    )
work_after hosts capacity f (SealLater a q i net target) o can =
    omega (
      arith,
      leaving_after hosts capacity f (SealLater a q i net target) o can,
      o.1,
      pushed_weighs as_one length _ each_weighs f.queues q i can.1.0,
      emptied_weighs as_one length _ each_weighs f.hands a i can.0.0 can.0.1 can.0.2,
      waiting_total f.carried i net target,
    )
work_after hosts capacity f (Stop a i) o can =
    omega (arith, leaving_after hosts capacity f (Stop a i) o can, emptied_weighs as_one length _ each_weighs f.hands a i can.0 can.1 can.2)
