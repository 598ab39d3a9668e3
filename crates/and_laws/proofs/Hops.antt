-- The sends of a packet and its hops left add up to the limit.
use Rattle.std.proofs.Common.{◌≡◌, ℕ, ◌+◌, ◌<◌, ◌≤◌, ◌==◌, false, cond, List, [], ◌∷◌, length, set, refl, ap, arith, ⊎_elim}
use Rattle.std.proofs.lemmas.List.{get_or-set_same, get_or-set_other, get_or-replicate, get_or_past, set_past}
use Rattle.std.proofs.lemmas.Bool.{cases_eq, cases_lt}
use Rattle.std.proofs.lemmas.Grind.{common_steps}
use Rattle.and_events.specs.declared.event.Event.{Event}
use Rattle.and_events.specs.declared.event.Endpoint.{Endpoint}
use Rattle.and_events.specs.declared.event.Endpoint.TheVariants as endpoints
use Rattle.and_events.specs.declared.event.Carried.{Carried}
use Rattle.and_events.specs.declared.plan.Plan.{Plan}
use Rattle.and_events.specs.Places.{capacity_at}
use Rattle.and_events.specs.Flow.{Flow, Move, Stay, Enter, Lose, Grab, Send, SealLater, Stop, flow_after, CanMove, carried_in, nothing_carried, sent, to_be_sealed}
use Rattle.and_events.specs.State.{state, start, after, move_of}
use Rattle.and_events.specs.Run.{Run, sends, is_send}
use Rattle.and_laws.specs.Limits.{HasAllHops}
use Rattle.and_laws.proofs.LegalMoves.{legal_moves}
use Rattle.and_laws.proofs.Places.{one_if}
use Rattle.and_laws.proofs.Sizes.{sizes}

-- a packet that has hops is in the list
pub there : (carried : List Carried) (i : ℕ) → 0 < (carried_in carried i).hops → i < length carried
there carried i h = grind (arith, common_steps, get_or_past)

hops_set : (carried : List Carried) (i j : ℕ) (c : Carried) → j < length carried → (carried_in (set carried j c) i).hops ≡ cond (j == i) c.hops ((carried_in carried i).hops)
hops_set carried i j c h =
    let other = get_or-set_other carried j i c nothing_carried in
    let same = get_or-set_same carried j c nothing_carried h in
    grind (arith, common_steps, cases_eq i j, other, same)

hops_same : (carried : List Carried) (i j : ℕ) (c : Carried) → c.hops ≡ (carried_in carried j).hops → (carried_in (set carried j c) i).hops ≡ (carried_in carried i).hops
hops_same carried i j c h =
    let other = get_or-set_other carried j i c nothing_carried in
    let same = get_or-set_same carried j c nothing_carried in
    let past = set_past carried j c in
    ⊎_elim (λ (within : j < length carried). grind (arith, common_steps, cases_eq i j, other, same within))
    (λ (e : length carried ≤ j). ap (λ x. (carried_in x i).hops) (past e)) (cases_lt j (length carried))

hops_send : (carried : List Carried) (i j net : ℕ) (target : Endpoint) → 0 < (carried_in carried j).hops → (carried_in (set carried j (sent (carried_in carried j) net target)) i).hops + one_if (j == i) ≡ (carried_in carried i).hops
hops_send carried i j net target some =
    grind (arith, common_steps, cases_eq i j, hops_set carried i j (sent (carried_in carried j) net target) (there carried j some))

hops_after : (i : ℕ) (capacity : ℕ → ℕ) (f : Flow) (m : Move) → CanMove capacity f m → (carried_in (flow_after f m).carried i).hops + one_if (is_send i m) ≡ (carried_in f.carried i).hops
unfolding CanMove flow_after
hops_after i capacity f Stay can = omega arith
hops_after i capacity f (Enter q j) can = omega arith
hops_after i capacity f (Lose j) can = omega arith
hops_after i capacity f (Grab a q h) can = omega arith
hops_after i capacity f (Send a q j net target) can = hops_send f.carried i j net target can.2
hops_after i capacity f (SealLater a q j net target) can = omega (arith, hops_same f.carried i j (to_be_sealed (carried_in f.carried j) net target) refl)
hops_after i capacity f (Stop a j) can = omega arith

pub hops_left : (plan : Plan) (h : List Event) → Run plan h → HasAllHops plan h
unfolding Run state start after sends
hops_left plan [] r i is =
    let at_first : Carried = record { hops = plan.settings.hop_limit; sealed = false; net = 0; target = endpoints.Host 0 } in
    let e = ap (λ (c : Carried). c.hops) (get_or-replicate (length plan.packets) i at_first nothing_carried is) in
    omega (arith, e)
hops_left plan (e ∷ h) r i is =
    omega (
      arith,
      hops_left plan h r.0 i is,
      hops_after i (capacity_at plan.settings) (state plan h).flow (move_of plan (state plan h) e) (legal_moves plan (state plan h) e (sizes plan h) r.1),
    )
