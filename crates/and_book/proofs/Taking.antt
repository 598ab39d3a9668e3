-- A take is legal, and what is kept after it.
use Rattle.std.proofs.lemmas.Nat.{mul-add-lt}
use Rattle.and_events.specs.declared.plan.Settings.{Settings}
use Rattle.and_events.specs.Places.{hand_count, IsActor}
use Rattle.and_laws.specs.Sizes.{HasSizes}
use Rattle.and_kept.specs.Moves.{taken}
use Rattle.and_book.proofs.More.{as_kept}
use Rattle.std.proofs.Common.{◌≡◌, ℕ, zero, suc, ◌+◌, ◌<◌, ◌≤◌, true, false, List, [], ◌∷◌, length, drop, get_or, refl, sym, ap, ◌∙◌, subst, arith, Option, Some, None}
use Rattle.std.specs.Prelude.{nat_lt, slice_get, is_some, if◌then◌else◌}
use Rattle.std.specs.List.{All}
use Rattle.std.proofs.lemmas.Bool.{ltb-false}
use Rattle.std.proofs.lemmas.List.Elements.{All-set, All-drop, All-nil, All-head, All-tail}
use Rattle.and_parcel.specs.Parcels.{ParcelView}
use Rattle.and_events.specs.declared.event.Actor.{Actor}
use Rattle.and_events.specs.declared.event.Actor.TheVariants.{HostInstall, GateInstall, Worker, Coproc, Gateway, Controller, Driver}
use Rattle.and_events.specs.declared.event.Event.TheVariants.{Take}
use Rattle.and_events.specs.declared.event.Held.{Held}
use Rattle.and_events.specs.declared.event.Node.TheVariants.{Host}
use Rattle.and_events.specs.declared.event.Queue.{Queue}
use Rattle.and_events.specs.declared.event.Queue.TheVariants.{Out, Wire}
use Rattle.and_events.specs.declared.plan.Plan.{Plan}
use Rattle.and_events.specs.Places.{hand_place, queue_place, node_of}
use Rattle.and_events.specs.Flow.{Flow, Grab, flow_after, queue_at}
use Rattle.and_events.specs.Ports.{ports_after}
use Rattle.and_events.specs.Programming.{programmes_after}
use Rattle.and_events.specs.State.{State, after, move_of, word_of, ports_move_of, step_of, usage_move_of, installed_of, holds_after}
use Rattle.and_events.specs.Usage.{usage_after}
use Rattle.and_events.specs.Legal.{Legal, TakesFrom}
use Rattle.and_laws.specs.Fates.{in_hand_count}
use Rattle.and_kept.specs.Lanes.{Roads, parcels_at, without_first}
use Rattle.and_kept.proofs.Counts.{count_set}
use Rattle.and_book.specs.Views.{MayTake}
use Rattle.and_events.specs.Places.{Handles}
use Rattle.and_kept.specs.Moves.{source_in}
use Rattle.and_book.specs.Inside.{Kept, Stands}
use Rattle.and_book.proofs.More.{IsAfter}
use Rattle.and_book.proofs.Pinning.{pins_stay}

first : (xs : List ℕ) (i : ℕ) → slice_get xs 0 ≡ Some i → (rest : List ℕ) × (xs ≡ i ∷ rest)
first [] i e = absurd (cc)
first (x ∷ xs) i e = (xs, cc)

pub none_there : (xs : List ℕ) → length xs ≤ 0 → xs ≡ []
none_there [] h = refl
none_there (x ∷ xs) h = absurd (omega (arith, h))

pub takes_from : (plan : Plan) (s : State) (a : Actor) → Handles a → TakesFrom plan s a (source_in plan.settings s.flow a)
takes_from plan s (Worker h w) t =
    let wire = queue_at s.flow.queues (queue_place plan.settings (Host h) Wire) in
    elim (nat_lt 0 (length wire)) as (λ b. (nat_lt 0 (length wire) ≡ b → TakesFrom plan s (Worker h w) (if b then Wire else Out))) [
      | true ↦ λ e. tt
      | false ↦ λ e. none_there wire (ltb-false _ _ e)
    ] refl
takes_from plan s (Coproc h) t = tt
takes_from plan s (Gateway g) t = tt
takes_from plan s (HostInstall h) t = absurd t
takes_from plan s (GateInstall g) t = absurd t
takes_from plan s Controller t = absurd t
takes_from plan s Driver t = absurd t

pub legal_take : (plan : Plan) (s : State) (a : Actor) (q : Queue) (i : ℕ) → MayTake plan s a → q ≡ source_in plan.settings s.flow a → slice_get (queue_at s.flow.queues (queue_place plan.settings (node_of a) q)) 0 ≡ Some i → Legal plan s (Take a q i)
unfolding Legal
legal_take plan s a q i may is front = record {
  actor = may.actor;
  free = may.free;
  running = may.running;
  queue = subst (TakesFrom plan s a) (sym is) (takes_from plan s a may.handles);
  front = first (queue_at s.flow.queues (queue_place plan.settings (node_of a) q)) i front;
}

pub after_take : (plan : Plan) (s : State) (k : Kept) (a : Actor) (held : Held) → Stands k s → k.roads.settings ≡ plan.settings → held.need ≡ installed_of plan s (node_of a) → IsAfter plan s (Take a held.queue held.packet) k (record k { roads = taken k.roads a held })
unfolding after holds_after move_of word_of ports_move_of step_of usage_move_of usage_after ports_after programmes_after
after_take plan s k a held st settings need =
    record {
      stands = record {
        next = st.next;
        programmes = st.programmes;
        ports = st.ports;
        flow = as_kept plan s k (λ v f. flow_after f (Grab (hand_place v a) (queue_place v (node_of a) held.queue) held)) settings st.flow
            ∙ ap (λ n. flow_after s.flow (Grab (hand_place plan.settings a) (queue_place plan.settings (node_of a) held.queue) (record { packet = held.packet; need = n; queue = held.queue }))) need;
        holds = st.holds;
        usage = st.usage;
      };
      settings = refl;
      limit = refl;
      room = omega arith;
      known = refl;
      pins = pins_stay plan k (record k { roads = taken k.roads a held }) refl refl refl (omega arith);
    }

-- one more hand is full
pub one_held : (f : Flow) (hand from : ℕ) (h : Held) → hand < length f.hands → in_hand_count (flow_after f (Grab hand from h)) ≤ in_hand_count f + 1
unfolding flow_after
one_held f hand from h there =
    let none : Option Held = None in
    let written = count_set is_some f.hands hand (Some h) none there in
    omega (arith, written)

-- each actor that takes packets has its hand
pub hand_there : (v : Settings) (a : Actor) → IsActor v a → Handles a → hand_place v a < hand_count v
hand_there v (Worker h w) is t = let l = mul-add-lt h v.workers w v.hosts is.0 is.1 in omega (arith, l)
hand_there v (Coproc h) is t = omega (arith, is)
hand_there v (Gateway g) is t = omega (arith, is)
hand_there v (HostInstall h) is t = absurd t
hand_there v (GateInstall g) is t = absurd t
hand_there v Controller is t = absurd t
hand_there v Driver is t = absurd t

pub hand_fits : (plan : Plan) (roads : Roads) → roads.settings ≡ plan.settings → HasSizes plan roads.flow → (a : Actor) → IsActor plan.settings a → Handles a → hand_place roads.settings a < length roads.flow.hands
hand_fits plan roads settings sizes a is t =
    let there = hand_there plan.settings a is t in
    omega (arith, there, sizes.hands, ap (λ v. hand_place v a) settings)

-- ---- parcels

pub at_or : {X : Type 0} (P : X → Type 0) (xs : List X) (i : ℕ) (d : X) → All P xs → P d → P (get_or xs i d)
at_or P [] i d all p = p
at_or P (x ∷ xs) zero d all p = All-head P x xs all
at_or P (x ∷ xs) (suc i) d all p = at_or P xs i d (All-tail P x xs all) p

pub all_at : (P : ParcelView → Type 0) (parcels : List (List ParcelView)) (q : ℕ) → All (λ ps. All P ps) parcels → All P (parcels_at parcels q)
all_at P parcels q all = at_or (λ ps. All P ps) parcels q [] all (All-nil P)

pub all_without_first : (P : ParcelView → Type 0) (parcels parcels' : List (List ParcelView)) (q : ℕ) → parcels' ≡ without_first parcels q → All (λ ps. All P ps) parcels → All (λ ps. All P ps) parcels'
all_without_first P parcels parcels' q is all =
    subst (All (λ ps. All P ps)) (sym is)
    (All-set (λ ps. All P ps) parcels q (drop 1 (parcels_at parcels q)) (All-drop P 1 (parcels_at parcels q) (all_at P parcels q all)) all)

pub first_of : (P : ParcelView → Type 0) (ps : List ParcelView) (p : ParcelView) → All P ps → slice_get ps 0 ≡ Some p → P p
first_of P [] p all e = absurd (cc)
first_of P (x ∷ ps) p all e = let same : x ≡ p = cc in subst P same (All-head P x ps all)

pub first_parcel : (P : ParcelView → Type 0) (parcels : List (List ParcelView)) (q : ℕ) (p : ParcelView) → All (λ ps. All P ps) parcels → slice_get (parcels_at parcels q) 0 ≡ Some p → P p
first_parcel P parcels q p all e = first_of P (parcels_at parcels q) p (all_at P parcels q all) e
