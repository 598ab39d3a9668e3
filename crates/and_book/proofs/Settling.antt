-- One more line that settles a packet in hand keeps a book.
use Rattle.std.proofs.Common.{◌≡◌, ℕ, ◌+◌, ◌<◌, ◌≤◌, List, [], ◌∷◌, ◌++◌, length, refl, sym, ap, ◌∙◌, subst, arith, Option, Some, None, ⊎_elim}
use Rattle.std.proofs.lemmas.Bool.{cases_lt}
use Rattle.std.proofs.lemmas.List.{get_or_past}
use Rattle.and_parcel.specs.Parcels.{ParcelView}
use Rattle.and_policy.specs.Programmes.{net_of_vm}
use Rattle.and_events.specs.declared.event.Actor.{Actor}
use Rattle.and_events.specs.declared.event.Event.{Event}
use Rattle.and_events.specs.declared.event.Held.{Held}
use Rattle.and_events.specs.declared.event.Line.{Line}
use Rattle.and_events.specs.declared.event.Queue.{Queue}
use Rattle.and_events.specs.declared.plan.Plan.{Plan}
use Rattle.and_events.specs.Places.{hand_place, node_of, seat_of, actor_of, IsActor, Handles}
use Rattle.and_events.specs.Flow.{Move, Send, SealLater, Stop, Stay, Enter, Lose, Grab, flow_after, hand_at}
use Rattle.and_events.specs.State.{State, state, move_of, packet_at, tuple_at}
use Rattle.and_events.specs.Legal.{Legal}
use Rattle.and_events.specs.Run.{past}
use Rattle.and_laws.proofs.Losses.{held_is_known}
use Rattle.and_laws.proofs.Sourced.{source_stays}
use Rattle.and_kept.specs.declared.traffic.Holder.{Holder}
use Rattle.and_kept.specs.Moves.{MayMove, moved}
use Rattle.and_review.specs.Views.{ReviewsView}
use Rattle.and_book.specs.Inside.{Kept, Keeps}
use Rattle.and_book.specs.Views.{IsPacket}
use Rattle.and_book.proofs.More.{keeps_more}
use Rattle.and_book.proofs.Outgoing.{IsOf, settles}
use Rattle.and_book.proofs.Pinning.{pins_stay}
use Rattle.and_book.proofs.FromHand.{IsFrom, IsUsed, Settles, lets_go, stands_settled}

of_from : (hand i : ℕ) (m : Move) → IsFrom hand i m → IsOf i m
of_from hand i (Send a q j net target) from = from.1
of_from hand i (SealLater a q j net target) from = from.1
of_from hand i (Stop a j) from = from.1
of_from hand i Stay from = absurd from
of_from hand i (Enter q j) from = absurd from
of_from hand i (Lose j) from = absurd from
of_from hand i (Grab a q g) from = absurd from

-- a hand that has something is there
hand_within : (hands : List (Option Held)) (n : ℕ) (h : Held) → hand_at hands n ≡ Some h → n < length hands
hand_within hands n h has =
    let none : Option Held = None in
    ⊎_elim (λ (l : n < length hands). l)
    (λ (m : length hands ≤ n). absurd (let clash : Some h ≡ none = sym has ∙ get_or_past hands n none m in cc))
    (cases_lt n (length hands))

module _ (plan : Plan) (threads : ℕ) (lines : List Line) (k : Kept) (spare : ℕ) (keeps : Keeps plan threads lines k spare) (a : Actor) (need : ℕ) (q : Queue) (p : ParcelView) (has : hand_at (state plan (past lines)).flow.hands (hand_place plan.settings a) ≡ Some (record { packet = p.packet; need = need; queue = q })) where
  abbrev s : State
  s = state plan (past lines)

  abbrev held : Held
  held = record { packet = p.packet; need = need; queue = q }

  pub known_packet : p.packet < length plan.packets
  known_packet = held_is_known plan (past lines) (hand_place plan.settings a) p.packet keeps.sound keeps.run (held, has, refl)

  -- the network of its VM in the log so far is that in the plan's
  pub own_net : net_of_vm k.progress.programmes.log (packet_at plan p.packet).vm ≡ net_of_vm plan.log (packet_at plan p.packet).vm
  own_net =
      ap (λ x. net_of_vm x.log (packet_at plan p.packet).vm) keeps.stands.programmes
      ∙ source_stays plan (past lines) (hand_place plan.settings a) p.packet keeps.sound keeps.run (held, has, refl)

  -- the actor may move what it has in hand
  pub may_move : (from : Holder) → IsActor plan.settings a → Handles a → from.actor ≡ a → MayMove k.roads from p
  may_move from is t same = record {
    actor = subst (λ v. IsActor v from.actor) (sym keeps.sized.settings) (subst (IsActor plan.settings) (sym same) is);
    handles = subst Handles (sym same) t;
    packet = omega (arith, known_packet, keeps.sizes.carried);
  }

  full : hand_at k.roads.flow.hands (hand_place plan.settings a) ≡ Some held
  full = ap (λ f. hand_at f.hands (hand_place plan.settings a)) keeps.stands.flow ∙ has

  pub settled_keeps : (lines' : List Line) (spare' seat : ℕ) (e : Event) (from : Holder) (m : Move) (reviews' : ReviewsView) → Legal plan s e → Settles e → actor_of e ≡ a → from ≡ record { actor = a; tuple = tuple_at plan p.packet }
      → seat ≡ seat_of threads plan.settings a → lines' ≡ lines ++ record { seat = seat; event = e } ∷ [] → IsPacket plan p → m ≡ move_of plan s e → IsFrom (hand_place plan.settings a) p.packet (move_of plan s e)
      → spare ≤ spare' + 1 → IsUsed plan e k.reviews reviews' → Keeps plan threads lines' (record k { roads = moved k.roads from p m; reviews = reviews' }) spare'
  settled_keeps lines' spare' seat e from m reviews' legal settling whose is seated longer ok move hand fits using =
      let roads' = moved k.roads from p m in
      let by : IsFrom (hand_place plan.settings a) p.packet m = subst (IsFrom (hand_place plan.settings a) p.packet) (sym move) hand in
      let less = lets_go k.roads.flow (hand_place plan.settings a) p.packet m held by (hand_within k.roads.flow.hands (hand_place plan.settings a) held full) full in
      let node : node_of from.actor ≡ node_of (actor_of e) = ap (λ (f : Holder). node_of f.actor) is ∙ ap node_of (sym whose) in
      keeps_more plan threads lines lines' k (record k { roads = roads'; reviews = reviews' }) spare spare' seat e keeps legal (seated ∙ ap (seat_of threads plan.settings) (sym whose)) longer
      (record {
        stands = stands_settled plan s e k roads' reviews' settling keeps.stands refl (ap (λ f. flow_after f m) keeps.stands.flow ∙ ap (flow_after s.flow) move) using;
        settings = refl;
        limit = refl;
        room = using.room;
        known = using.known;
        pins = pins_stay plan k (record k { roads = roads'; reviews = reviews' }) refl refl refl (omega arith);
      })
      (settles plan (past lines) e a need q p (node_of from.actor) from.tuple m k.roads roads' keeps.sound keeps.run legal ok has keeps.stands.flow node
      (ap (λ (f : Holder). f.tuple) is) move (of_from (hand_place plan.settings a) p.packet m by) refl refl keeps.parcels)
      (omega (arith, less, keeps.held, fits))
