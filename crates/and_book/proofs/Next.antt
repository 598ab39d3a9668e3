-- An actor with an empty hand is enabled where it may take a packet.
use Rattle.std.proofs.Common.{◌≡◌, ℕ, ◌<◌, List, ◌∷◌, length, sym, ap, ◌∙◌, subst, arith, Some, None, inl, inr, ◌⊎◌}
use Rattle.and_events.specs.declared.event.Actor.{Actor}
use Rattle.and_events.specs.declared.event.Actor.TheVariants.{HostInstall, GateInstall, Worker, Coproc, Gateway, Controller, Driver}
use Rattle.and_events.specs.declared.event.Queue.{Queue}
use Rattle.and_events.specs.declared.plan.Plan.{Plan}
use Rattle.and_events.specs.Places.{hand_place, queue_place, node_of, IsActor}
use Rattle.and_events.specs.Flow.{queue_at, hand_at}
use Rattle.and_events.specs.State.{State}
use Rattle.and_events.specs.Legal.{Enabled, CanTake, HasHand}
use Rattle.and_events.specs.Places.{Handles}
use Rattle.and_book.specs.Views.{MayTake}
use Rattle.and_book.proofs.Enabled.{source_is}

module _ (plan : Plan) (s : State) where
  some_there : (xs : List ℕ) (i : ℕ) (rest : List ℕ) → xs ≡ i ∷ rest → 0 < length xs
  some_there xs i rest e = omega (arith, ap length e)

  may_by : (a : Actor) (q : Queue) (i : ℕ) → Handles a → CanTake plan s a q i → MayTake plan s a
  may_by a q i t can = record {
    actor = can.actor;
    handles = t;
    free = can.free;
    running = can.running;
    some = subst (λ x. 0 < length (queue_at s.flow.queues (queue_place plan.settings (node_of a) x))) (sym (source_is plan s a q i t can))
        (some_there _ i can.front.0 can.front.1);
  }

  takes_or_holds : (a : Actor) → Handles a → hand_at s.flow.hands (hand_place plan.settings a) ≡ None
      → (IsActor plan.settings a × HasHand plan s a) ⊎ ((q : Queue) × (i : ℕ) × CanTake plan s a q i) → MayTake plan s a
  takes_or_holds a t empty (inl (is, (h, has))) = absurd (let no_way : Some h ≡ None = sym has ∙ empty in cc)
  takes_or_holds a t empty (inr (q, i, can)) = may_by a q i t can

  pub may_take : (a : Actor) → Handles a → hand_at s.flow.hands (hand_place plan.settings a) ≡ None → Enabled plan s a → MayTake plan s a
  may_take (Worker h w) t empty e = takes_or_holds (Worker h w) t empty e
  may_take (Coproc h) t empty e = takes_or_holds (Coproc h) t empty e
  may_take (Gateway g) t empty e = takes_or_holds (Gateway g) t empty e
  may_take (HostInstall h) t empty e = absurd t
  may_take (GateInstall g) t empty e = absurd t
  may_take Controller t empty e = absurd t
  may_take Driver t empty e = absurd t
