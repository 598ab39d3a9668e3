-- Who may act by what is kept is who is enabled.
use Rattle.std.proofs.lemmas.Bool.{ltb-true, lt-ltb, eqb-true, eq-eqb}
use Rattle.std.proofs.Common.{◌||◌, ◌&&◌, not, false}
use Rattle.std.specs.Prelude.{◌==◌}
use Rattle.and_events.specs.State.{NodeHolds, announced_of}
use Rattle.and_events.specs.Legal.{forward_held, install_held}
use Rattle.and_kept.specs.Nodes.{is_ready}
use Rattle.and_kept.specs.Moves.{IsBusy}
use Rattle.std.proofs.Common.{◌≡◌, ℕ, ◌<◌, Bool, true, List, [], ◌∷◌, length, refl, sym, ap, ◌∙◌, arith, Option, Some, None, ⊎_elim, inl, inr, ◌⊎◌}
use Rattle.std.specs.Prelude.{nat_lt, if◌then◌else◌, ◌↔◌, IsTrue}
use Rattle.std.proofs.lemmas.Grind.{common_steps}
use Rattle.and_events.specs.declared.event.Actor.{Actor}
use Rattle.and_events.specs.declared.event.Actor.TheVariants.{HostInstall, GateInstall, Worker, Coproc, Gateway, Controller, Driver}
use Rattle.and_events.specs.declared.event.Held.{Held}
use Rattle.and_events.specs.declared.event.Node.{Node}
use Rattle.and_events.specs.declared.event.Queue.{Queue}
use Rattle.and_events.specs.declared.event.Queue.TheVariants.{Out, Wire, Seal}
use Rattle.and_events.specs.declared.plan.Packet.{Packet}
use Rattle.and_events.specs.declared.plan.Plan.{Plan}
use Rattle.and_events.specs.declared.plan.Step.{Step}
use Rattle.and_events.specs.declared.plan.Settings.{Settings}
use Rattle.and_events.specs.Places.{node_place, queue_place, hand_place, node_of, IsActor, IsNode}
use Rattle.and_events.specs.Flow.{Flow, queue_at, hand_at}
use Rattle.and_events.specs.Programming.{Programmes}
use Rattle.and_events.specs.State.{State, installed_of, programme_of}
use Rattle.and_events.specs.Legal.{CanAnnounce, CanInstall, CanTake, HasHand}
use Rattle.and_events.specs.Places.{Handles}
use Rattle.and_kept.specs.Moves.{source_in}
use Rattle.and_pins.specs.declared.pin.Pin.{Pin}
use Rattle.and_book.specs.Enabling.{Acts}
use Rattle.and_book.proofs.Taking.{takes_from}

-- whoever takes packets acts where it is busy
pub acts_as : (v : Settings) (packets : List Packet) (p : Programmes) (m : NodeHolds) (pins : List Pin) (f : Flow) (due : Option Step) (a : Actor) (b : Bool) → Handles a → (IsTrue b ↔ IsBusy v f m.forward a)
    → IsTrue b ↔ Acts v packets p m pins f due a
acts_as v packets p m pins f due (Worker h w) b t is = is
acts_as v packets p m pins f due (Coproc h) b t is = is
acts_as v packets p m pins f due (Gateway g) b t is = is
acts_as v packets p m pins f due (HostInstall h) b t is = absurd t
acts_as v packets p m pins f due (GateInstall g) b t is = absurd t
acts_as v packets p m pins f due Controller b t is = absurd t
acts_as v packets p m pins f due Driver b t is = absurd t

-- ---- the queue from which an actor takes

module _ (plan : Plan) (s : State) where
  not_empty : (xs : List ℕ) (i : ℕ) (rest : List ℕ) → xs ≡ i ∷ rest → xs ≡ [] → ⊥
  not_empty xs i rest e none = let no_way : i ∷ rest ≡ [] = sym e ∙ none in absurd (cc)

  longer : (xs : List ℕ) (i : ℕ) (rest : List ℕ) → xs ≡ i ∷ rest → nat_lt 0 (length xs) ≡ true
  longer xs i rest e = let more : 0 < length xs = omega (arith, ap length e) in grind (arith, common_steps, more)

  pub source_is : (a : Actor) (q : Queue) (i : ℕ) → Handles a → CanTake plan s a q i → source_in plan.settings s.flow a ≡ q
  source_is (Worker h w) Wire i t can = ap (λ b. if b then Wire else Out) (longer _ i can.front.0 can.front.1)
  source_is (Worker h w) Out i t can = ap (λ xs. if nat_lt 0 (length xs) then Wire else Out) can.queue
  source_is (Worker h w) Seal i t can = absurd can.queue
  source_is (Coproc h) Seal i t can = refl
  source_is (Coproc h) Wire i t can = absurd can.queue
  source_is (Coproc h) Out i t can = absurd can.queue
  source_is (Gateway g) Wire i t can = refl
  source_is (Gateway g) Out i t can = absurd can.queue
  source_is (Gateway g) Seal i t can = absurd can.queue
  source_is (HostInstall h) q i t can = absurd t
  source_is (GateInstall g) q i t can = absurd t
  source_is Controller q i t can = absurd t
  source_is Driver q i t can = absurd t

-- ---- installers

or_is : (a b : Bool) → (a || b) ≡ true → (a ≡ true) ⊎ (b ≡ true)
or_is true b e = inl refl
or_is false b e = inr e

is_or : (a b : Bool) → (a ≡ true) ⊎ (b ≡ true) → (a || b) ≡ true
is_or true b either = refl
is_or false b (inl e) = absurd (cc)
is_or false b (inr e) = e

and_is : (a b : Bool) → (a && b) ≡ true → (a ≡ true) × (b ≡ true)
and_is true b e = (refl, e)
and_is false b e = absurd (cc)

is_and : (a b : Bool) → a ≡ true → b ≡ true → (a && b) ≡ true
is_and a b e g = rw e g

not_is : (a : Bool) → not a ≡ true → a ≡ false
not_is true e = absurd (cc)
not_is false e = refl

module _ (plan : Plan) (s : State) where
  pub installer_may : (node : Node) → IsNode plan.settings node → is_ready s.programmes s.node_holds.install (node_place plan.settings node) ≡ true → CanAnnounce plan s node ⊎ CanInstall plan s node
  unfolding is_ready
  installer_may node is e =
      ⊎_elim (λ (l : nat_lt (installed_of plan s node) (announced_of plan s node) ≡ true). inr (is, ltb-true _ _ l))
      (λ (r : (not (install_held plan s node) && ((announced_of plan s node == installed_of plan s node) && nat_lt (announced_of plan s node) (length (programme_of plan s node)))) ≡ true).
      let first = and_is _ _ r in
      let second = and_is _ _ first.1 in
      inl (is, not_is _ first.0, eqb-true _ _ second.0, ltb-true _ _ second.1))
      (or_is _ _ e)

  pub installer_was : (node : Node) → CanAnnounce plan s node ⊎ CanInstall plan s node → IsNode plan.settings node × (is_ready s.programmes s.node_holds.install (node_place plan.settings node) ≡ true)
  unfolding is_ready
  installer_was node (inl can) =
      (can.0, is_or _ _ (inr (is_and _ _ (ap not can.1) (is_and _ _ (eq-eqb _ _ can.2) (lt-ltb _ _ can.3)))))
  installer_was node (inr can) = (can.0, is_or _ _ (inl (lt-ltb _ _ can.1)))

  -- ---- whoever takes packets

  abbrev Works : Actor → Type 0
  Works a = (IsActor plan.settings a × HasHand plan s a) ⊎ ((q : Queue) × (i : ℕ) × CanTake plan s a q i)

  takes_first : (a : Actor) (xs : List ℕ) → IsActor plan.settings a → Handles a → hand_at s.flow.hands (hand_place plan.settings a) ≡ None
      → forward_held plan s (node_of a) ≡ false → queue_at s.flow.queues (queue_place plan.settings (node_of a) (source_in plan.settings s.flow a)) ≡ xs → (xs ≡ [] → ⊥) → Works a
  takes_first a [] is t empty goes e some = absurd (some refl)
  takes_first a (i ∷ rest) is t empty goes e some =
      inr (
        source_in plan.settings s.flow a,
        i,
        record { actor = is; free = empty; running = goes; queue = takes_from plan s a t; front = (rest, e) },
      )

  works_by : (a : Actor) (o : Option Held) → IsActor plan.settings a → Handles a → hand_at s.flow.hands (hand_place plan.settings a) ≡ o
      → forward_held plan s (node_of a) ≡ false → (queue_at s.flow.queues (queue_place plan.settings (node_of a) (source_in plan.settings s.flow a)) ≡ [] → ⊥) → Works a
  works_by a (Some h) is t e goes some = inl (is, (h, e))
  works_by a None is t e goes some = takes_first a _ is t e goes refl some

  pub works : (a : Actor) → IsActor plan.settings a → Handles a → IsBusy plan.settings s.flow s.node_holds.forward a → Works a
  works a is t (inl has) = inl (is, has)
  works a is t (inr (goes, some)) = works_by a _ is t refl goes some

  pub worked : (a : Actor) → Handles a → Works a → IsActor plan.settings a × IsBusy plan.settings s.flow s.node_holds.forward a
  worked a t (inl (is, has)) = (is, inl has)
  worked a t (inr (q, i, can)) = (
    can.actor,
    inr (
      can.running,
      (λ none. not_empty plan s _ i can.front.0 can.front.1
          (ap (λ x. queue_at s.flow.queues (queue_place plan.settings (node_of a) x)) (sym (source_is plan s a q i t can)) ∙ none)),
    ),
  )
