-- Who acts, by the number of the actor.
use mir.Val.{bool_byte}
use Rattle.std.proofs.Common.{◌≡◌, ℕ, ◌+◌, ◌-◌, ◌<◌, ◌≤◌, ◌↔◌, ◌&&◌, Bool, true, false, List, refl, sym, ap, ◌∙◌, arith, Option}
use Rattle.std.specs.Prelude.{◌==◌, nat_lt, IsTrue}
use Rattle.std.proofs.lemmas.Bool.{eq-eqb}
use Rattle.std.proofs.lemmas.Grind.{common_steps}
use Rattle.and_events.specs.declared.event.Actor.{Actor}
use Rattle.and_events.specs.declared.event.Actor.TheVariants.{HostInstall, GateInstall, Worker, Coproc, Gateway, Controller, Driver}
use Rattle.and_events.specs.declared.plan.Packet.{Packet}
use Rattle.and_events.specs.declared.plan.Settings.{Settings}
use Rattle.and_events.specs.declared.plan.Step.{Step}
use Rattle.and_events.specs.Flow.{Flow}
use Rattle.and_events.specs.Places.{node_count, hand_count, hand_place, actor_number, actor_count, IsActor, Handles}
use Rattle.and_events.specs.Programming.{Programmes}
use Rattle.and_events.specs.State.{NodeHolds}
use Rattle.and_kept.specs.Busy.{is_busy}
use Rattle.and_kept.specs.Nodes.{is_ready}
use Rattle.and_kept.specs.Numbers.{count_below, one_if}
use Rattle.and_kept.proofs.BusyActors.{busy_is}
use Rattle.and_kept.proofs.NumbersLemmas.{count_same, count_shift, count_suc}
use Rattle.and_pins.specs.declared.pin.Pin.{Pin}
use Rattle.and_book.specs.Enabling.{Acts, CanDo, HasRipe, acts_at}
use Rattle.and_book.proofs.Taking.{hand_there}

less_is : (a b : ℕ) → a < b → nat_lt a b ≡ true
less_is a b less = grind (arith, common_steps)

not_less : (a b : ℕ) → b ≤ a → nat_lt a b ≡ false
not_less a b le = grind (arith, common_steps)

other : (a b : ℕ) → b < a → (a == b) ≡ false
other a b less = grind (arith, common_steps)

pub number_below : (v : Settings) (a : Actor) → IsActor v a → actor_number v a < actor_count v
number_below v (HostInstall h) is = omega (arith, is)
number_below v (GateInstall g) is = omega (arith, is)
number_below v (Worker h w) is = let there = hand_there v (Worker h w) is tt in omega (arith, there)
number_below v (Coproc h) is = let there = hand_there v (Coproc h) is tt in omega (arith, there)
number_below v (Gateway g) is = let there = hand_there v (Gateway g) is tt in omega (arith, there)
number_below v Controller is = omega arith
number_below v Driver is = omega arith

module _ (v : Settings) (p : Programmes) (m : NodeHolds) (f : Flow) (controller driver : Bool) where
  pub at_node : (n : ℕ) → n < node_count v → acts_at v p m f controller driver n ≡ is_ready p m.install n
  unfolding acts_at
  at_node n l = rw (less_is n (node_count v) l) refl

  pub at_hand : (k : ℕ) → k < hand_count v → acts_at v p m f controller driver (node_count v + k) ≡ is_busy v f.queues f.hands m.forward k
  unfolding acts_at
  at_hand k l =
      let past : node_count v + k - node_count v ≡ k = omega arith in
      rw (not_less (node_count v + k) (node_count v) (omega arith), less_is (node_count v + k) (node_count v + hand_count v) (omega (arith, l)), past) refl

  pub at_controller : acts_at v p m f controller driver (node_count v + hand_count v) ≡ controller
  unfolding acts_at
  at_controller =
      let n = node_count v + hand_count v in
      rw (not_less n (node_count v) (omega arith), not_less n n (omega arith), eq-eqb n n refl) refl

  pub at_driver : acts_at v p m f controller driver (node_count v + hand_count v + 1) ≡ driver
  unfolding acts_at
  at_driver =
      let n = node_count v + hand_count v + 1 in
      rw (not_less n (node_count v) (omega arith), not_less n (node_count v + hand_count v) (omega arith), other n (node_count v + hand_count v) (omega arith)) (always driver n)
    where
      always : (b : Bool) (n : ℕ) → (b && (n == n)) ≡ b
      always true n = eq-eqb n n refl
      always false n = refl

module _ (v : Settings) (packets : List Packet) (p : Programmes) (m : NodeHolds) (pins : List Pin) (f : Flow) (due : Option Step) (controller driver : Bool) (ends : IsTrue controller ↔ HasRipe p pins) (drives : IsTrue driver ↔ CanDo v packets p m pins f due) where
  takes_at : (a : Actor) (is : IsActor v a) (t : Handles a) → acts_at v p m f controller driver (node_count v + hand_place v a) ≡ is_busy v f.queues f.hands m.forward (hand_place v a)
  takes_at a is t = at_hand v p m f controller driver (hand_place v a) (hand_there v a is t)

  -- whoever acts has a number that acts, and the other way round
  pub at_number : (a : Actor) → IsActor v a → Acts v packets p m pins f due a → acts_at v p m f controller driver (actor_number v a) ≡ true
  at_number (HostInstall h) is acts = at_node v p m f controller driver h (omega (arith, is)) ∙ acts
  at_number (GateInstall g) is acts = at_node v p m f controller driver (v.hosts + g) (omega (arith, is)) ∙ acts
  at_number (Worker h w) is acts = takes_at (Worker h w) is tt ∙ (busy_is v f m.forward (Worker h w) is tt).1 acts
  at_number (Coproc h) is acts = takes_at (Coproc h) is tt ∙ (busy_is v f m.forward (Coproc h) is tt).1 acts
  at_number (Gateway g) is acts = takes_at (Gateway g) is tt ∙ (busy_is v f m.forward (Gateway g) is tt).1 acts
  at_number Controller is acts = at_controller v p m f controller driver ∙ ends.1 acts
  at_number Driver is acts = at_driver v p m f controller driver ∙ drives.1 acts

  pub at_acts : (a : Actor) → IsActor v a → acts_at v p m f controller driver (actor_number v a) ≡ true → Acts v packets p m pins f due a
  at_acts (HostInstall h) is e = sym (at_node v p m f controller driver h (omega (arith, is))) ∙ e
  at_acts (GateInstall g) is e = sym (at_node v p m f controller driver (v.hosts + g) (omega (arith, is))) ∙ e
  at_acts (Worker h w) is e = (busy_is v f m.forward (Worker h w) is tt).0 (sym (takes_at (Worker h w) is tt) ∙ e)
  at_acts (Coproc h) is e = (busy_is v f m.forward (Coproc h) is tt).0 (sym (takes_at (Coproc h) is tt) ∙ e)
  at_acts (Gateway g) is e = (busy_is v f m.forward (Gateway g) is tt).0 (sym (takes_at (Gateway g) is tt) ∙ e)
  at_acts Controller is e = ends.0 (sym (at_controller v p m f controller driver) ∙ e)
  at_acts Driver is e = drives.0 (sym (at_driver v p m f controller driver) ∙ e)

-- ---- how many act

module _ (v : Settings) (p : Programmes) (m : NodeHolds) (f : Flow) (controller driver : Bool) where
  abbrev acts : ℕ → Bool
  acts = acts_at v p m f controller driver

  -- before the controller
  abbrev others : ℕ
  others = count_below (is_ready p m.install) (node_count v) + count_below (is_busy v f.queues f.hands m.forward) (hand_count v)

  pub nodes_counted : (n : ℕ) → n ≤ node_count v → count_below acts n ≡ count_below (is_ready p m.install) n
  nodes_counted n le = count_same acts (is_ready p m.install) n (λ j l. at_node v p m f controller driver j (omega (arith, le, l)))

  pub hands_counted : (k : ℕ) → k ≤ hand_count v → count_below acts (node_count v + k) ≡ count_below (is_ready p m.install) (node_count v) + count_below (is_busy v f.queues f.hands m.forward) k
  hands_counted k le =
      count_shift acts (is_busy v f.queues f.hands m.forward) (node_count v) k (λ j l. at_hand v p m f controller driver j (omega (arith, le, l)))
      ∙ ap (λ n. n + count_below (is_busy v f.queues f.hands m.forward) k) (nodes_counted (node_count v) (omega arith))

  -- before the driver, and in all
  pub others_counted : count_below acts (node_count v + hand_count v + 1) ≡ others + one_if controller
  others_counted =
      omega (arith, count_suc acts (node_count v + hand_count v), ap one_if (at_controller v p m f controller driver), hands_counted (hand_count v) (omega arith))

  pub all_counted : count_below acts (actor_count v) ≡ others + one_if controller + one_if driver
  all_counted =
      let n = node_count v + hand_count v + 1 in
      let last : actor_count v ≡ n + 1 = omega arith in
      omega (arith, ap (count_below acts) last, count_suc acts n, ap one_if (at_driver v p m f controller driver), others_counted)

pub is_counted : (b : Bool) → 0 < one_if b → b ≡ true
is_counted true l = refl
is_counted false l = absurd (omega (arith, l))

pub counts_one : (b : Bool) → bool_byte b ≡ one_if b
counts_one true = refl
counts_one false = refl

pub at_most_one : (b : Bool) → one_if b ≤ 1
at_most_one true = omega arith
at_most_one false = omega arith
