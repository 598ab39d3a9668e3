-- Each event's legality from what its call asks for, and what is kept after it.
use Rattle.and_parcel.specs.Parcels.{ParcelView}
use Rattle.and_kept.specs.Moves.{entered}
use Rattle.and_book.proofs.More.{as_kept}
use Rattle.std.proofs.Common.{◌≡◌, ℕ, ◌+◌, Bool, true, false, List, length, refl, sym, ap, ◌∙◌, Some, arith}
use Rattle.std.specs.Prelude.{slice_get}
use Rattle.and_events.specs.declared.event.Node.{Node}
use Rattle.and_events.specs.declared.event.Event.TheVariants.{Announce, Installed, Wait, Finish, Append, Inject}
use Rattle.and_events.specs.declared.event.Node.TheVariants.{Host}
use Rattle.and_events.specs.declared.event.Queue.TheVariants.{Out}
use Rattle.and_policy.specs.declared.entry.Entry.{Entry}
use Rattle.and_policy.specs.declared.port.Port.{Port}
use Rattle.and_events.specs.declared.plan.Step.{Step}
use Rattle.and_events.specs.declared.plan.Step.TheVariants as steps
use Rattle.and_events.specs.declared.plan.Plan.{Plan}
use Rattle.and_events.specs.Places.{node_place, queue_place}
use Rattle.and_events.specs.Flow.{Flow, flow_after, enter_by}
use Rattle.and_events.specs.Ports.{ports_after}
use Rattle.and_events.specs.Programming.{Logs, Announces, Installs, programmes_after, programme_at, announced_at}
use Rattle.and_events.specs.State.{State, after, move_of, word_of, ports_move_of, step_of, usage_move_of, word_of_step, ports_move_of_step, ports_move_of_entry, programme_of, announced_of, home, packet_at, holds_after}
use Rattle.and_events.specs.Usage.{usage_after}
use Rattle.and_events.specs.Legal.{Legal, CanAnnounce, CanInstall, CanStep, Steps, IsAtRest, IsOver, KnowsVm, EndsAt, inject_end}
use Rattle.and_laws.specs.Fates.{in_hand_count}
use Rattle.and_kept.specs.Nodes.{Progressed}
use Rattle.and_pins.specs.Pinned.{PinsView}
use Rattle.and_book.specs.Inside.{Kept, PinsFollow, Stands}
use Rattle.and_book.proofs.More.{IsAfter}
use Rattle.and_book.proofs.Pinning.{pins_follow, pins_ripen, pins_stay}

pub legal_announce : (plan : Plan) (s : State) (node : Node) (upto : ℕ) → CanAnnounce plan s node → upto ≡ length (programme_of plan s node) → Legal plan s (Announce node upto)
unfolding Legal
legal_announce plan s node upto can is = (can, is)

pub legal_installed : (plan : Plan) (s : State) (node : Node) (upto : ℕ) → CanInstall plan s node → upto ≡ announced_of plan s node → Legal plan s (Installed node upto)
unfolding Legal
legal_installed plan s node upto can is = (can, is)

pub after_announce : (plan : Plan) (s : State) (k : Kept) (p : Progressed) (node : Node) (place upto : ℕ) → Stands k s → place ≡ node_place plan.settings node → p.programmes ≡ programmes_after k.progress.programmes (Announces place upto) → p.limit ≡ k.progress.limit → p.held ≡ k.progress.held → p.least ≡ k.progress.least → IsAfter plan s (Announce node upto) k (record k { progress = p })
unfolding after holds_after move_of word_of ports_move_of step_of usage_move_of usage_after flow_after ports_after
after_announce plan s k p node place upto st there is limit marks least =
    record {
      stands = record { next = st.next; programmes = is ∙ (ap (λ q. programmes_after q (Announces place upto)) st.programmes ∙ ap (λ n. programmes_after s.programmes (Announces n upto)) there); ports = st.ports; flow = st.flow; holds = ap (λ marks. record { install = marks; forward = k.roads.held }) marks ∙ st.holds; usage = st.usage };
      settings = refl;
      limit = limit;
      room = omega arith;
      known = refl;
      pins = pins_stay plan k (record k { progress = p }) refl refl least (omega arith);
    }

pub after_installed : (plan : Plan) (s : State) (k : Kept) (p : Progressed) (pins : PinsView) (node : Node) (place upto : ℕ) → Stands k s → place ≡ node_place plan.settings node → p.programmes ≡ programmes_after k.progress.programmes (Installs place upto) → p.limit ≡ k.progress.limit → p.held ≡ k.progress.held → pins ≡ record k.pins { least = p.least } → IsAfter plan s (Installed node upto) k (record k { progress = p; pins = pins })
unfolding after holds_after move_of word_of ports_move_of step_of usage_move_of usage_after flow_after ports_after
after_installed plan s k p pins node place upto st there is limit marks ripened =
    record {
      stands = record { next = st.next; programmes = is ∙ (ap (λ q. programmes_after q (Installs place upto)) st.programmes ∙ ap (λ n. programmes_after s.programmes (Installs n upto)) there); ports = st.ports; flow = st.flow; holds = ap (λ marks. record { install = marks; forward = k.roads.held }) marks ∙ st.holds; usage = st.usage };
      settings = refl;
      limit = limit;
      room = omega arith;
      known = refl;
      pins = pins_ripen plan k p pins ripened;
    }

-- the length of the programme, and what is announced, as they are kept
pub upto_programme : (plan : Plan) (s : State) (k : Kept) (node : Node) (place : ℕ) → Stands k s → place ≡ node_place plan.settings node → length (programme_at k.progress.programmes place) ≡ length (programme_of plan s node)
upto_programme plan s k node place st there = ap (λ q. length (programme_at q place)) st.programmes ∙ ap (λ n. length (programme_at s.programmes n)) there

pub upto_announced : (plan : Plan) (s : State) (k : Kept) (node : Node) (place : ℕ) → Stands k s → place ≡ node_place plan.settings node → announced_at k.progress.programmes place ≡ announced_of plan s node
upto_announced plan s k node place st there = ap (λ q. announced_at q place) st.programmes ∙ ap (λ n. announced_at s.programmes n) there

-- ---- steps

pub steps_due : (plan : Plan) (s : State) (n : ℕ) (step : Step) → n ≡ s.next → slice_get plan.steps s.next ≡ Some step → CanStep plan s step → Steps plan s n step
steps_due plan s n step is due can = (is, ap (slice_get plan.steps) is ∙ due, can)

pub legal_wait : (plan : Plan) (s : State) (n : ℕ) → n ≡ s.next → slice_get plan.steps s.next ≡ Some steps.Wait → IsAtRest plan s → Legal plan s (Wait n)
unfolding Legal
legal_wait plan s n is due can = steps_due plan s n steps.Wait is due can

pub legal_finish : (plan : Plan) (s : State) (n : ℕ) → n ≡ s.next → slice_get plan.steps s.next ≡ Some steps.Finish → IsOver plan s → Legal plan s (Finish n)
unfolding Legal
legal_finish plan s n is due can = steps_due plan s n steps.Finish is due can

pub after_wait : (plan : Plan) (s : State) (k : Kept) (n : ℕ) → Stands k s → IsAfter plan s (Wait n) k (record k { next = k.next + 1 })
unfolding after holds_after move_of word_of ports_move_of step_of usage_move_of usage_after flow_after ports_after programmes_after
after_wait plan s k n st =
    record { stands = record { next = ap (λ m. m + 1) st.next; programmes = st.programmes; ports = st.ports; flow = st.flow; holds = st.holds; usage = st.usage }; settings = refl; limit = refl; room = omega arith; known = refl; pins = pins_stay plan k (record k { next = k.next + 1 }) refl refl refl (omega arith) }

pub after_finish : (plan : Plan) (s : State) (k : Kept) (n : ℕ) → Stands k s → IsAfter plan s (Finish n) k (record k { next = k.next + 1 })
unfolding after holds_after move_of word_of ports_move_of step_of usage_move_of usage_after flow_after ports_after programmes_after
after_finish plan s k n st =
    record { stands = record { next = ap (λ m. m + 1) st.next; programmes = st.programmes; ports = st.ports; flow = st.flow; holds = st.holds; usage = st.usage }; settings = refl; limit = refl; room = omega arith; known = refl; pins = pins_stay plan k (record k { next = k.next + 1 }) refl refl refl (omega arith) }

pub legal_append : (plan : Plan) (s : State) (n : ℕ) (e : Entry) → n ≡ s.next → slice_get plan.steps n ≡ Some (steps.Append e) → Legal plan s (Append n)
unfolding Legal
legal_append plan s n e is due = (e, (is, due, tt))

pub after_append : (plan : Plan) (s : State) (k : Kept) (p : Progressed) (ports : List (List Port)) (pins : PinsView) (n : ℕ) (e : Entry) → Stands k s → slice_get plan.steps n ≡ Some (steps.Append e) → p.programmes ≡ programmes_after k.progress.programmes (Logs e) → ports ≡ ports_after k.ports (ports_move_of_entry e) → PinsFollow k.pins pins k.ports ports 0 → p.limit ≡ k.progress.limit → p.held ≡ k.progress.held → p.least ≡ k.progress.least
    → IsAfter plan s (Append n) k (record k { next = k.next + 1; progress = p; ports = ports; pins = pins })
unfolding after holds_after move_of word_of ports_move_of step_of usage_move_of usage_after flow_after
after_append plan s k p ports pins n e st due logged moved follows limit marks least =
    record {
      stands = record {
        next = ap (λ m. m + 1) st.next;
        programmes = logged ∙ (ap (λ q. programmes_after q (Logs e)) st.programmes ∙ ap (λ o. programmes_after s.programmes (word_of_step plan s o)) (sym due));
        ports = moved ∙ (ap (λ q. ports_after q (ports_move_of_entry e)) st.ports ∙ ap (λ o. ports_after s.ports (ports_move_of_step s o)) (sym due));
        flow = st.flow;
        holds = ap (λ marks. record { install = marks; forward = k.roads.held }) marks ∙ st.holds;
        usage = st.usage;
      };
      settings = refl;
      limit = limit;
      room = omega arith;
      known = refl;
      pins = pins_follow plan k (record k { next = k.next + 1; progress = p; ports = ports; pins = pins }) 0 follows least (omega arith);
    }

pub legal_inject : (plan : Plan) (s : State) (n i : ℕ) (full : Bool) → n ≡ s.next → slice_get plan.steps s.next ≡ Some (steps.Inject i) → KnowsVm plan s (home plan s i) (packet_at plan i).vm → EndsAt plan s (queue_place plan.settings (Host (home plan s i)) Out) (inject_end full) → Legal plan s (Inject n i full)
unfolding Legal
legal_inject plan s n i full is due knows ends = (steps_due plan s n (steps.Inject i) is due knows, ends)

pub after_inject : (plan : Plan) (s : State) (k : Kept) (n host : ℕ) (p : ParcelView) (full : Bool) → Stands k s → k.roads.settings ≡ plan.settings → host ≡ home plan s p.packet → IsAfter plan s (Inject n p.packet full) k (record k { next = k.next + 1; roads = entered k.roads host p full })
unfolding after holds_after move_of word_of ports_move_of step_of usage_move_of usage_after ports_after programmes_after
after_inject plan s k n host p full st settings there =
    record {
      stands = record {
        next = ap (λ m. m + 1) st.next;
        programmes = st.programmes;
        ports = st.ports;
        flow = as_kept plan s k (λ v f. flow_after f (enter_by (queue_place v (Host host) Out) p.packet full)) settings st.flow
            ∙ ap (λ m. flow_after s.flow (enter_by (queue_place plan.settings (Host m) Out) p.packet full)) there;
        holds = st.holds;
        usage = st.usage;
      };
      settings = refl;
      limit = refl;
      room = omega arith;
      known = refl;
      pins = pins_stay plan k (record k { next = k.next + 1; roads = entered k.roads host p full }) refl refl refl (omega arith);
    }

-- a packet that comes from outside is in no hand
pub enter_holds : (f f' : Flow) (q i : ℕ) (full : Bool) → f' ≡ flow_after f (enter_by q i full) → in_hand_count f' ≡ in_hand_count f
unfolding flow_after
enter_holds f f' q i true is = ap in_hand_count is
enter_holds f f' q i false is = ap in_hand_count is
