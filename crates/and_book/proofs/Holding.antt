-- Holds and frees: the event is legal, and what is kept after it.
use Rattle.std.proofs.Common.{◌≡◌, ℕ, ◌+◌, Bool, true, false, List, refl, sym, ap, ◌∙◌, subst, Some, arith}
use Rattle.std.specs.Prelude.{slice_get}
use Rattle.and_events.specs.declared.event.Event.{Event}
use Rattle.and_events.specs.declared.event.Event.TheVariants.{Hold, Free}
use Rattle.and_events.specs.declared.event.Node.{Node}
use Rattle.and_events.specs.declared.plan.What.{What}
use Rattle.and_events.specs.declared.plan.Step.TheVariants as steps
use Rattle.and_events.specs.declared.plan.Plan.{Plan}
use Rattle.and_events.specs.Places.{node_place, IsNode}
use Rattle.and_events.specs.Flow.{flow_after}
use Rattle.and_events.specs.Ports.{ports_after}
use Rattle.and_events.specs.Programming.{programmes_after}
use Rattle.and_events.specs.State.{State, NodeHolds, state, after, move_of, word_of, ports_move_of, step_of, usage_move_of, holds_after, holds_by, with_hold}
use Rattle.and_events.specs.Usage.{usage_after}
use Rattle.and_events.specs.Legal.{Legal, CanHold}
use Rattle.and_events.specs.Sound.{IsSound}
use Rattle.and_laws.specs.Scripted.{script_at}
use Rattle.and_laws.proofs.StepFacts.{held_there, freed_there}
use Rattle.and_laws.proofs.Steps.{does}
use Rattle.and_kept.specs.Lanes.{Roads}
use Rattle.and_kept.specs.Nodes.{Progressed}
use Rattle.and_book.specs.Inside.{Kept, Stands, HasParcels, holds_of}
use Rattle.and_book.proofs.More.{IsAfter}
use Rattle.and_book.proofs.Pinning.{pins_stay}

-- the node of a step that holds or frees is there
pub hold_there : (plan : Plan) (h : List Event) (node : Node) (what : What) → IsSound plan → slice_get plan.steps (state plan h).next ≡ Some (steps.Hold node what) → IsNode plan.settings node
hold_there plan h node what sound told = held_there plan (script_at plan h) node what (does plan h (state plan h).next (steps.Hold node what) sound refl told).fits

pub free_there : (plan : Plan) (h : List Event) (node : Node) (what : What) → IsSound plan → slice_get plan.steps (state plan h).next ≡ Some (steps.Free node what) → IsNode plan.settings node
free_there plan h node what sound told = freed_there plan (script_at plan h) node what (does plan h (state plan h).next (steps.Free node what) sound refl told).fits

pub legal_hold : (plan : Plan) (s : State) (n : ℕ) (node : Node) (what : What) → n ≡ s.next → slice_get plan.steps n ≡ Some (steps.Hold node what) → CanHold plan s node what → Legal plan s (Hold n)
unfolding Legal
legal_hold plan s n node what is due can = (node, what, (is, due, can))

pub legal_free : (plan : Plan) (s : State) (n : ℕ) (node : Node) (what : What) → n ≡ s.next → slice_get plan.steps n ≡ Some (steps.Free node what) → Legal plan s (Free n)
unfolding Legal
legal_free plan s n node what is due = (node, what, (is, due, tt))

-- ---- what is kept

-- with a mark at a node
abbrev pub marked : Kept → Node → What → Bool → NodeHolds
marked k node what on = with_hold (holds_of k) (node_place k.roads.settings node) what on

-- the marks alone are other ones
pub record IsMarked (k : Kept) (p : Progressed) (t : Roads) (node : Node) (what : What) (on : Bool) : Type 0 where
  pub installs : p ≡ record k.progress { held = (marked k node what on).install }
  pub forwards : t ≡ record k.roads { held = (marked k node what on).forward }

marks_are : (plan : Plan) (s : State) (k : Kept) (p : Progressed) (t : Roads) (node : Node) (what : What) (on : Bool) → Stands k s → k.roads.settings ≡ plan.settings → IsMarked k p t node what on
    → holds_of (record k { progress = p; roads = t }) ≡ with_hold s.node_holds (node_place plan.settings node) what on
marks_are plan s k p t node what on st settings is =
    let m = marked k node what on in
    ap (λ (x : Progressed). holds_of (record k { progress = x; roads = t })) is.installs
    ∙ (ap (λ (x : Roads). holds_of (record k { progress = record k.progress { held = m.install }; roads = x })) is.forwards
    ∙ (ap (λ v. with_hold (holds_of k) (node_place v node) what on) settings ∙ ap (λ x. with_hold x (node_place plan.settings node) what on) st.holds))

pub after_hold : (plan : Plan) (s : State) (k : Kept) (p : Progressed) (t : Roads) (n : ℕ) (node : Node) (what : What) → Stands k s → k.roads.settings ≡ plan.settings → slice_get plan.steps n ≡ Some (steps.Hold node what)
    → IsMarked k p t node what true → IsAfter plan s (Hold n) k (record k { next = k.next + 1; progress = p; roads = t })
unfolding after holds_after move_of word_of ports_move_of step_of usage_move_of usage_after flow_after ports_after programmes_after
after_hold plan s k p t n node what st settings due is =
    record {
      stands = record {
        next = ap (λ m. m + 1) st.next;
        programmes = ap (λ (x : Progressed). x.programmes) is.installs ∙ st.programmes;
        ports = st.ports;
        flow = ap (λ (x : Roads). x.flow) is.forwards ∙ st.flow;
        holds = marks_are plan s k p t node what true st settings is ∙ sym (ap (holds_by plan.settings s.node_holds) due);
        usage = st.usage;
      };
      settings = ap (λ (x : Roads). x.settings) is.forwards;
      limit = ap (λ (x : Progressed). x.limit) is.installs;
      room = omega arith;
      known = refl;
      pins = pins_stay plan k (record k { next = k.next + 1; progress = p; roads = t }) refl refl (ap (λ (x : Progressed). x.least) is.installs) (omega arith);
    }

pub after_free : (plan : Plan) (s : State) (k : Kept) (p : Progressed) (t : Roads) (n : ℕ) (node : Node) (what : What) → Stands k s → k.roads.settings ≡ plan.settings → slice_get plan.steps n ≡ Some (steps.Free node what)
    → IsMarked k p t node what false → IsAfter plan s (Free n) k (record k { next = k.next + 1; progress = p; roads = t })
unfolding after holds_after move_of word_of ports_move_of step_of usage_move_of usage_after flow_after ports_after programmes_after
after_free plan s k p t n node what st settings due is =
    record {
      stands = record {
        next = ap (λ m. m + 1) st.next;
        programmes = ap (λ (x : Progressed). x.programmes) is.installs ∙ st.programmes;
        ports = st.ports;
        flow = ap (λ (x : Roads). x.flow) is.forwards ∙ st.flow;
        holds = marks_are plan s k p t node what false st settings is ∙ sym (ap (holds_by plan.settings s.node_holds) due);
        usage = st.usage;
      };
      settings = ap (λ (x : Roads). x.settings) is.forwards;
      limit = ap (λ (x : Progressed). x.limit) is.installs;
      room = omega arith;
      known = refl;
      pins = pins_stay plan k (record k { next = k.next + 1; progress = p; roads = t }) refl refl (ap (λ (x : Progressed). x.least) is.installs) (omega arith);
    }

-- the parcels stay where they are
pub parcels_stay : (plan : Plan) (h : List Event) (k : Kept) (p : Progressed) (t : Roads) (node : Node) (what : What) (on : Bool) → IsMarked k p t node what on → HasParcels plan h k.roads → HasParcels plan h t
parcels_stay plan h k p t node what on is all =
    subst (HasParcels plan h) (sym is.forwards) (record { packets = all.packets; numbers = all.numbers; outers = all.outers })
