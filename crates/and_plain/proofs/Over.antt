-- The parts of the condition of the end.
use Rattle.std.specs.Prelude.{◌↔◌, IsTrue}
use Rattle.std.specs.List.{All}
use Rattle.std.proofs.Common.{◌≡◌, ℕ, Bool, [], None}
use Rattle.and_events.specs.declared.event.Node.{Node}
use Rattle.and_events.specs.declared.plan.Plan.{Plan}
use Rattle.and_events.specs.Places.{IsNode}
use Rattle.and_events.specs.Ports.{port_at, IsHairpin}
use Rattle.and_events.specs.State.{State}
use Rattle.and_events.specs.Legal.{IsOver}
use Rattle.and_plain.specs.Asked.{IsInstalled}

pub over : (plan : Plan) (s : State) (r a q b d : Bool) → (IsTrue r ↔ (IsTrue a × IsTrue q)) → (IsTrue q ↔ (IsTrue b × IsTrue d))
    → (IsTrue a ↔ (All (λ q. q ≡ []) s.flow.queues × All (λ h. h ≡ None) s.flow.hands))
    → (IsTrue b ↔ ((node : Node) → IsNode plan.settings node → IsInstalled plan s node))
    → (IsTrue d ↔ ((host vm : ℕ) → IsHairpin (port_at s.ports host vm) → ⊥))
    → (IsTrue r ↔ IsOver plan s)
over plan s r a q b d er eq ea eb ed = (
  (λ t. record {
    queues = (ea.0 (er.0 t).0).0;
    hands = (ea.0 (er.0 t).0).1;
    installed = eb.0 (eq.0 (er.0 t).1).0;
    hairpins = ed.0 (eq.0 (er.0 t).1).1;
  }),
  (λ over. er.1 (ea.1 (over.queues, over.hands), eq.1 (eb.1 over.installed, ed.1 over.hairpins))),
)
