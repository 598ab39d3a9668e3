-- The queues of a node, each in turn.
use Rattle.std.specs.Prelude.{◌↔◌, IsTrue}
use Rattle.std.proofs.Common.{ℕ, Bool}
use Rattle.and_events.specs.declared.event.Node.TheVariants.{Host, Gate}
use Rattle.and_events.specs.declared.event.Queue.{Queue}
use Rattle.and_events.specs.declared.event.Queue.TheVariants.{Out, Wire, Seal}
use Rattle.and_events.specs.declared.plan.Plan.{Plan}
use Rattle.and_events.specs.Places.{HasQueue}
use Rattle.and_events.specs.State.{State}
use Rattle.and_plain.specs.Asked.{IsEmptyAt}

of_host : (E : Queue → Type 0) → E Wire → E Out → E Seal → (q : Queue) → E q
of_host E wire out seal Out = out
of_host E wire out seal Wire = wire
of_host E wire out seal Seal = seal

pub host_queues : (plan : Plan) (s : State) (h : ℕ) (r : Bool)
    → (IsTrue r ↔ (IsEmptyAt plan s (Host h) Wire × IsEmptyAt plan s (Host h) Out × IsEmptyAt plan s (Host h) Seal))
    → (IsTrue r ↔ ((q : Queue) → HasQueue (Host h) q → IsEmptyAt plan s (Host h) q))
host_queues plan s h r e =
    ((λ t q has. of_host (IsEmptyAt plan s (Host h)) (e.0 t).0 (e.0 t).1 (e.0 t).2 q), (λ all. e.1 (all Wire tt, all Out tt, all Seal tt)))

of_gate : (plan : Plan) (s : State) (g : ℕ) → IsEmptyAt plan s (Gate g) Wire → (q : Queue) → HasQueue (Gate g) q → IsEmptyAt plan s (Gate g) q
of_gate plan s g wire Out has = absurd has
of_gate plan s g wire Wire has = wire
of_gate plan s g wire Seal has = absurd has

pub gate_queues : (plan : Plan) (s : State) (g : ℕ) (r : Bool) → (IsTrue r ↔ IsEmptyAt plan s (Gate g) Wire)
    → (IsTrue r ↔ ((q : Queue) → HasQueue (Gate g) q → IsEmptyAt plan s (Gate g) q))
gate_queues plan s g r e = ((λ t q has. of_gate plan s g (e.0 t) q has), (λ all. e.1 (all Wire tt)))
