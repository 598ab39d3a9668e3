-- What a run has programmed the nodes with.
use Rattle.std.specs.Prelude.{◌≡◌, ◌≤◌, List, length}
use Rattle.and_policy.specs.Programmes.{entries}
use Rattle.and_events.specs.declared.event.Node.{Node}
use Rattle.and_events.specs.declared.event.Event.{Event}
use Rattle.and_events.specs.declared.plan.Plan.{Plan}
use Rattle.and_events.specs.Places.{IsNode}
use Rattle.and_events.specs.State.{State, state, programme_of, announced_of, installed_of}

-- a node's programme without its orders is the log; no more is installed than was announced, and no more was announced
-- than the programme has
pub record IsProgrammed (plan : Plan) (s : State) (node : Node) : Type 0 where
  pub log : entries (programme_of plan s node) ≡ s.programmes.log
  pub installed : installed_of plan s node ≤ announced_of plan s node
  pub announced : announced_of plan s node ≤ length (programme_of plan s node)

abbrev pub AreProgrammed : Plan → List Event → Type 0
AreProgrammed plan h = (node : Node) → IsNode plan.settings node → IsProgrammed plan (state plan h) node
