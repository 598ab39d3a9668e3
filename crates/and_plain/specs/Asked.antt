-- What the conditions of the steps ask of each node.
use Rattle.std.specs.Prelude.{◌≡◌, false, [], length}
use Rattle.and_events.specs.declared.event.Node.{Node}
use Rattle.and_events.specs.declared.event.Queue.{Queue}
use Rattle.and_events.specs.declared.plan.Plan.{Plan}
use Rattle.and_plain.specs.declared.nodes.NodeTest.{NodeTest}
use Rattle.and_plain.specs.declared.nodes.NodeTest.TheVariants as tests
use Rattle.and_events.specs.Places.{node_place, queue_place, HasQueue}
use Rattle.and_events.specs.Flow.{queue_at}
use Rattle.and_events.specs.Programming.{HasInstalled}
use Rattle.and_events.specs.State.{State, programme_of, installed_of}
use Rattle.and_events.specs.Legal.{install_held, forward_held}

abbrev pub IsInstalled : Plan → State → Node → Type 0
IsInstalled plan s node = installed_of plan s node ≡ length (programme_of plan s node)

abbrev pub IsEmptyAt : Plan → State → Node → Queue → Type 0
IsEmptyAt plan s node q = queue_at s.flow.queues (queue_place plan.settings node q) ≡ []

-- installed all unless that is held, and the queues are empty unless forwarding is held
abbrev pub Rests : Plan → State → Node → Type 0
Rests plan s node =
    (install_held plan s node ≡ false → IsInstalled plan s node)
    × ((q : Queue) → HasQueue node q → forward_held plan s node ≡ false → IsEmptyAt plan s node q)

-- the node passes the test
abbrev pub Asked : Plan → State → NodeTest → Node → Type 0
Asked plan s tests.Installed node = IsInstalled plan s node
Asked plan s tests.Rests node = Rests plan s node
Asked plan s (tests.Has number) node = HasInstalled s.programmes (node_place plan.settings node) number
