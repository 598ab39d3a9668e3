-- What the nodes have installed, event by event; and the end of a run.
use Rattle.std.specs.Prelude.{ℕ, Bool, true, false, List, [], ◌∷◌, slice_set}
use Rattle.and_events.specs.declared.event.Event.{Event}
use Rattle.and_events.specs.declared.event.Event.TheVariants.{Finish, Installed}
use Rattle.and_events.specs.declared.plan.Settings.{Settings}
use Rattle.and_events.specs.Places.{node_place, IsNode}

abbrev pub is_end : Event → Bool
is_end (Finish step) = true
is_end _ = false

-- the newest event is the end
abbrev pub has_ended : List Event → Bool
has_ended [] = false
has_ended (e ∷ h) = is_end e

-- what each node has installed, by place, after one event more
abbrev pub installed_by : Settings → List ℕ → Event → List ℕ
installed_by s installed (Installed node upto) = slice_set installed (node_place s node) upto
installed_by s installed _ = installed

-- the node that installs is one of these settings
abbrev pub NamesNode : Settings → Event → Type 0
NamesNode s (Installed node upto) = IsNode s node
NamesNode s _ = Unit {0}
