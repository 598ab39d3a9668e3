-- How a worker's fields are seen, and what is true of what it has in hand.
use Rattle.std.specs.Prelude.{◌≡◌, IsOk, Option, Some, None}
use Rattle.and_policy.specs.Frames.{fields}
use Rattle.and_worker.specs.declared.worker.Worker.TheInside.{Inside}
use Rattle.and_worker.specs.declared.worker.InHand.{InHand}
use Rattle.and_worker.specs.Workers.{WorkerView}

abbrev pub view_of : Inside → WorkerView
view_of w = record { host = w.host; index = w.index; cache = w.cache; compared = w.compared; hand = w.hand }

-- a parcel in hand is one that `read_frame` accepts
abbrev pub IsReadable : Option InHand → Type 0
IsReadable None = Unit {0}
IsReadable (Some x) = IsOk (fields x.parcel.frame)

abbrev pub IsWorker : Inside → Type 0
IsWorker w = IsReadable w.hand
