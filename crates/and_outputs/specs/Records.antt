-- A record whose bytes stand elsewhere, as the frame that it is.
use Rattle.and_capture.specs.declared.capture.Taken.{Taken}
use Rattle.and_outputs.specs.declared.file.Record.{Record}

abbrev pub taken_of : Record → Taken
taken_of r = record { seconds = r.seconds; fraction = r.fraction; original = r.original; frame = r.frame.now }
