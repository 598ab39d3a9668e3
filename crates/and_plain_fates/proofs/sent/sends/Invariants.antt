use Rattle.std.proofs.Common.{◌≡◌, take}
use Rattle.and_events.specs.Run as spec
use Rattle.and_plain.specs.History.{history}
use Rattle.and_plain_fates.proofs.sent.sends.Given as goal

abbrev pub invariant-loop-n : goal.invariant-loop-n
invariant-loop-n l = l.count ≡ spec.sends l.plan (history (take l.n l.events)) l.packet
