use Rattle.std.proofs.Common.{◌≡◌, [], sym, ◌∙◌}
use Rattle.std.proofs.lemmas.List.{append-nil}
use Rattle.std.proofs.lemmas.List.Elements.{All-nil}
use Rattle.and_events.specs.declared.event.Line.{Line}
use Rattle.core_tests.proofs.book.handed_on.Goals as goal

-- no line is added
pub leave-requires-clause-lines : goal.leave-requires-clause-lines
leave-requires-clause-lines g c = (
  [],
  sym c.enter-book.ensures.seen ∙ sym (append-nil c.enter-book.new.seat.place.me.0.known.seen),
  All-nil (λ (l : Line). l.seat ≡ c.enter-book.new.seat.place.me.0.known.number),
)
