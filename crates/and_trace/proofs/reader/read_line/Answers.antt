use Rattle.std.proofs.Common.{◌≡◌, ◌++◌, [], sym, ap, ◌∙◌, subst, true≢false, rules}
use Rattle.and_trace.specs.Spelling.{said, HasSpelling}
use Rattle.and_trace.specs.Fields.{event_in}
use Rattle.and_trace.proofs.Named.{names_event}
use Rattle.and_trace.proofs.Spelled.{has_spelling}
use Rattle.and_trace.proofs.reader.read_line.Goals as goal

pub returns-then-are_same-clause-found : goal.returns-then-are_same-clause-found
returns-then-are_same-clause-found c =
    let spelled = subst HasSpelling (sym c.event_of-event.ensures) (has_spelling c.args.line.now) in
    let same = c.are_same.ensures.same c.if-are_same.true in
    (record { spelled = spelled; short = c.in_ok-put_event.ensures.fits }, same ∙ (c.as_slice.ensures.value ∙ c.in_ok-put_event.ensures.text ∙ search rules))

pub returns-else-are_same-clause-refused : goal.returns-else-are_same-clause-refused
returns-else-are_same-clause-refused c = λ none e is same.
    let event = c.event_of-event.ensures ∙ (ap event_in same ∙ names_event e is) in
    let cleared : c.clear.new.self.items ≡ [] = search rules in
    let text = c.as_slice.ensures.value ∙ (c.in_ok-put_event.ensures.text ∙ ap (λ t. t ++ said c.event_of-event.result) cleared) in
    let line = same ∙ (ap said (sym event) ∙ sym text) in
    true≢false (sym (c.are_same.ensures.found line) ∙ c.if-are_same.false)
