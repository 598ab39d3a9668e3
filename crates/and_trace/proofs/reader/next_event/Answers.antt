use Rattle.std.proofs.Common.{[], ◌∷◌, ◌++◌, take, drop, length, ◌+◌, ◌-◌, sym, ap, ◌∙◌, append_assoc}
use Rattle.and_trace.specs.Spelling.{said}
use Rattle.and_trace.proofs.Cuts.{upto_some, cut_at}
use Rattle.and_trace.proofs.Ends.{said_is, no_end}
use Rattle.and_trace.proofs.reader.next_event.Goals as goal

pub returns-in_default-clause-refused : goal.returns-in_default-clause-refused
returns-in_default-clause-refused c = λ none e is more same. no_end e c.args.text.now more is (sym c.find.ensures ∙ c.in_default.is) same

pub returns-in-Some-2-clause-found : goal.returns-in-Some-2-clause-found
returns-in-Some-2-clause-found c =
    let text = c.args.text.now in let at = c.in-Some.at in
    let rest = take (length text - (at + 1)) (drop (at + 1) text) in
    let found = rw c.in-Some-2.is at c.in_ok-event.ensures.found in
    (found.0, cut_at 10 text at (sym c.in-Some.is ∙ c.find.ensures) ∙ (ap (λ t. t ++ 10 ∷ rest) found.1 ∙ sym (append_assoc (said c.in-Some-2.event) (10 ∷ []) rest)))

pub returns-in-None-clause-refused : goal.returns-in-None-clause-refused
returns-in-None-clause-refused c = λ none e is more same.
    let place = sym c.in-Some.is ∙ c.find.ensures in
    c.in_ok-event.ensures.refused c.in-None.is e is (upto_some 10 c.args.text.now c.in-Some.at place ∙ said_is e c.args.text.now more is same)
