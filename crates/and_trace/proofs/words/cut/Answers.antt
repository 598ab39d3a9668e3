use Rattle.std.proofs.Common.{sym, ◌∙◌}
use Rattle.and_trace.proofs.Cuts.{upto_some, past_some, upto_none, past_none}
use Rattle.and_trace.proofs.words.cut.Goals as goal

pub returns-in-Some-clause-word : goal.returns-in-Some-clause-word
returns-in-Some-clause-word c = upto_some c.args.mark c.args.text.now c.in-Some.at (sym c.in-Some.is ∙ c.find.ensures)

pub returns-in-Some-clause-rest : goal.returns-in-Some-clause-rest
returns-in-Some-clause-rest c = past_some c.args.mark c.args.text.now c.in-Some.at (sym c.in-Some.is ∙ c.find.ensures)

pub returns-in-None-clause-word : goal.returns-in-None-clause-word
returns-in-None-clause-word c = upto_none c.args.mark c.args.text.now (sym c.find.ensures ∙ c.in-None.is)

pub returns-in-None-clause-rest : goal.returns-in-None-clause-rest
returns-in-None-clause-rest c = past_none c.args.mark c.args.text.now (sym c.find.ensures ∙ c.in-None.is)
