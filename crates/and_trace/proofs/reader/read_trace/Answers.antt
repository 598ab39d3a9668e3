use Rattle.std.proofs.Common.{◌≡◌, ◌≢◌, ℕ, ◌+◌, [], ◌∷◌, ◌++◌, sym, ap, subst, inl, inr, arith, rules}
use Rattle.and_trace.specs.declared.reader.TraceFault.{TraceFault}
use Rattle.and_trace.specs.declared.reader.TraceAnswer.{TraceAnswer}
use Rattle.and_trace.specs.declared.reader.TraceAnswer.TheVariants.{Bad, NoMemory}
use Rattle.std.proofs.lemmas.Grind.{common_steps}
use Rattle.and_trace.proofs.Texts.{Reading, begun, next, ended, ended_all, stopped, stopped_all, no_title}
use Rattle.and_trace.proofs.reader.read_trace.Goals as goal

line_in : TraceAnswer → ℕ
line_in (Bad f) = f.line
line_in NoMemory = 0

same_line : (f g : TraceFault) → Bad f ≡ Bad g → g.line ≡ f.line
unfolding line_in
same_line f g same = sym (ap line_in same)

pub returns-in_default-clause-whole : goal.returns-in_default-clause-whole
returns-in_default-clause-whole c = λ es spells. absurd (no_title c.args.bytes.now es (c.behind_title.ensures.refused c.in_default.is) spells)

pub returns-in_default-clause-bad : goal.returns-in_default-clause-bad
returns-in_default-clause-bad c = λ f same. inl (same_line _ f same, c.behind_title.ensures.refused c.in_default.is)

pub loop-rest-init : goal.loop-rest-init
loop-rest-init c =
    let text = rw c.in-Some.is at c.behind_title.ensures.found in
    let none : c.new-events.result.items ≡ [] = c.new-events.ensures.items in
    subst (λ es. Reading c.args.bytes.now c.in-Some.rest.now es 1) (sym none) (begun c.args.bytes.now c.in-Some.rest.now text)

pub returns-in_default-found-clause-whole : goal.returns-in_default-found-clause-whole
returns-in_default-found-clause-whole c = λ es spells.
    let some : c.loop-rest.rest.now ≢ [] = λ e. search rules in
    absurd (stopped_all c.args.bytes.now c.loop-rest.rest.now c.loop-rest.events.items es c.loop-rest.line c.loop-rest.invariant some
    (c.in-Ok.ensures.refused c.in_default-found.is) spells)

pub returns-in_default-found-clause-bad : goal.returns-in_default-found-clause-bad
returns-in_default-found-clause-bad c = λ f same.
    let some : c.loop-rest.rest.now ≢ [] = λ e. search rules in
    let line = same_line _ f same in
    inr (
      c.loop-rest.events.items,
      c.loop-rest.rest.now,
      omega (arith, line, c.loop-rest.invariant.number),
      stopped c.args.bytes.now c.loop-rest.rest.now c.loop-rest.events.items c.loop-rest.line c.loop-rest.invariant some (c.in-Ok.ensures.refused c.in_default-found.is),
    )

pub loop-rest-preserved : goal.loop-rest-preserved
loop-rest-preserved c =
    let found = rw c.in-Some-found.is at c.in-Ok.ensures.found in
    let pushed : c.push.new.self.items ≡ c.loop-rest.events.items ++ c.in-Some-found.event ∷ [] = search rules in
    subst (λ es. Reading c.args.bytes.now c.in-Some-found.more.now es (c.loop-rest.line + 1)) (sym pushed)
    (next c.args.bytes.now c.loop-rest.rest.now c.in-Some-found.more.now c.loop-rest.events.items c.loop-rest.line c.in-Some-found.event c.loop-rest.invariant found.0 found.1)

pub returns-clause-read : goal.returns-clause-read
returns-clause-read c =
    let none : c.loop-rest.rest.now ≡ [] = grind (arith, common_steps) in
    ended c.args.bytes.now c.loop-rest.events.items c.loop-rest.line
    (subst (λ r. Reading c.args.bytes.now r c.loop-rest.events.items c.loop-rest.line) none c.loop-rest.invariant)

pub returns-clause-whole : goal.returns-clause-whole
returns-clause-whole c = λ es spells.
    let none : c.loop-rest.rest.now ≡ [] = grind (arith, common_steps) in
    ended_all c.args.bytes.now c.loop-rest.events.items es c.loop-rest.line
    (subst (λ r. Reading c.args.bytes.now r c.loop-rest.events.items c.loop-rest.line) none c.loop-rest.invariant) spells
