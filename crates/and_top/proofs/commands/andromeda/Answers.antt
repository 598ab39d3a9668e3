use Rattle.std.proofs.Common.{◌≡◌, Option, Some, None, Ok, Err, refl, sym, ◌∙◌}
use Rattle.and_top.specs.Names.{named}
use Rattle.and_top.specs.Words.{Named}
use Rattle.and_top.proofs.Completing.{no_usage, late_status, scenario_status, capture_status}
use Rattle.and_top.proofs.commands.andromeda.Goals as goal

same_names : (a b : Named) (o : Option Named) → Some a ≡ o → o ≡ Some b → a ≡ b
same_names a b o p q = cc

some_command : (a : Named) (o : Option Named) → Some a ≡ o → o ≡ None → ⊥
some_command a o p q = cc

pub returns-in_default-clause-no_command : goal.returns-in_default-clause-no_command
returns-in_default-clause-no_command g c none = (refl, refl, rw (← c.plain_line.ensures) c.tell.ensures)

pub returns-in-Ok-clause-replayed : goal.returns-in-Ok-clause-replayed
returns-in-Ok-clause-replayed g c names told =
    let same : named c.in-Some.names ≡ names = same_names _ _ _ c.in-Some.ensures told in
    rw (← same) (record {
      answer = Ok c.in-Ok.field-0;
      answers = c.in-Ok.ensures.answer;
      status_is = refl;
      says = refl;
    })

pub returns-in-Err-clause-usage : goal.returns-in-Err-clause-usage
returns-in-Err-clause-usage g c = (
  (λ one. absurd (no_usage c.in-Err.fault (sym c.status_of.ensures ∙ one))),
  (λ none. absurd (some_command _ _ c.in-Some.ensures none)),
)

pub returns-in-Err-clause-complete : goal.returns-in-Err-clause-complete
returns-in-Err-clause-complete g c names told =
    let same : named c.in-Some.names ≡ names = same_names _ _ _ c.in-Some.ensures told in
    rw (← same, c.status_of.ensures) (λ can. late_status c.in-Err.fault (c.in-Err.ensures.complete can))

pub returns-in-Err-clause-replayed : goal.returns-in-Err-clause-replayed
returns-in-Err-clause-replayed g c names told =
    let same : named c.in-Some.names ≡ names = same_names _ _ _ c.in-Some.ensures told in
    rw (← same) (record {
      answer = Err c.in-Err.fault;
      answers = c.in-Err.ensures.answer;
      status_is = c.status_of.ensures;
      says = c.tell_fault.ensures;
    })

pub returns-in-Err-clause-scenario : goal.returns-in-Err-clause-scenario
returns-in-Err-clause-scenario g c names told =
    let same : named c.in-Some.names ≡ names = same_names _ _ _ c.in-Some.ensures told in
    rw (← same, c.status_of.ensures) (λ must. scenario_status c.in-Err.fault (c.in-Err.ensures.scenario must))

pub returns-in-Err-clause-capture : goal.returns-in-Err-clause-capture
returns-in-Err-clause-capture g c names told =
    let same : named c.in-Some.names ≡ names = same_names _ _ _ c.in-Some.ensures told in
    rw (← same, c.status_of.ensures) (λ must. capture_status c.in-Err.fault (c.in-Err.ensures.capture must))
