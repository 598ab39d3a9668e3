use Rattle.std.proofs.Common.{inr}
use Rattle.std.proofs.lemmas.Result.{err_from_is_err_and}
use Rattle.and_top.proofs.Failing.{capture_fails_later}
use Rattle.and_top.proofs.replaying.read_both.Goals as goal

pub returns-in_err-capture-clause-refused : goal.returns-in_err-capture-clause-refused
returns-in_err-capture-clause-refused g c =
    let p = err_from_is_err_and c.from_residual-in_err-capture.result c.from_residual-in_err-capture.ensures.1 in
    rw (p.1, p.2) (inr (
      c.in_ok-scenario.scenario,
      rw (← c.as_str.ensures.value) c.in_ok-scenario.ensures.found,
      rw (← c.as_str-2.ensures.value) (capture_fails_later _ _ _ _ _ c.in_ok-scenario.ensures.stays c.in_ok-scenario.ensures.call c.in_err-capture.ensures.refused),
    ))
