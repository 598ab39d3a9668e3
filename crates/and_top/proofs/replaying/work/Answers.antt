use Rattle.std.proofs.Common.{refl, subst, inl}
use Rattle.std.proofs.lemmas.Result.{err_from_is_err_and}
use Rattle.and_top.specs.Answers.{names_in}
use Rattle.and_top.specs.Texts.{AreNames}
use Rattle.and_top.proofs.Headlines.{answers}
use Rattle.and_top.proofs.PlansLemmas.{can_plan}
use Rattle.and_top.proofs.Storing.{leaves_later}
use Rattle.and_top.proofs.replaying.work.Goals as goal

pub texts_of-requires : goal.texts_of-requires
texts_of-requires g c =
    can_plan c.in_ok-scenario.ensures.scenario.bytes c.in_ok-scenario.ensures.capture.bytes c.in_ok-scenario.scenario c.in_ok-scenario.capture
    c.in_ok-scenario.ensures.scenario.text c.in_ok-scenario.ensures.capture.reads

pub returns-in_err-scenario-clause-answer : goal.returns-in_err-scenario-clause-answer
returns-in_err-scenario-clause-answer g c =
    let p = err_from_is_err_and c.from_residual.result c.from_residual.ensures.1 in
    rw (p.1, p.2) (inl (c.in_err-scenario.ensures.refused, c.in_err-scenario.ensures.stays.contents, refl))

pub returns-clause-answer : goal.returns-clause-answer
returns-clause-answer g c =
    let named : AreNames (names_in c.args.job.now).out c.in-Ok.names = subst (λ out. AreNames out c.in-Ok.names) c.as_str.ensures.value c.in-Ok.ensures.names in
    answers (names_in c.args.job.now) _ _ _ _ _ c.in_ok-scenario.scenario c.in_ok-scenario.capture c.in-Ok-texts_of.texts c.write_texts.result
    c.in_ok-scenario.ensures.stays c.in_ok-scenario.ensures.calls c.in_ok-scenario.ensures.scenario c.in_ok-scenario.ensures.capture c.in-Ok-texts_of.ensures
    (c.write_texts.ensures.writes (names_in c.args.job.now) named)

pub returns-clause-leaves : goal.returns-clause-leaves
returns-clause-leaves g c =
    let named : AreNames (names_in c.args.job.now).out c.in-Ok.names = subst (λ out. AreNames out c.in-Ok.names) c.as_str.ensures.value c.in-Ok.ensures.names in
    leaves_later (names_in c.args.job.now) _ _ _ c.in_ok-scenario.ensures.stays (c.write_texts.ensures.leaves (names_in c.args.job.now) named)
