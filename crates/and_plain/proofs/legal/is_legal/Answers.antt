use Rattle.std.specs.Prelude.{◌↔◌, IsTrue}
use Rattle.std.proofs.Common.{subst}
use Rattle.and_events.specs.declared.event.Event.{Event}
use Rattle.and_events.specs.declared.plan.Step.TheVariants as steps
use Rattle.and_events.specs.Legal.{Legal}
use Rattle.and_plain.specs.Doing.{IsDoneBy}
use Rattle.and_plain.proofs.Deciding.{both_are}
use Rattle.and_plain.proofs.Stepping.{through, through_some, through_two}
use Rattle.and_plain.proofs.legal.is_legal.Goals as goal

pub returns-in-Append : goal.returns-in-Append
unfolding Legal
returns-in-Append c =
    rw c.in-Append.is (through_some c.args.plan.now c.args.s.now c.in-Append.step c.legal_step.result c.is_done_by.result steps.Append
    (subst (λ (e : Event). IsTrue c.is_done_by.result ↔ IsDoneBy c.legal_step.result e) c.in-Append.is c.is_done_by.ensures) c.legal_step.ensures)

pub returns-in-Review : goal.returns-in-Review
unfolding Legal
returns-in-Review c =
    rw c.in-Review.is (through c.args.plan.now c.args.s.now c.in-Review.step c.legal_step-in-Review.result c.is_done_by-in-Review.result steps.Review
    (subst (λ (e : Event). IsTrue c.is_done_by-in-Review.result ↔ IsDoneBy c.legal_step-in-Review.result e) c.in-Review.is c.is_done_by-in-Review.ensures) c.legal_step-in-Review.ensures)

pub returns-in-Hold : goal.returns-in-Hold
unfolding Legal
returns-in-Hold c =
    rw c.in-Hold.is (through_two c.args.plan.now c.args.s.now c.in-Hold.step c.legal_step-in-Hold.result c.is_done_by-in-Hold.result steps.Hold
    (subst (λ (e : Event). IsTrue c.is_done_by-in-Hold.result ↔ IsDoneBy c.legal_step-in-Hold.result e) c.in-Hold.is c.is_done_by-in-Hold.ensures) c.legal_step-in-Hold.ensures)

pub returns-in-Free : goal.returns-in-Free
unfolding Legal
returns-in-Free c =
    rw c.in-Free.is (through_two c.args.plan.now c.args.s.now c.in-Free.step c.legal_step-in-Free.result c.is_done_by-in-Free.result steps.Free
    (subst (λ (e : Event). IsTrue c.is_done_by-in-Free.result ↔ IsDoneBy c.legal_step-in-Free.result e) c.in-Free.is c.is_done_by-in-Free.ensures) c.legal_step-in-Free.ensures)

pub returns-in-Wait : goal.returns-in-Wait
unfolding Legal
returns-in-Wait c =
    rw c.in-Wait.is (through c.args.plan.now c.args.s.now c.in-Wait.step c.legal_step-in-Wait.result c.is_done_by-in-Wait.result steps.Wait
    (subst (λ (e : Event). IsTrue c.is_done_by-in-Wait.result ↔ IsDoneBy c.legal_step-in-Wait.result e) c.in-Wait.is c.is_done_by-in-Wait.ensures) c.legal_step-in-Wait.ensures)

pub returns-in-Blackout : goal.returns-in-Blackout
unfolding Legal
returns-in-Blackout c =
    rw c.in-Blackout.is (through_two c.args.plan.now c.args.s.now c.in-Blackout.step c.legal_step-in-Blackout.result c.is_done_by-in-Blackout.result steps.Blackout
    (subst (λ (e : Event). IsTrue c.is_done_by-in-Blackout.result ↔ IsDoneBy c.legal_step-in-Blackout.result e) c.in-Blackout.is c.is_done_by-in-Blackout.ensures) c.legal_step-in-Blackout.ensures)

pub returns-in-Resume : goal.returns-in-Resume
unfolding Legal
returns-in-Resume c =
    rw c.in-Resume.is (through_some c.args.plan.now c.args.s.now c.in-Resume.step c.legal_step-in-Resume.result c.is_done_by-in-Resume.result steps.Resume
    (subst (λ (e : Event). IsTrue c.is_done_by-in-Resume.result ↔ IsDoneBy c.legal_step-in-Resume.result e) c.in-Resume.is c.is_done_by-in-Resume.ensures) c.legal_step-in-Resume.ensures)

pub returns-in-Finish : goal.returns-in-Finish
unfolding Legal
returns-in-Finish c =
    rw c.in-Finish.is (through c.args.plan.now c.args.s.now c.in-Finish.step c.legal_step-in-Finish.result c.is_done_by-in-Finish.result steps.Finish
    (subst (λ (e : Event). IsTrue c.is_done_by-in-Finish.result ↔ IsDoneBy c.legal_step-in-Finish.result e) c.in-Finish.is c.is_done_by-in-Finish.ensures) c.legal_step-in-Finish.ensures)

pub returns-in-Inject : goal.returns-in-Inject
unfolding Legal
returns-in-Inject c =
    rw c.in-Inject.is (both_are c.both.result c.is_done_by-is_due.result c.enters.result c.both.ensures
    (through c.args.plan.now c.args.s.now c.in-Inject.step c.legal_step-in-Inject.result c.is_done_by-is_due.result (steps.Inject c.in-Inject.packet)
    (subst (λ (e : Event). IsTrue c.is_done_by-is_due.result ↔ IsDoneBy c.legal_step-in-Inject.result e) c.in-Inject.is c.is_done_by-is_due.ensures) c.legal_step-in-Inject.ensures)
    c.enters.ensures)

pub returns-in-Egress : goal.returns-in-Egress
returns-in-Egress c = rw c.in-Egress.is (c.can_depart.ensures c.in-Egress._way)

pub returns-in-Ingress : goal.returns-in-Ingress
returns-in-Ingress c = rw c.in-Ingress.is (c.can_arrive.ensures c.in-Ingress._way)

pub returns-in-Unpin : goal.returns-in-Unpin
unfolding Legal
returns-in-Unpin c = rw c.in-Unpin.is c.can_unpin.ensures
