use Rattle.std.proofs.Common.{◌≡◌, ◌∙◌, ap, subst, sym, Some, None}
use Rattle.and_events.specs.declared.event.Actor.TheVariants as actors
use Rattle.and_events.specs.declared.event.Carried.{Carried}
use Rattle.and_kept.specs.Moves.{source_in}
use Rattle.and_book.specs.Views.{MayTake, now}
use Rattle.and_book.proofs.Next.{may_take}
use Rattle.and_agree.proofs.After.{both_empty}
use Rattle.and_worker.specs.Workers.{HasTaken, HoldsAsBook, WorkerView}
use Rattle.and_worker.specs.Inside.{view_of}
use Rattle.and_worker.proofs.Turning.{taken, taken_in_plan, taken_readable}
use Rattle.and_worker.proofs.worker.Worker.take.Goals as goal

pub carried-carried-requires : goal.carried-carried-requires
carried-carried-requires c =
    let b = c.args.book.now in
    let w = c.self.inside in
    let able = c.can_take.ensures.0 c.if-not-can_take.false in
    let holds = subst (HoldsAsBook b) (sym c.self.view_is) c.requires.hands in
    let may : MayTake b.plan (now b) (actors.Worker w.host w.index) = may_take b.plan (now b) (actors.Worker w.host w.index) tt (both_empty _ w.hand holds able.0) able.1 in
    taken_in_plan b c.take-parcel.new.self (actors.Worker w.host w.index) c.args.seat c.take-parcel.result.0 (source_in b.plan.settings (now b).flow (actors.Worker w.host w.index)) c.take-parcel.result.1
    may c.take-parcel.ensures.line c.take-parcel.ensures.held c.is_run.ensures.sound c.is_run.ensures.run

pub invariant_of-self : goal.invariant_of-self
invariant_of-self c =
    let b = c.args.book.now in
    let w = c.self.inside in
    let able = c.can_take.ensures.0 c.if-not-can_take.false in
    let holds = subst (HoldsAsBook b) (sym c.self.view_is) c.requires.hands in
    let may : MayTake b.plan (now b) (actors.Worker w.host w.index) = may_take b.plan (now b) (actors.Worker w.host w.index) tt (both_empty _ w.hand holds able.0) able.1 in
    taken_readable b c.take-parcel.new.self (actors.Worker w.host w.index) c.args.seat c.take-parcel.result.0 (source_in b.plan.settings (now b).flow (actors.Worker w.host w.index)) c.take-parcel.result.1
    may c.take-parcel.ensures.line c.take-parcel.ensures.held c.is_run.ensures.sound c.is_run.ensures.run c.take-parcel.ensures.parcel

pub returns-clause-taken : goal.returns-clause-taken
returns-clause-taken c = λ e.
    let b = c.args.book.now in
    let w = c.self.inside in
    let able = c.can_take.ensures.0 c.if-not-can_take.false in
    let holds = subst (HoldsAsBook b) (sym c.self.view_is) c.requires.hands in
    let may : MayTake b.plan (now b) (actors.Worker w.host w.index) = may_take b.plan (now b) (actors.Worker w.host w.index) tt (both_empty _ w.hand holds able.0) able.1 in
    let held = c.take-parcel.result.0 in
    let parcel = c.take-parcel.result.1 in
    let net = ap (λ (x : Carried). x.net) c.carried-carried.ensures in
    let all = taken b c.take-parcel.new.self c.args.seat (view_of w) held parcel c.carried-carried.result.net may c.take-parcel.ensures.line c.take-parcel.ensures.held c.take-parcel.ensures.parcel net in
    subst (λ (v : WorkerView). HasTaken b c.take-parcel.new.self c.args.seat v
    (record (view_of w) { hand = Some (record { held = held; parcel = parcel; vni = c.carried-carried.result.net; decision = None }) })) c.self.view_is all
