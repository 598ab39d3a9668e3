use Rattle.std.proofs.Common.{◌∙◌, refl, sym, ap, subst}
use Rattle.and_events.specs.declared.event.Actor.TheVariants.{Gateway}
use Rattle.and_events.specs.declared.event.Node.TheVariants.{Gate}
use Rattle.and_events.specs.Run.{past}
use Rattle.and_replay.specs.Parting.{IsHoverAt, installed_ops}
use Rattle.and_replay.specs.Turns.{Adds, IsNext}
use Rattle.and_replay.proofs.Others.{hover_changed}
use Rattle.and_replay.proofs.Rows.{part_at}
use Rattle.and_replay.proofs.acting.pass_at.Goals as goal

pub pass-requires-clause-next : goal.pass-requires-clause-next
pass-requires-clause-next c =
    let b = c.args.book.now in
    let at = subst (IsHoverAt b.plan (past b.lines) c.args.gateway) (sym c.index_mut.ensures.value)
    (part_at _ b.plan.settings.gateways c.args.hovers.now.items c.requires.hovers c.args.gateway _ c.requires.next.actor) in
    subst (λ n. IsNext b (Gateway n)) (sym at.gateway) c.requires.next

pub pass-requires-clause-tables : goal.pass-requires-clause-tables
pass-requires-clause-tables c =
    let b = c.args.book.now in
    let at = subst (IsHoverAt b.plan (past b.lines) c.args.gateway) (sym c.index_mut.ensures.value)
    (part_at _ b.plan.settings.gateways c.args.hovers.now.items c.requires.hovers c.args.gateway _ c.requires.next.actor) in
    c.index-gates-place.is
    ∙ (part_at _ b.plan.settings.gateways c.args.gates.now c.requires.gates c.args.gateway _ c.requires.next.actor
    ∙ ap (λ n. installed_ops b.plan (past b.lines) (Gate n)) (sym at.gateway))

pub pass-requires-clause-worker : goal.pass-requires-clause-worker
pass-requires-clause-worker c =
    let b = c.args.book.now in
    let at = subst (IsHoverAt b.plan (past b.lines) c.args.gateway) (sym c.index_mut.ensures.value)
    (part_at _ b.plan.settings.gateways c.args.hovers.now.items c.requires.hovers c.args.gateway _ c.requires.next.actor) in
    at.passing

pub returns : goal.returns
returns c =
    let b = c.args.book.now in
    let at = subst (IsHoverAt b.plan (past b.lines) c.args.gateway) (sym c.index_mut.ensures.value)
    (part_at _ b.plan.settings.gateways c.args.hovers.now.items c.requires.hovers c.args.gateway _ c.requires.next.actor) in
    let adds = subst (λ n. Adds b c.pass.new.book (Gateway n)) at.gateway c.pass.ensures.adds in
    record {
      adds = adds;
      hovers = hover_changed b c.pass.new.book (Gateway c.args.gateway) adds c.is_run.ensures.sound c.is_run.ensures.run c.args.hovers.now.items c.args.gateway c.pass.new.hover refl
          (c.pass.ensures.gateway ∙ at.gateway) c.pass.ensures.worker c.requires.hovers;
    }
