use Rattle.std.proofs.Common.{◌∙◌, refl, sym, subst}
use Rattle.and_events.specs.declared.event.Actor.TheVariants.{Coproc}
use Rattle.and_events.specs.Run.{past}
use Rattle.and_replay.specs.Parting.{IsCoprocAt}
use Rattle.and_replay.specs.Turns.{Adds, IsNext}
use Rattle.and_replay.proofs.Others.{coproc_changed}
use Rattle.and_replay.proofs.Rows.{part_at}
use Rattle.and_replay.proofs.acting.seal_at.Goals as goal

pub seal-requires-clause-next : goal.seal-requires-clause-next
seal-requires-clause-next c =
    let b = c.args.book.now in
    let at = subst (IsCoprocAt b.plan (past b.lines) c.args.host) (sym c.index_mut.ensures.value)
    (part_at _ b.plan.settings.hosts c.args.coprocs.now.items c.requires.coprocs c.args.host _ c.requires.next.actor) in
    subst (λ n. IsNext b (Coproc n)) (sym at.host) c.requires.next

pub seal-requires-clause-coproc : goal.seal-requires-clause-coproc
seal-requires-clause-coproc c =
    let b = c.args.book.now in
    let at = subst (IsCoprocAt b.plan (past b.lines) c.args.host) (sym c.index_mut.ensures.value)
    (part_at _ b.plan.settings.hosts c.args.coprocs.now.items c.requires.coprocs c.args.host _ c.requires.next.actor) in
    at.sealing

pub returns : goal.returns
returns c =
    let b = c.args.book.now in
    let at = subst (IsCoprocAt b.plan (past b.lines) c.args.host) (sym c.index_mut.ensures.value)
    (part_at _ b.plan.settings.hosts c.args.coprocs.now.items c.requires.coprocs c.args.host _ c.requires.next.actor) in
    let adds = subst (λ n. Adds b c.seal.new.book (Coproc n)) at.host c.seal.ensures.adds in
    record {
      adds = adds;
      coprocs = coproc_changed b c.seal.new.book (Coproc c.args.host) adds c.is_run.ensures.sound c.is_run.ensures.run c.args.coprocs.now.items c.args.host c.seal.new.coproc refl
          (c.seal.ensures.host ∙ at.host) c.seal.ensures.coproc c.requires.coprocs;
    }
