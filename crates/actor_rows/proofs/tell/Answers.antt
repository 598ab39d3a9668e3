use Rattle.std.proofs.Common.{◌∙◌, sym, ap}
use Rattle.and_events.specs.declared.plan.Plan.{Plan}
use Rattle.actor_rows.proofs.Waits.{may_settle, waits_still}
use Rattle.actor_rows.proofs.tell.Goals as goal

pub settle-requires : goal.settle-requires
settle-requires g c =
    may_settle c.room.new.self c.take.new.book c.args.tables.now c.in_ok-worker.worker c.take.new.self
    (waits_still c.args.book.now c.room.new.self c.requires.waiting c.room.ensures.lines c.room.ensures.plan c.room.ensures.threads)
    c.in_ok-worker.ensures c.requires.host (c.requires.gateways ∙ ap (λ (p : Plan). p.settings.gateways) (sym c.room.ensures.plan)) (c.take.ensures.taken c.if-not-take.false) c.decide.new.self c.in-Ok.ensures.decision
