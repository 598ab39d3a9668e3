use Rattle.std.proofs.Common.{◌∙◌, refl}
use Rattle.and_events.specs.declared.event.Actor.TheVariants.{HostInstall}
use Rattle.and_events.specs.Run.{past}
use Rattle.and_replay.proofs.Adding.{plan_after}
use Rattle.and_replay.proofs.Others.{host_batch_changed, host_changed, host_now}
use Rattle.and_replay.proofs.Rows.{part_at}
use Rattle.and_replay.proofs.acting.install_host.Goals as goal

pub returns-clause-hosts : goal.returns-clause-hosts
returns-clause-hosts c =
    let b = c.args.book.now in
    let new = c.install.new.book in
    let did = c.in_ok-install.ensures in
    let was = c.index_mut.ensures.value ∙ part_at _ b.plan.settings.hosts c.args.hosts.now.items c.requires.hosts c.args.host _ c.requires.next.actor in
    host_changed b new (HostInstall c.args.host) did.adds c.is_run.ensures.sound c.is_run.ensures.run c.args.hosts.now.items c.args.host c.install.new.tables refl c.requires.hosts
    (host_now c.install.new.tables c.index_mut.result.now b.plan new.plan (past b.lines) (past new.lines) c.args.host was did.origin did.tables (plan_after b new 0 did.adds.event did.adds.line))

pub returns-clause-batches : goal.returns-clause-batches
returns-clause-batches c =
    let b = c.args.book.now in
    let did = c.in_ok-install.ensures in
    host_batch_changed b c.install.new.book (HostInstall c.args.host) did.adds c.is_run.ensures.sound c.is_run.ensures.run c.args.batches.now.items c.args.host c.install.new.batch refl c.requires.batches did.batch
