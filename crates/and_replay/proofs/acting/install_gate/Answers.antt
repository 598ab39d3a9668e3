use Rattle.std.proofs.Common.{refl}
use Rattle.and_events.specs.declared.event.Actor.TheVariants.{GateInstall}
use Rattle.and_replay.proofs.Others.{gate_batch_changed, gate_changed}
use Rattle.and_replay.proofs.acting.install_gate.Goals as goal

pub returns-clause-gates : goal.returns-clause-gates
returns-clause-gates c =
    let b = c.args.book.now in
    let did = c.in_ok-install.ensures in
    gate_changed b c.install.new.book (GateInstall c.args.gateway) did.adds c.is_run.ensures.sound c.is_run.ensures.run c.args.gates.now.items c.args.gateway c.install.new.tables refl c.requires.gates did.tables

pub returns-clause-batches : goal.returns-clause-batches
returns-clause-batches c =
    let b = c.args.book.now in
    let did = c.in_ok-install.ensures in
    gate_batch_changed b c.install.new.book (GateInstall c.args.gateway) did.adds c.is_run.ensures.sound c.is_run.ensures.run c.args.batches.now.items c.args.gateway c.install.new.batch refl c.requires.batches did.batch
