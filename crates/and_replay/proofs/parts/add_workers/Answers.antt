use Rattle.std.proofs.Common.{◌+◌, ◌*◌, sym, subst, arith}
use Rattle.and_replay.specs.Parting.{FreshWorkers}
use Rattle.and_replay.proofs.Beginning.{one_more_worker}
use Rattle.and_replay.proofs.parts.add_workers.Goals as goal

pub loop-index-preserved : goal.loop-index-preserved
loop-index-preserved c =
    let s = c.args.settings in
    subst (λ ws. FreshWorkers s (c.args.host * s.workers + (c.loop-index.index + 1)) ws) (sym c.in_ok-push_worker.ensures)
    (one_more_worker s c.args.host c.loop-index.index c.loop-index.workers.items c.in_ok-worker.worker c.requires.host (omega (arith, c.loop-index-test.true)) c.in_ok-worker.ensures c.loop-index.invariant)
