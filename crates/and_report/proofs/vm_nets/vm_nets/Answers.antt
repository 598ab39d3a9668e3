use Rattle.std.proofs.Common.{take}
use Rattle.and_policy.specs.declared.entry.Entry.TheVariants.{AddNet}
use Rattle.and_report.proofs.NetLemmas.{placed_next, short_next}
use Rattle.and_report.proofs.vm_nets.vm_nets.Goals as goal

pub loop-entry-preserved : goal.loop-entry-preserved
loop-entry-preserved c =
    let log = c.args.plan.now.log in
    let items = c.as_slice-entry-items.result.now in
    let i = c.loop-entry.entry-index in
    record {
      placements = placed_next c.note.new.nets log items i (AddNet 0) c.as_slice-entry-items.ensures c.loop-entry-test.true
          (c.in_ok-note.ensures.placements (take i log) c.loop-entry.invariant.placements);
      short = λ vm large.
          short_next vm log items i (AddNet 0) c.as_slice-entry-items.ensures c.loop-entry-test.true
          (c.loop-entry.invariant.short vm large) (c.in_ok-note.ensures.short vm large);
    }
