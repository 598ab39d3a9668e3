use Rattle.and_plain.specs.History.{history}
use Rattle.and_plain_fates.proofs.FreshLemmas.{fresh_of}
use Rattle.and_plain_fates.proofs.fresh.is_fresh_here.Goals as goal

pub returns : goal.returns
returns c = record {
  ok = fresh_of c.args.plan.now (history c.args.earlier.now) c.args.s.now c.args.actor c.args.packet c.in_ok-taken.taken c.args.at
      c.both.result c.is_since-since.result c.is_announced-announced.result
      c.requires c.in_ok-taken.ensures.ok c.both.ensures c.is_since-since.ensures c.is_announced-announced.ensures;
}
