use Rattle.and_plain_fates.proofs.FirstLemmas.{first_of}
use Rattle.and_plain_fates.proofs.first.is_first.Goals as goal

pub returns : goal.returns
returns c =
    first_of c.args.plan.now c.args.s.now c.args.actor c.all_of.result c.none_at-installs_host.result c.none_at-installs_gate.result c.no_worker-works.result
    c.none_at-seals.result c.none_at-routes.result c.no_single-single.result c.all_of.ensures c.none_at-installs_host.ensures c.none_at-installs_gate.ensures
    c.no_worker-works.ensures c.none_at-seals.ensures c.none_at-routes.ensures c.no_single-single.ensures
