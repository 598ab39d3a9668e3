use Rattle.std.proofs.Common.{arith}
use Rattle.std.proofs.lemmas.Grind.{common_steps}
use Rattle.and_plain.specs.History.{history}
use Rattle.and_plain_fates.proofs.FreshLemmas.{fresh_by}
use Rattle.and_plain_fates.proofs.fresh.is_fresh_by.Goals as goal

pub returns-in-Egress : goal.returns-in-Egress
returns-in-Egress c = record {
  ok = fresh_by c.args.plan.now (history c.args.earlier.now) c.args.packet c.args.event.now c.is_fresh_at.result
      (record { actor = c.in-Egress.actor; packet = c.in-Egress.decided; at = c.in-Egress.at }) (grind (arith, common_steps)) c.is_fresh_at.ensures.ok;
}
