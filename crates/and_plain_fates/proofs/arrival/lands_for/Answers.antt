use Rattle.std.proofs.Common.{ℕ}
use Rattle.and_policy.specs.Ingress.{landing}
use Rattle.and_events.specs.Just.{LedTo}
use Rattle.and_events.specs.Legal.{entries_at, Owns}
use Rattle.and_events.specs.State.{tuple_at}
use Rattle.and_plain.specs.History.{history}
use Rattle.and_plain_fates.proofs.JustLemmas.{found_is}
use Rattle.and_plain_fates.proofs.arrival.lands_for.Goals as goal

pub returns : goal.returns
returns c = record {
  ok = found_is (λ (net : ℕ). LedTo c.args.plan.now (history c.args.earlier.now) c.args.decided.packet net)
      (λ (net : ℕ). Owns (landing (entries_at c.args.plan.now c.args.s.now c.args.decided.actor c.args.decided.at) net (tuple_at c.args.plan.now c.args.decided.packet)) c.args.vm)
      c.is_owner.result c.in_ok-led.led c.in_ok-led.ensures.ok c.is_owner.ensures;
}
