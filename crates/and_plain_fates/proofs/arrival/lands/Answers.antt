use Rattle.std.proofs.Common.{◌≡◌, ℕ}
use Rattle.and_policy.specs.Ingress.{landing}
use Rattle.and_events.specs.Just.{LedTo}
use Rattle.and_events.specs.Legal.{entries_at}
use Rattle.and_events.specs.State.{tuple_at}
use Rattle.and_plain.specs.History.{history}
use Rattle.and_plain_fates.proofs.JustLemmas.{found_is}
use Rattle.and_plain_fates.proofs.arrival.lands.Goals as goal

pub returns : goal.returns
returns c = record {
  ok = found_is (λ (net : ℕ). LedTo c.args.plan.now (history c.args.earlier.now) c.args.decided.packet net)
      (λ (net : ℕ). landing (entries_at c.args.plan.now c.args.s.now c.args.decided.actor c.args.decided.at) net (tuple_at c.args.plan.now c.args.decided.packet) ≡ c.args.said)
      c.is_landing.result c.in_ok-led.led c.in_ok-led.ensures.ok c.is_landing.ensures;
}
