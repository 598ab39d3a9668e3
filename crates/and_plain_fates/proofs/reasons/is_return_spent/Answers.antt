use Rattle.std.proofs.Common.{◌≡◌, ℕ}
use Rattle.and_policy.specs.Owners.{located}
use Rattle.and_policy.specs.declared.decision.Located.TheVariants.{To}
use Rattle.and_events.specs.Just.{LedTo, JustBy, address}
use Rattle.and_events.specs.Legal.{entries_at}
use Rattle.and_plain.specs.History.{history}
use Rattle.and_plain.proofs.Deciding.{both_are}
use Rattle.and_plain_fates.proofs.JustLemmas.{found_at}
use Rattle.and_plain_fates.proofs.reasons.is_return_spent.Goals as goal

pub returns : goal.returns
unfolding JustBy
returns c = record {
  ok = rw c.requires at (both_are c.both.result c.is_somewhere-somewhere.result c.in_ok-spent.spent c.both.ensures
      (found_at (λ (net : ℕ). LedTo c.args.plan.now (history c.args.earlier.now) c.args.decided.packet net)
      (λ (net host : ℕ). located (entries_at c.args.plan.now c.args.s.now c.args.decided.actor c.args.decided.at) net (address c.args.plan.now c.args.decided.packet) ≡ To host)
      c.is_somewhere-somewhere.result c.in_ok-led.led c.in_ok-led.ensures.ok c.is_somewhere-somewhere.ensures)
      c.in_ok-spent.ensures.ok);
}
