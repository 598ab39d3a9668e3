use Rattle.std.proofs.Common.{◌≡◌, ℕ}
use Rattle.and_policy.specs.Owners.{located}
use Rattle.and_policy.specs.declared.decision.Located.TheVariants.{NoOwner}
use Rattle.and_events.specs.Just.{LedTo, JustBy, address}
use Rattle.and_events.specs.Legal.{entries_at}
use Rattle.and_plain.specs.History.{history}
use Rattle.and_plain_fates.proofs.JustLemmas.{found_is}
use Rattle.and_plain_fates.proofs.reasons.is_ownerless.Goals as goal

pub returns : goal.returns
unfolding JustBy
returns c = record {
  ok = rw c.requires at (found_is (λ (net : ℕ). LedTo c.args.plan.now (history c.args.earlier.now) c.args.decided.packet net)
      (λ (net : ℕ). located (entries_at c.args.plan.now c.args.s.now c.args.decided.actor c.args.decided.at) net (address c.args.plan.now c.args.decided.packet) ≡ NoOwner)
      c.is_nowhere.result c.in_ok-led.led c.in_ok-led.ensures.ok c.is_nowhere.ensures);
}
