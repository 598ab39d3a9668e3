use Rattle.std.proofs.Common.{arith}
use Rattle.std.proofs.lemmas.Grind.{common_steps}
use Rattle.and_plain.specs.History.{history}
use Rattle.and_plain_fates.proofs.LedToLemmas.{led_is}
use Rattle.and_plain_fates.proofs.led.led_to.Goals as goal

pub returns : goal.returns
returns c = record {
  ok = led_is c.args.plan.now (history c.args.events.now) c.args.packet c.deref.result.now c.deref-2.result.now c.led_once-led.result
      (grind (arith, c.in_ok-lefts.ensures.ok, common_steps)) (grind (arith, c.in_ok-leds.ensures.ok, common_steps)) c.led_once-led.ensures;
}
