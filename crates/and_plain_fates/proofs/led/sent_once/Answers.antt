use Rattle.std.proofs.Common.{arith}
use Rattle.std.proofs.lemmas.Grind.{common_steps}
use Rattle.and_plain_fates.specs.Behind.{SendsInto}
use Rattle.and_plain_fates.proofs.LedLemmas.{single, once_is}
use Rattle.and_plain_fates.proofs.led.sent_once.Goals as goal

pub returns-in-len1 : goal.returns-in-len1
returns-in-len1 c =
    let one = single c.args.leds.now c.led-item.result (omega arith) (omega arith) in
    once_is (λ led net. SendsInto c.args.plan.now c.args.packet led net) c.args.leds.now c.led-item.result c.sent_into.result (grind (arith, one, common_steps)) c.sent_into.ensures
