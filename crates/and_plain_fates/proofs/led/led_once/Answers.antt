use Rattle.std.proofs.Common.{arith}
use Rattle.std.proofs.lemmas.Grind.{common_steps}
use Rattle.and_plain_fates.specs.Behind.{Leads}
use Rattle.and_plain_fates.proofs.LedLemmas.{single, once_is}
use Rattle.and_plain_fates.proofs.led.led_once.Goals as goal

pub returns-in-len1 : goal.returns-in-len1
returns-in-len1 c =
    let one = single c.args.lefts.now c.left-item.result (omega arith) (omega arith) in
    once_is (λ left net. Leads c.args.plan.now c.args.packet left c.args.leds.now net) c.args.lefts.now c.left-item.result c.led_by.result (grind (arith, one, common_steps)) c.led_by.ensures
