use Rattle.std.proofs.Common.{None, refl, arith}
use Rattle.std.proofs.lemmas.Grind.{common_steps}
use Rattle.and_plain_fates.proofs.LedLemmas.{by_offload, by_hover, by_none}
use Rattle.and_plain_fates.proofs.led.led_by.Goals as goal

pub returns-in-Some-Offload : goal.returns-in-Some-Offload
returns-in-Some-Offload c =
    by_offload c.args.plan.now c.args.packet c.args.left.now c.args.leds.now c.in-Some-Offload.host c.in-Some-Offload.net c.allowed_to.result
    c.offloaded.result c.allowed_to.ensures (grind (arith, common_steps)) c.offloaded.ensures

pub returns-in-Some-Hover : goal.returns-in-Some-Hover
returns-in-Some-Hover c =
    by_hover c.args.plan.now c.args.packet c.args.left.now c.args.leds.now c.in-Some-Hover.field-0-0 c.allowed_to.result
    c.sent_once.result c.allowed_to.ensures (grind (arith, common_steps)) c.sent_once.ensures

pub returns-in-None : goal.returns-in-None
returns-in-None c =
    by_none c.args.plan.now c.args.packet c.args.left.now c.args.leds.now c.allowed_to.result None c.allowed_to.ensures (grind (arith, common_steps)) refl
