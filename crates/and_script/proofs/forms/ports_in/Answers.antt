use Rattle.std.proofs.Common.{arith, sym}
use Rattle.and_script.proofs.PortLists.{ports-other}
use Rattle.and_script.proofs.forms.ports_in.Goals as goal

pub returns-in-len1 : goal.returns-in-len1
returns-in-len1 c = sym (ports-other c.args.list.now (λ e. omega (arith, e, c.in-len1.len_below)))

pub returns-in-len3-up : goal.returns-in-len3-up
returns-in-len3-up c = sym (ports-other c.args.list.now (λ e. omega (arith, e, c.in-len3-up.len_at_least)))
