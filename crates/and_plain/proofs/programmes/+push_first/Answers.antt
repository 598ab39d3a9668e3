use Rattle.std.proofs.Common.{◌∙◌, arith}
use Rattle.and_plain.proofs.RowLemmas.{push_last}
use Rattle.and_plain.proofs.programmes.+push_first.Goals as goal

pub returns : goal.returns
returns t c =
    record { ok = c.in_ok-push_at.ensures.ok ∙ push_last _ c.args.programmes.now.items c.push_first.new.programmes.items _ _ (omega arith) (omega (arith, c.requires)) c.in_ok-push_first.ensures.ok }
