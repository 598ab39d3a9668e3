use Rattle.std.proofs.Common.{◌≡◌, ◌∙◌, unwrap_or, nat_eq, ap}
use Rattle.std.specs.HashMap as hash
use Rattle.and_policy.proofs.Numbering.{numbered-less}
use Rattle.and_policy.proofs.numbered.Numbered.remove.Goals as goal

pub returns : goal.returns
returns c = λ f there is.
    let is_read : c.unwrap_or-count.result ≡ unwrap_or (hash.get nat_eq c.args.self.now.counts c.args.net) 0 =
    c.unwrap_or-count.ensures ∙ ap (λ o. unwrap_or o 0) (c.copied.ensures ∙ c.get.ensures.value) in
    numbered-less c.args.self.now c.put.new.map c.remove.new.self f c.args.net c.args.number c.unwrap_or-count.result there is is_read (rw c.saturating_sub.ensures at c.put.ensures.updates.0) c.remove.ensures.updates.0
