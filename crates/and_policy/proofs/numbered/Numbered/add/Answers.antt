use Rattle.std.proofs.Common.{◌≡◌, ◌∙◌, unwrap_or, nat_eq, ap}
use Rattle.std.specs.HashMap as hash
use Rattle.and_policy.proofs.Numbering.{numbered-more}
use Rattle.and_policy.proofs.numbered.Numbered.add.Goals as goal

pub returns : goal.returns
returns c = λ f few fresh is.
    let is_read : c.unwrap_or-count.result ≡ unwrap_or (hash.get nat_eq c.args.self.now.counts c.args.net) 0 =
    c.unwrap_or-count.ensures ∙ ap (λ o. unwrap_or o 0) (c.copied.ensures ∙ c.get.ensures.value) in
    numbered-more c.args.self.now c.put.new.map c.add.new.set f c.args.net c.args.number c.unwrap_or-count.result few fresh is is_read (rw c.saturating_add.ensures at c.put.ensures.updates.0) c.add.ensures.updates.0
