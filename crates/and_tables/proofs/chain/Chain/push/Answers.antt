use Rattle.std.proofs.Common.{◌≡◌, ◌∙◌, ◌+◌, ◌++◌, ◌∷◌, [], List, length, arith, refl}
use Rattle.and_tables.specs.declared.chain.Link.{Link}
use Rattle.and_tables.specs.Chains.{link_at}
use Rattle.and_tables.proofs.Chaining.{chain_order}
use Rattle.and_tables.proofs.chain.Chain.push.Goals as goal

pub returns : goal.returns
returns c = λ by p order is same here.
    let old : List Link = c.args.self.now.before.items in
    let items : c.push_reserved.new.self.items ≡ old ++ link_at c.args.self.now.last c.args.key ∷ [] = rw (← c.link_of.ensures) c.push_reserved.ensures.items in
    let number : c.len-number.result ≡ length old + 1 = omega (arith, c.len-number.ensures, c.push_reserved.ensures.len, c.args.self.now.before.ok) in
    chain_order by p order c.args.place c.args.self.now _ is here (λ q. c.put_link.ensures q ∙ rw (same, number) refl) (rw same items)
