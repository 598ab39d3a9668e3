use Rattle.std.proofs.Common.{◌≡◌, ◌∙◌, sym, subst, refl, arith}
use Rattle.and_policy.specs.Caches.{put_in}
use Rattle.and_flow.specs.Groups.{KeysOnce}
use Rattle.and_flow.proofs.Newer.{once_put}
use Rattle.and_flow.proofs.group.Group.put.Goals as goal

pub invariant_of-self : goal.invariant_of-self
invariant_of-self c =
    let is : c.add.new.items.items ≡ put_in c.self.inside.items.items c.args.new = c.add.ensures.items ∙ rw c.take_out.ensures.items refl in
    let once : KeysOnce c.add.new.items.items = subst KeysOnce (sym is) (once_put c.self.inside.items.items c.args.new c.self.invariant.4) in
    (c.add.ensures.few, omega arith, omega arith, c.add.ensures.tags, once)
