use Rattle.std.proofs.Common.{◌∙◌, refl}
use Rattle.and_policy.specs.Caches.{look}
use Rattle.and_flow.proofs.cache.FlowCache.look.Goals as goal

pub returns : goal.returns
unfolding look
returns c = c.look_at.ensures ∙ rw (c.deref.ensures.value, c.group_of-at.ensures.group, c.self.view_is) refl
