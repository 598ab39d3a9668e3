use Rattle.std.proofs.Common.{◌∙◌, sym, ap}
use Rattle.std.specs.List.{remove}
use Rattle.and_flow.specs.Groups.{tags_of}
use Rattle.and_flow.proofs.Places.{out_found, out_not_found, tags_out}
use Rattle.and_flow.proofs.group.take_out.Goals as goal

pub returns-in-Some-clause-items : goal.returns-in-Some-clause-items
returns-in-Some-clause-items c =
    let found = rw c.deref-2.ensures.value at c.in-Some.ensures in
    c.remove_at-in-Some.ensures.items ∙ sym (out_found c.args.key.now c.args.items.now.items c.in-Some.at (c.requires.once c.args.key.now) found.0 found.1)

pub returns-in-Some-clause-tags : goal.returns-in-Some-clause-tags
returns-in-Some-clause-tags c =
    c.remove_at.ensures.items ∙ ap (λ ts. remove ts c.in-Some.at) c.requires.tags ∙ tags_out c.args.items.now.items c.in-Some.at
    ∙ ap tags_of (sym c.remove_at-in-Some.ensures.items)

pub returns-in_default-clause-items : goal.returns-in_default-clause-items
returns-in_default-clause-items c = sym (out_not_found c.args.key.now c.args.items.now.items (rw c.deref-2.ensures.value at c.in_default.ensures))
