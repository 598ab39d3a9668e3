use Rattle.std.proofs.Common.{◌≡◌, List, ◌∷◌, [], ◌++◌, Some, None, ap, ◌∙◌, sym, subst}
use Rattle.and_policy.specs.declared.entry.Entry.{Entry}
use Rattle.and_policy.specs.Fitting.{fits}
use Rattle.and_policy.specs.LogView.{LogView}
use Rattle.and_policy.proofs.Logging.{closing}
use Rattle.and_policy.proofs.log.Log.append.Goals as goal

pub invariant_of-self-2 : goal.invariant_of-self-2
invariant_of-self-2 c =
    let P : LogView → Type 0 = λ v. fits (Some v.hosts) v.entries c.args.entry ≡ None in
    let fit : fits (Some c.self.inside.hosts) c.self.inside.entries.items c.args.entry ≡ None = subst P (sym c.self.view_is) c.requires.fits in
    closing c.self.inside.hosts c.self.inside.entries.items _ c.args.entry _ _ _ c.self.invariant (λ is. c.room.ensures.kept _ is) fit (c.push_reserved.ensures.items ∙ ap (λ (x : List Entry). x ++ c.args.entry ∷ []) c.reserve.ensures.items) (λ is. c.append.ensures (Some c.self.inside.hosts) _ fit is)
