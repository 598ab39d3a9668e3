use Rattle.std.proofs.Common.{◌≡◌, ℕ, ◌∷◌, [], ◌++◌, List, Option, None, sym, subst}
use Rattle.and_policy.specs.declared.entry.Entry.{Entry}
use Rattle.and_policy.specs.Fitting.{fits}
use Rattle.and_policy.specs.Numbered.{IsNumbered, route_numbers}
use Rattle.and_policy.proofs.Numbering.{route-added, route-deleted, routes-other}
use Rattle.and_policy.proofs.numbered.Numbered.note_route.Goals as goal

pub returns-in-AddRoute : goal.returns-in-AddRoute
returns-in-AddRoute c =
    subst (λ (e : Entry). (hosts : Option ℕ) (k : List Entry) → fits hosts k e ≡ None → IsNumbered c.args.self.now (route_numbers k) → IsNumbered c.add.new.self (route_numbers (k ++ e ∷ [])))
    (sym c.in-AddRoute.is) (λ hosts k fit is. route-added c.args.self.now c.add.new.self hosts k c.in-AddRoute.net c.in-AddRoute.route fit c.add.ensures is)

pub returns-in-DelRoute : goal.returns-in-DelRoute
returns-in-DelRoute c =
    subst (λ (e : Entry). (hosts : Option ℕ) (k : List Entry) → fits hosts k e ≡ None → IsNumbered c.args.self.now (route_numbers k) → IsNumbered c.remove.new.self (route_numbers (k ++ e ∷ [])))
    (sym c.in-DelRoute.is) (λ hosts k fit is. route-deleted c.args.self.now c.remove.new.self hosts k c.in-DelRoute.net c.in-DelRoute.number fit c.remove.ensures is)

pub returns-in_default : goal.returns-in_default
returns-in_default c = λ hosts k fit is. routes-other c.args.self.now k c.args.entry.now c.in_default.not-AddRoute c.in_default.not-DelRoute is
