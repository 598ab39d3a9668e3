use Rattle.std.proofs.Common.{◌∷◌, [], ◌++◌, List, sym, subst}
use Rattle.and_policy.specs.declared.entry.Entry.{Entry}
use Rattle.and_policy.specs.Placements.{ArePlacements}
use Rattle.and_policy.proofs.Placing.{placements-added, placements-placed, placements-other}
use Rattle.and_policy.proofs.placements.Placements.append.Goals as goal

pub returns-in-AddVm-clause-placements : goal.returns-in-AddVm-clause-placements
returns-in-AddVm-clause-placements c =
    subst (λ (e : Entry). (k : List Entry) → ArePlacements c.args.self.now k → ArePlacements (record { count = c.saturating_add-self.result; additions = c.note.new.additions; hosts = c.put.new.map }) (k ++ e ∷ []))
    (sym c.in-AddVm.is)
    (λ k is. placements-added c.args.self.now c.note.new.additions c.put.new.map c.saturating_add-self.result k c.in-AddVm.vm c.in-AddVm.net c.in-AddVm.mac c.in-AddVm.ip c.in-AddVm.host
    c.saturating_add-self.ensures c.note.ensures.additions c.put.ensures.updates.0 is)

pub returns-in-Place-clause-placements : goal.returns-in-Place-clause-placements
returns-in-Place-clause-placements c =
    subst (λ (e : Entry). (k : List Entry) → ArePlacements c.args.self.now k → ArePlacements (record { count = c.saturating_add-self.result; additions = c.args.self.now.additions; hosts = c.put-in-Place.new.map }) (k ++ e ∷ []))
    (sym c.in-Place.is)
    (λ k is. placements-placed c.args.self.now c.put-in-Place.new.map c.saturating_add-self.result k c.in-Place.vm c.in-Place.host c.saturating_add-self.ensures c.put-in-Place.ensures.updates.0 is)

pub returns-in_default-clause-placements : goal.returns-in_default-clause-placements
returns-in_default-clause-placements c = λ k is.
    placements-other c.args.self.now c.saturating_add-self.result k c.args.entry.now c.saturating_add-self.ensures c.in_default.not-AddVm c.in_default.not-Place is
