-- What each scenario that is read has, so that a plan can be made of it.
use Rattle.std.specs.Prelude.{ℕ, ◌<◌, ◌≤◌, length}
use Rattle.std.specs.List.{All}
use Rattle.and_events.specs.declared.plan.Item.{Item}
use Rattle.and_events.specs.declared.plan.Item.TheVariants as items
use Rattle.and_events.specs.declared.plan.Scenario.{Scenario}
use Rattle.and_events.specs.Sound.{AreSettings, IsEntry, IsNoPlace}

-- the numbers of an item are in their ranges, a VM's is that of a name, and no item places a VM
abbrev pub IsItem : ℕ → Item → Type 0
IsItem names (items.Entry e) = IsEntry names e × IsNoPlace e
IsItem names (items.Blackout vm host) = vm < names
IsItem names (items.Resume vm) = vm < names
IsItem names _ = Unit {0}

pub record IsScenario (s : Scenario) : Type 0 where
  pub settings : AreSettings s.settings
  pub names : length s.names ≤ 65536
  pub few : length s.items ≤ 65536
  pub items : All (IsItem (length s.names)) s.items
