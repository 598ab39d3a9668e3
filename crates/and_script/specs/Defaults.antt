-- The settings that a scenario may leave out.
use Rattle.std.specs.Prelude.{◌≡◌, ℕ, codes, None}
use Rattle.serde_json.specs.Data.{Data}
use Rattle.serde_json.specs.Find.{get}
use Rattle.and_events.specs.declared.plan.Settings.{Settings}

-- the settings of a scenario that gives no others than these two
abbrev pub default_settings : ℕ → ℕ → Settings
default_settings hosts gateways =
    record {
      hosts = hosts;
      gateways = gateways;
      workers = 2;
      hop_limit = 16;
      out_queue = 256;
      wire_queue = 256;
      seal_queue = 256;
      threshold = 20000;
      life = 3;
    }

-- the value gives no others
pub record LeavesOut (d : Data) : Type 0 where
  pub workers : get (codes "workers") d ≡ None
  pub hop_limit : get (codes "hop_limit") d ≡ None
  pub out_queue : get (codes "out_queue") d ≡ None
  pub wire_queue : get (codes "wire_queue") d ≡ None
  pub seal_queue : get (codes "seal_queue") d ≡ None
  pub threshold : get (codes "threshold") d ≡ None
  pub life : get (codes "life") d ≡ None

-- settings that are left out have their defaults
abbrev pub HasDefaults : Data → Settings → Type 0
HasDefaults d s = LeavesOut d → s ≡ default_settings s.hosts s.gateways
