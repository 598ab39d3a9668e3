-- The scenario of a drill: its settings, the names of its VMs, and its script.
use Rattle.std.specs.Prelude.{ℕ, zero, suc, ◌+◌, ◌/◌, ◌%◌, ◌==◌, if◌then◌else◌, true, false, List, [], ◌∷◌, ◌++◌, Some}
use Rattle.and_policy.specs.declared.entry.Rule.{Rule}
use Rattle.and_policy.specs.declared.entry.Side.TheVariants as sides
use Rattle.and_policy.specs.declared.entry.Target.TheVariants as targets
use Rattle.and_policy.specs.declared.entry.Entry.TheVariants as entries
use Rattle.and_events.specs.declared.plan.Settings.{Settings}
use Rattle.and_events.specs.declared.plan.Item.{Item}
use Rattle.and_events.specs.declared.plan.Item.TheVariants as items
use Rattle.and_events.specs.declared.plan.Scenario.{Scenario}
use Rattle.and_make.specs.Lists.{below}
use Rattle.and_make.specs.Vms.{name_of, network_of, mac_of, address_of, host_of}

-- the last five are what a scenario has where it does not say
abbrev pub settings : Settings
settings =
    record {
      hosts = 8;
      gateways = 2;
      threshold = 500;
      life = 2;
      workers = 2;
      hop_limit = 16;
      out_queue = 256;
      wire_queue = 256;
      seal_queue = 256;
    }

-- ---- the beginning

-- networks count from 1
abbrev pub network : ℕ → Item
network k = items.Entry (entries.AddNet (1 + k))

abbrev pub vm : ℕ → Item
vm v = items.Entry (entries.AddVm v (network_of v) (mac_of v) (address_of v) (host_of v))

-- rule 1, for what enters: TCP from and to all addresses, from all ports and to the ports from low to high
abbrev pub tcp_rule : ℕ → ℕ → Rule
tcp_rule low high =
    record {
      number = 1;
      priority = 100;
      side = sides.Ingress;
      allow = true;
      sealed = false;
      protocol = Some 6;
      source = record { address = 0; length = 0 };
      destination = record { address = 0; length = 0 };
      source_low = 0;
      source_high = 65535;
      destination_low = low;
      destination_high = high;
    }

-- what may enter the VMs of a network: TCP to ports 80 to 89
abbrev pub entering : ℕ → Item
entering k = items.Entry (entries.AddRule (1 + k) (tcp_rule 80 89))

-- what leaves network 4 sealed: TCP to port 89
abbrev pub sealing : Item
sealing = items.Entry (entries.AddRule 4 (record (tcp_rule 89 89) { number = 2; priority = 50; side = sides.Egress; sealed = true }))

-- what network 1 drops: all that goes to 10.0.0.5
abbrev pub dropping : Item
dropping = items.Entry (entries.AddRoute 1 (record { number = 1; prefix = record { address = 0x0a000005; length = 32 }; target = targets.Drop }))

unfoldable pub beginning : List Item
beginning = below network 4 ++ below vm 40 ++ below entering 4 ++ sealing ∷ dropping ∷ items.Wait ∷ []

-- ---- packet i, counted from 0

-- a tick after each 64th packet
abbrev pub tick_after : ℕ → List Item
tick_after i = if (i + 1) % 64 == 0 then items.Entry entries.Tick ∷ [] else []

-- the VM that moves while these 500 packets are sent, and where to
abbrev pub moving : ℕ → ℕ
moving i = i / 500 % 40

abbrev pub target_of : ℕ → ℕ
target_of i = (moving i + 1 + i / 500 / 40) % 8

abbrev pub blackout_after : ℕ → List Item
blackout_after i = if (i + 1) % 500 == 250 then items.Blackout (moving i) (target_of i) ∷ [] else []

abbrev pub resume_after : ℕ → List Item
resume_after i = if (i + 1) % 500 == 300 then items.Resume (moving i) ∷ [] else []

-- its send, and what comes after it
unfoldable pub items_of : ℕ → List Item
items_of i = items.Send (Some 1) ∷ tick_after i ++ blackout_after i ++ resume_after i

-- ---- the whole

-- the script for n packets
unfoldable pub script : ℕ → List Item
script zero = beginning
script (suc n) = script n ++ items_of n

abbrev pub scenario : ℕ → Scenario
scenario n = record { settings = settings; names = below name_of 40; items = script n }
