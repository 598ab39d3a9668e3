-- What the moves of ports do to the ports of one VM.
use Rattle.std.proofs.Common.{◌≡◌, ◌≢◌, ℕ, ◌<◌, Bool, true, false, List, length, get_or, set, refl, sym, ap, ◌∙◌, arith}
use Rattle.std.specs.Prelude.{if◌then◌else◌, ◌==◌, unwrap_or}
use Rattle.std.specs.List.{count_by}
use Rattle.std.proofs.lemmas.Bool.{cases_eq}
use Rattle.std.proofs.lemmas.Grind.{common_steps}
use Rattle.and_policy.specs.declared.port.Port.{Port}
use Rattle.and_policy.specs.declared.port.Port.TheVariants.{Absent, Running, Paused, Arriving, Hairpin}
use Rattle.and_events.specs.Ports.{is_running, is_paused, is_arriving, leaves_host, comes_to}
use Rattle.and_laws.specs.LivePorts.{without_hairpin, port_seen, resting_port, moving_port}
use Rattle.and_laws.proofs.Rows.{set_is, position_is, count_none, count_one}

-- ---- one port

seen_if : (b : Bool) (p q : Port) → without_hairpin (if b then p else q) ≡ (if b then without_hairpin p else without_hairpin q)
seen_if true p q = refl
seen_if false p q = refl

pub seen_set : (ports : List Port) (a x : ℕ) (p : Port) → a < length ports → port_seen (set ports a p) x ≡ (if x == a then without_hairpin p else port_seen ports x)
seen_set ports a x p there = ap without_hairpin (set_is ports a x p Absent there) ∙ seen_if (x == a) p (get_or ports x Absent)

running_seen : (p : Port) → is_running (without_hairpin p) ≡ is_running p
running_seen Absent = refl
running_seen Running = refl
running_seen Paused = refl
running_seen Arriving = refl
running_seen (Hairpin host entry) = refl

paused_seen : (p : Port) → is_paused (without_hairpin p) ≡ is_paused p
paused_seen Absent = refl
paused_seen Running = refl
paused_seen Paused = refl
paused_seen Arriving = refl
paused_seen (Hairpin host entry) = refl

arriving_seen : (p : Port) → is_arriving (without_hairpin p) ≡ is_arriving p
arriving_seen Absent = refl
arriving_seen Running = refl
arriving_seen Paused = refl
arriving_seen Arriving = refl
arriving_seen (Hairpin host entry) = refl

same : (x a : ℕ) → x ≡ a → (x == a) ≡ true
same x a e = grind (arith, common_steps)

differ : (x a : ℕ) → x ≢ a → (x == a) ≡ false
differ x a n = grind (arith, common_steps)

-- ---- a VM that rests at a host

module _ (ports : List Port) (home : ℕ) (rests : (x : ℕ) → port_seen ports x ≡ resting_port home x) where
  running_at : (x : ℕ) → is_running (get_or ports x Absent) ≡ (x == home)
  running_at x = sym (running_seen (get_or ports x Absent)) ∙ ap is_running (rests x) ∙ of (x == home)
    where
      of : (b : Bool) → is_running (if b then Running else Absent) ≡ b
      of true = refl
      of false = refl

  pub one_runs : count_by is_running ports ≡ 1
  one_runs =
      count_one is_running ports home Absent refl (running_at home ∙ same home home refl) (λ x n. running_at x ∙ differ x home n)

-- ---- a VM on its way

module _ (ports : List Port) (home to : ℕ) (apart : home ≢ to) (moves : (x : ℕ) → port_seen ports x ≡ moving_port home to x) where
  pub none_runs : count_by is_running ports ≡ 0
  none_runs = count_none is_running ports Absent (λ x. sym (running_seen (get_or ports x Absent)) ∙ ap is_running (moves x) ∙ of (x == home) (x == to))
    where
      of : (b c : Bool) → is_running (if b then Paused else (if c then Arriving else Absent)) ≡ false
      of true c = refl
      of false true = refl
      of false false = refl

  paused_at : (x : ℕ) → is_paused (get_or ports x Absent) ≡ (x == home)
  paused_at x = sym (paused_seen (get_or ports x Absent)) ∙ ap is_paused (moves x) ∙ of (x == home) (x == to)
    where
      of : (b c : Bool) → is_paused (if b then Paused else (if c then Arriving else Absent)) ≡ b
      of true c = refl
      of false true = refl
      of false false = refl

  arriving_at : (x : ℕ) → is_arriving (get_or ports x Absent) ≡ (if x == home then false else (x == to))
  arriving_at x = sym (arriving_seen (get_or ports x Absent)) ∙ ap is_arriving (moves x) ∙ of (x == home) (x == to)
    where
      of : (b c : Bool) → is_arriving (if b then Paused else (if c then Arriving else Absent)) ≡ (if b then false else c)
      of true c = refl
      of false true = refl
      of false false = refl

  arrives_there : is_arriving (get_or ports to Absent) ≡ true
  arrives_there = arriving_at to ∙ grind (arith, common_steps)

  arrives_nowhere_else : (x : ℕ) → x ≢ to → is_arriving (get_or ports x Absent) ≡ false
  arrives_nowhere_else x n = arriving_at x ∙ grind (arith, common_steps, cases_eq x home)

  pub leaves : leaves_host ports ≡ home
  leaves = ap (λ o. unwrap_or o 0) (position_is is_paused ports home Absent refl (paused_at home ∙ same home home refl) (λ x n. paused_at x ∙ differ x home n))

  pub comes : comes_to ports ≡ to
  comes = ap (λ o. unwrap_or o 0) (position_is is_arriving ports to Absent refl arrives_there arrives_nowhere_else)
