-- How the ports of a VM go on fitting where it is: it is added, removed, paused, arrives, or loses a hairpin.
use Rattle.std.proofs.Common.{◌≡◌, ◌≢◌, ℕ, ◌<◌, Bool, true, false, List, length, get_or, set, replicate, refl, sym, ap, ◌∙◌, subst, arith, Option, Some, None, length-set}
use Rattle.std.specs.Prelude.{if◌then◌else◌, ◌==◌, unwrap_or}
use Rattle.std.proofs.lemmas.Bool.{cases_eq}
use Rattle.std.proofs.lemmas.Grind.{common_steps}
use Rattle.and_policy.specs.declared.port.Port.{Port}
use Rattle.and_policy.specs.declared.port.Port.TheVariants.{Absent, Running, Paused, Arriving, Hairpin}
use Rattle.and_events.specs.Script.{is_place}
use Rattle.and_events.specs.Ports.{leaves_host, comes_to}
use Rattle.and_laws.specs.LivePorts.{without_hairpin, port_seen, resting_port, moving_port, FitsPorts}
use Rattle.and_laws.proofs.Rows.{within, replicate_at}
use Rattle.and_laws.proofs.PortMoves.{seen_set, leaves, comes}

-- the same VM, by other words
pub fits_as : (hosts : ℕ) {live live' : Bool} {at at' to to' : Option ℕ} {ports ports' : List Port} → live' ≡ live → at' ≡ at → to' ≡ to → ports' ≡ ports → FitsPorts hosts live at to ports → FitsPorts hosts live' at' to' ports'
fits_as hosts {live} {live'} {at} {at'} {to} {to'} {ports} {ports'} l a t p f =
    subst (λ x. FitsPorts hosts x at' to' ports') (sym l)
    (subst (λ x. FitsPorts hosts live x to' ports') (sym a)
    (subst (λ x. FitsPorts hosts live at x ports') (sym t) (subst (λ x. FitsPorts hosts live at to x) (sym p) f)))

-- a VM that is added runs at its host
pub fits_added : (hosts host : ℕ) (at to : Option ℕ) (ports : List Port) → host < hosts → length ports ≡ hosts → FitsPorts hosts false at to ports → FitsPorts hosts true (Some host) None (set ports host Running)
fits_added hosts host at to ports there all f =
    (there, λ x. seen_set ports host x Running (subst (λ n. host < n) (sym all) there) ∙ ap (λ p. if x == host then Running else without_hairpin p) (f.1 x))

-- one that is removed has no port
pub fits_removed : (hosts n : ℕ) (at : Option ℕ) → FitsPorts hosts false at None (replicate n Absent)
fits_removed hosts n at = (refl, λ x. replicate_at n x Absent)

-- a VM that rests is paused, and arrives at another host
pause_seen : (x home host : ℕ) → home ≢ host → (if x == host then Arriving else (if x == home then Paused else resting_port home x)) ≡ moving_port home host x
pause_seen x home host apart = grind (arith, common_steps, cases_eq x host, cases_eq x home)

pub fits_paused : (hosts host : ℕ) (at : Option ℕ) (ports : List Port) → host < hosts → length ports ≡ hosts → is_place at host ≡ false → FitsPorts hosts true at None ports → FitsPorts hosts true at (Some host) (set (set ports (unwrap_or at 0) Paused) host Arriving)
fits_paused hosts host None ports there all other f = absurd f
fits_paused hosts host (Some home) ports there all other (inside, rests) =
    let apart : home ≢ host = λ e. grind (arith, common_steps) in
    let paused : List Port = set ports home Paused in
    let first : home < length ports = subst (λ n. home < n) (sym all) inside in
    let second : host < length paused = subst (λ n. host < n) (sym (length-set ports home Paused ∙ all)) there in (
      inside,
      there,
      apart,
      λ x.
          seen_set paused host x Arriving second
          ∙ ap (λ p. if x == host then Arriving else p) (seen_set ports home x Paused first ∙ ap (λ p. if x == home then Paused else p) (rests x))
          ∙ pause_seen x home host apart,
    )

-- one on its way runs at the other host, and a hairpin stays behind
arrive_seen : (x home to : ℕ) → (if x == to then Running else (if x == home then Absent else moving_port home to x)) ≡ resting_port to x
arrive_seen x home to = grind (arith, common_steps, cases_eq x to, cases_eq x home)

pub fits_arrived : (hosts entry to : ℕ) (at : Option ℕ) (ports : List Port) → length ports ≡ hosts → FitsPorts hosts true at (Some to) ports → FitsPorts hosts true (Some to) None (set (set ports (leaves_host ports) (Hairpin (comes_to ports) entry)) (comes_to ports) Running)
fits_arrived hosts entry to None ports all f = absurd f
fits_arrived hosts entry to (Some home) ports all (inside, there, apart, moves) =
    let behind : List Port = set ports home (Hairpin to entry) in
    let first : home < length ports = subst (λ n. home < n) (sym all) inside in
    let second : to < length behind = subst (λ n. to < n) (sym (length-set ports home (Hairpin to entry) ∙ all)) there in
    let fits : FitsPorts hosts true (Some to) None (set behind to Running) = (
      there,
      λ x.
          seen_set behind to x Running second
          ∙ ap (λ p. if x == to then Running else p) (seen_set ports home x (Hairpin to entry) first ∙ ap (λ p. if x == home then Absent else p) (moves x))
          ∙ arrive_seen x home to,
    )
    in
    subst (λ k. FitsPorts hosts true (Some to) None (set (set ports k (Hairpin (comes_to ports) entry)) (comes_to ports) Running)) (sym (leaves ports home to apart moves))
    (subst (λ k. FitsPorts hosts true (Some to) None (set (set ports home (Hairpin k entry)) k Running)) (sym (comes ports home to apart moves)) fits)

pub comes_where : (hosts to : ℕ) (at : Option ℕ) (ports : List Port) → FitsPorts hosts true at (Some to) ports → comes_to ports ≡ to
comes_where hosts to None ports f = absurd f
comes_where hosts to (Some home) ports (inside, there, apart, moves) = comes ports home to apart moves

-- ---- a hairpin goes

module _ (ports : List Port) (host to entry : ℕ) (is : get_or ports host Absent ≡ Hairpin to entry) where
  hairpin_within : host < length ports
  hairpin_within = within ports host Absent (λ e. absurd (cc))

  unpin_seen : (x : ℕ) → port_seen (set ports host Absent) x ≡ port_seen ports x
  unpin_seen x =
      let seen : port_seen ports host ≡ Absent = ap without_hairpin is in
      seen_set ports host x Absent hairpin_within ∙ grind (arith, common_steps, cases_eq x host, seen)

  pub fits_unpinned : (hosts : ℕ) (live : Bool) (at to' : Option ℕ) → FitsPorts hosts live at to' ports → FitsPorts hosts live at to' (set ports host Absent)
  fits_unpinned hosts false at to' f = absurd (let none = f.1 host in cc)
  fits_unpinned hosts true None to' f = absurd f
  fits_unpinned hosts true (Some home) None f = (f.0, λ x. unpin_seen x ∙ f.1 x)
  fits_unpinned hosts true (Some home) (Some t) f = (f.0, f.1, f.2, λ x. unpin_seen x ∙ f.3 x)
