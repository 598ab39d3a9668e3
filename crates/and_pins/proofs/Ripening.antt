-- The first hairpin to end is the one that the controller may end.
use Rattle.std.proofs.Common.{◌≡◌, ◌≢◌, ℕ, zero, suc, ◌+◌, ◌-◌, ◌<◌, ◌≤◌, List, [], ◌∷◌, length, get_or, refl, ap, sym, ◌∙◌, subst, inl, inr, arith, Some}
use Rattle.std.specs.Prelude.{◌⊎◌}
use Rattle.std.proofs.lemmas.Bool.{cases_lt}
use Rattle.and_policy.specs.declared.port.Port.{Port}
use Rattle.and_policy.specs.declared.port.Port.TheVariants as port_states
use Rattle.and_events.specs.declared.event.Node.{Node}
use Rattle.and_events.specs.declared.event.Node.TheVariants.{Host, Gate}
use Rattle.and_events.specs.declared.plan.Plan.{Plan}
use Rattle.and_events.specs.Places.{IsNode, node_place}
use Rattle.and_events.specs.Legal.{CanUnpin, IsRipe}
use Rattle.and_events.specs.Ports.{port_at, ports_of}
use Rattle.and_events.specs.Programming.{HasInstalled}
use Rattle.and_events.specs.State.{State}
use Rattle.and_pins.specs.declared.pin.Pin.{Pin}
use Rattle.and_pins.specs.Pinned.{AreOf, IsFirst, NoneIsRipe, entry_at, hairpin_entry}

-- what is not the value past the end stands within
within : {X : Type 0} (xs : List X) (k : ℕ) (d : X) → get_or xs k d ≢ d → k < length xs
within [] k d n = absurd (n refl)
within (x ∷ xs) zero d n = omega arith
within (x ∷ xs) (suc k) d n = let w = within xs k d n in omega (arith, w)

module _ (plan : Plan) (s : State) (pins : List Pin) (least : ℕ) (a : AreOf pins least plan s) where
  node_within : (node : Node) → IsNode plan.settings node → node_place plan.settings node < length s.programmes.ops
  node_within (Host h) k = let n = a.nodes in omega (arith, k, n)
  node_within (Gate g) k = let n = a.nodes in omega (arith, k, n)

  -- a hairpin stands at a host of the plan
  host_within : (host vm to entry : ℕ) → port_at s.ports host vm ≡ port_states.Hairpin to entry → host < plan.settings.hosts
  host_within host vm to entry is =
      let inside : host < length (ports_of s.ports vm) = within (ports_of s.ports vm) host port_states.Absent (λ e. absurd (let clash : port_states.Hairpin to entry ≡ port_states.Absent = sym is ∙ e in cc)) in
      let there : vm < length s.ports = within s.ports vm [] (λ e. let empty : length (ports_of s.ports vm) ≡ 0 = ap length e in absurd (omega (arith, inside, empty))) in
      subst (λ (n : ℕ). host < n) (a.hosts vm there) inside

  ripe_pin : (host vm entry : ℕ) → entry_at pins host vm ≡ Some entry → entry ≤ least → IsRipe plan s host vm
  ripe_pin host vm entry is ripe = by_port (port_at s.ports host vm) refl (sym (a.standing.entries host vm) ∙ is)
    where
      by_port : (port : Port) → port_at s.ports host vm ≡ port → hairpin_entry port ≡ Some entry → IsRipe plan s host vm
      by_port port_states.Absent e f = absurd (cc)
      by_port port_states.Running e f = absurd (cc)
      by_port port_states.Paused e f = absurd (cc)
      by_port port_states.Arriving e f = absurd (cc)
      by_port (port_states.Hairpin to made) e f =
          let same : made ≡ entry = cc in
          let stands : port_at s.ports host vm ≡ port_states.Hairpin to entry = e ∙ ap (λ n. port_states.Hairpin to n) same in
          (to, entry, host_within host vm to entry stands, stands, λ node k. (a.installed entry).0 ripe (node_place plan.settings node) (node_within node k))

  -- what all nodes have installed is among the least
  installed_by_all : (entry : ℕ) → ((node : Node) → IsNode plan.settings node → HasInstalled s.programmes (node_place plan.settings node) entry) → entry ≤ least
  installed_by_all entry all = (a.installed entry).1 (λ n k. at_place n k (cases_lt n plan.settings.hosts))
    where
      at_place : (n : ℕ) → n < length s.programmes.ops → (n < plan.settings.hosts) ⊎ (plan.settings.hosts ≤ n) → HasInstalled s.programmes n entry
      at_place n k (inl l) = all (Host n) l
      at_place n k (inr l) =
          let nodes = a.nodes in
          let is : plan.settings.hosts + (n - plan.settings.hosts) ≡ n = omega (arith, l) in
          let gate : n - plan.settings.hosts < plan.settings.gateways = omega (arith, l, k, nodes) in
          subst (λ (m : ℕ). HasInstalled s.programmes m entry) is (all (Gate (n - plan.settings.hosts)) gate)

  ripe_entry : (host vm : ℕ) → (r : IsRipe plan s host vm) → entry_at pins host vm ≡ Some r.1
  ripe_entry host vm r = a.standing.entries host vm ∙ ap hairpin_entry r.3

pub can_unpin : (plan : Plan) (s : State) (pins : List Pin) (least host vm : ℕ) → AreOf pins least plan s → IsFirst pins least host vm → CanUnpin plan s host vm
can_unpin plan s pins least host vm a f =
    (ripe_pin plan s pins least a host vm f.entry f.stands f.ripe, λ h v r b. f.first h v r.1 (ripe_entry plan s pins least a h v r) (installed_by_all plan s pins least a r.1 r.4) b)

pub none_ripe : (plan : Plan) (s : State) (pins : List Pin) (least host vm : ℕ) → AreOf pins least plan s → NoneIsRipe pins least → IsRipe plan s host vm → ⊥
none_ripe plan s pins least host vm a n r = n host vm r.1 (ripe_entry plan s pins least a host vm r) (installed_by_all plan s pins least a r.1 r.4)
