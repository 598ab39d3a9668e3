-- The hairpins that are kept tell whether a hairpin may end, and which is the next.
use Rattle.std.proofs.Common.{◌≡◌, ℕ, ◌+◌, ◌-◌, ◌<◌, ◌≤◌, ⊎_elim, Bool, true, false, List, [], ◌∷◌, length, refl, sym, ap, ◌∙◌, subst, arith, Option, Some, None}
use Rattle.std.specs.Prelude.{◌↔◌, IsTrue, IfSome, IfNone}
use Rattle.std.specs.Option.{is_some}
use Rattle.std.proofs.lemmas.Bool.{cases_lt, eq-eqb}
use Rattle.std.proofs.lemmas.List.{get_or_past}
use Rattle.and_policy.specs.declared.port.Port.{Port}
use Rattle.and_policy.specs.declared.port.Port.TheVariants.{Absent, Running, Paused, Arriving, Hairpin}
use Rattle.and_events.specs.declared.event.Event.{Event}
use Rattle.and_events.specs.declared.event.Line.{Line}
use Rattle.and_events.specs.declared.event.Node.{Node}
use Rattle.and_events.specs.declared.event.Node.TheVariants.{Host, Gate}
use Rattle.and_events.specs.declared.plan.Plan.{Plan}
use Rattle.and_events.specs.Legal.{CanUnpin, IsRipe}
use Rattle.and_events.specs.Places.{node_place, IsNode}
use Rattle.and_events.specs.Ports.{port_at, ports_of, IsHairpin}
use Rattle.and_events.specs.Programming.{Programmes, HasInstalled}
use Rattle.and_events.specs.Run.{past}
use Rattle.and_events.specs.State.{State, state}
use Rattle.and_laws.specs.Sizes.{HasNodes, HasPorts}
use Rattle.and_laws.proofs.Sizes.{nodes as nodes_of, port_sizes}
use Rattle.and_pins.specs.declared.pin.Pin.{Pin}
use Rattle.and_pins.specs.Pinned.{AreOf, ArePins, IsFirst, IsLeast, NoneIsRipe, entry_at, hairpin_entry, is_of}
use Rattle.and_pins.proofs.Ripening.{can_unpin, none_ripe}
use Rattle.and_book.specs.Enabling.{HasRipe}
use Rattle.and_book.specs.Inside.{Keeps, Kept}

-- ---- by the first to end

pub ripe_by : (p : Programmes) (pins : List Pin) (least : ℕ) (o : Option (ℕ × ℕ)) (b : Bool) → IsLeast p least → b ≡ is_some o → IfSome o (λ q. IsFirst pins least q.0 q.1) → IfNone o (NoneIsRipe pins least)
    → IsTrue b ↔ HasRipe p pins
ripe_by p pins least (Some q) b is e some none = ((λ t. (q.0, q.1, some.entry, some.stands, (is some.entry).0 some.ripe)), (λ has. e))
ripe_by p pins least None b is e some none =
    ((λ t. absurd (let clash : true ≡ false = sym t ∙ e in cc)), (λ has. absurd (none has.0 has.1 has.2 has.3 ((is has.2).1 has.4))))

-- ---- the hairpins of a state

none_hairpin : (port : Port) → hairpin_entry port ≡ None → IsHairpin port → ⊥
none_hairpin (Hairpin to entry) e is = absurd (cc)
none_hairpin Absent e is = is
none_hairpin Running e is = is
none_hairpin Paused e is = is
none_hairpin Arriving e is = is

some_hairpin : (port : Port) (entry : ℕ) → hairpin_entry port ≡ Some entry → IsHairpin port
some_hairpin (Hairpin to made) entry e = tt
some_hairpin Absent entry e = absurd (cc)
some_hairpin Running entry e = absurd (cc)
some_hairpin Paused entry e = absurd (cc)
some_hairpin Arriving entry e = absurd (cc)

-- none is kept where none stands, and the other way round
pub none_kept : (pins : List Pin) (ports : List (List Port)) → ArePins pins ports → ((host vm : ℕ) → IsHairpin (port_at ports host vm) → ⊥) → pins ≡ []
none_kept [] ports are none = refl
none_kept (pin ∷ pins) ports are none =
    let own : is_of pin.host pin.vm pin ≡ true = rw (eq-eqb pin.host pin.host refl, eq-eqb pin.vm pin.vm refl) refl in
    let there : entry_at (pin ∷ pins) pin.host pin.vm ≡ Some pin.entry = rw own refl in
    absurd (none pin.host pin.vm (some_hairpin (port_at ports pin.host pin.vm) pin.entry (sym (are.entries pin.host pin.vm) ∙ there)))

pub none_stands : (pins : List Pin) (ports : List (List Port)) → ArePins pins ports → pins ≡ [] → (host vm : ℕ) → IsHairpin (port_at ports host vm) → ⊥
none_stands pins ports are none host vm is =
    let nowhere : entry_at pins host vm ≡ None = ap (λ ps. entry_at ps host vm) none in
    none_hairpin (port_at ports host vm) (sym (are.entries host vm) ∙ nowhere) is

module _ (plan : Plan) (s : State) (pins : List Pin) (are : ArePins pins s.ports) (ports : HasPorts plan s.ports) (nodes : HasNodes plan s.programmes) where
  no_more_ports : (host vm : ℕ) → plan.settings.hosts ≤ host → length (ports_of s.ports vm) ≤ host
  no_more_ports host vm past =
      let none : List Port = [] in
      ⊎_elim
      (λ (l : vm < length s.ports). omega (arith, past, ports.hosts vm (omega (arith, l, ports.vms))))
      (λ (l : length s.ports ≤ vm). omega (arith, ap (length {A = Port}) (get_or_past s.ports vm none l)))
      (cases_lt vm (length s.ports))

  -- a hairpin stands at a host of the plan
  host_within : (host vm to entry : ℕ) → port_at s.ports host vm ≡ Hairpin to entry → host < plan.settings.hosts
  host_within host vm to entry is =
      ⊎_elim
      (λ (l : host < plan.settings.hosts). l)
      (λ (past : plan.settings.hosts ≤ host).
      let clash : Hairpin to entry ≡ Absent = sym is ∙ get_or_past (ports_of s.ports vm) host Absent (no_more_ports host vm past) in absurd (cc))
      (cases_lt host plan.settings.hosts)

  at_nodes : (entry : ℕ) → ((n : ℕ) → n < length s.programmes.ops → HasInstalled s.programmes n entry) → (node : Node) → IsNode plan.settings node → HasInstalled s.programmes (node_place plan.settings node) entry
  at_nodes entry all (Host h) is = all h (omega (arith, is, nodes.ops))
  at_nodes entry all (Gate g) is = all (plan.settings.hosts + g) (omega (arith, is, nodes.ops))

  at_places : (entry : ℕ) → ((node : Node) → IsNode plan.settings node → HasInstalled s.programmes (node_place plan.settings node) entry) → (n : ℕ) → n < length s.programmes.ops → HasInstalled s.programmes n entry
  at_places entry all n l =
      ⊎_elim
      (λ (m : n < plan.settings.hosts). all (Host n) m)
      (λ (m : plan.settings.hosts ≤ n).
      let same : plan.settings.hosts + (n - plan.settings.hosts) ≡ n = omega (arith, m) in
      subst (λ (k : ℕ). HasInstalled s.programmes k entry) same (all (Gate (n - plan.settings.hosts)) (omega (arith, l, m, nodes.ops))))
      (cases_lt n plan.settings.hosts)

  ripe_port : (host vm entry : ℕ) (port : Port) → port_at s.ports host vm ≡ port → hairpin_entry port ≡ Some entry → ((n : ℕ) → n < length s.programmes.ops → HasInstalled s.programmes n entry) → IsRipe plan s host vm
  ripe_port host vm entry (Hairpin to made) is e all =
      let same : made ≡ entry = cc in
      let stands : port_at s.ports host vm ≡ Hairpin to entry = is ∙ ap (λ n. Hairpin to n) same in
      (to, entry, host_within host vm to entry stands, stands, at_nodes entry all)
  ripe_port host vm entry Absent is e all = absurd (cc)
  ripe_port host vm entry Running is e all = absurd (cc)
  ripe_port host vm entry Paused is e all = absurd (cc)
  ripe_port host vm entry Arriving is e all = absurd (cc)

  -- one that is kept may end where one of the state's may
  pub is_ripe : HasRipe s.programmes pins → (host vm : ℕ) × IsRipe plan s host vm
  is_ripe (host, vm, entry, there, all) = (host, vm, ripe_port host vm entry (port_at s.ports host vm) refl (sym (are.entries host vm) ∙ there) all)

  pub was_ripe : (host vm : ℕ) × IsRipe plan s host vm → HasRipe s.programmes pins
  was_ripe (host, vm, (to, entry, l, stands, all)) = (host, vm, entry, are.entries host vm ∙ ap hairpin_entry stands, at_places entry all)

-- ---- in a run

are_of : (plan : Plan) (h : List Event) (pins : List Pin) (least : ℕ) → ArePins pins (state plan h).ports → IsLeast (state plan h).programmes least → AreOf pins least plan (state plan h)
are_of plan h pins least are is = record {
  standing = are;
  installed = is;
  nodes = (nodes_of plan h).ops;
  hosts = λ vm l. (port_sizes plan h).hosts vm (omega (arith, l, (port_sizes plan h).vms));
}

-- the hairpins that are kept are those of the state, with the number of entries that every node has installed
pub are_kept : (plan : Plan) (threads : ℕ) (lines : List Line) (k : Kept) (spare least : ℕ) → Keeps plan threads lines k spare → least ≡ k.progress.least → (0 < length k.progress.programmes.ops → IsLeast k.progress.programmes least)
    → AreOf k.pins.pins k.pins.least plan (state plan (past lines))
are_kept plan threads lines k spare least keeps same is =
    let some : 0 < length k.progress.programmes.ops = omega (arith, keeps.nodes.ops, keeps.sound.settings.hosts.0) in
    let is_least : IsLeast k.progress.programmes k.pins.least = subst (IsLeast k.progress.programmes) (same ∙ sym keeps.pins.least) (is some) in
    are_of plan (past lines) k.pins.pins k.pins.least (subst (ArePins k.pins.pins) keeps.stands.ports keeps.pins.standing) (subst (λ (p : Programmes). IsLeast p k.pins.least) keeps.stands.programmes is_least)

-- ---- the next to end

pub next_some : (plan : Plan) (s : State) (pins : List Pin) (least : ℕ) (o : Option (ℕ × ℕ)) → AreOf pins least plan s → IfSome o (λ q. IsFirst pins least q.0 q.1) → IfSome o (λ q. CanUnpin plan s q.0 q.1)
next_some plan s pins least (Some q) a first = can_unpin plan s pins least q.0 q.1 a first
next_some plan s pins least None a first = tt

pub next_none : (plan : Plan) (s : State) (pins : List Pin) (least : ℕ) (o : Option (ℕ × ℕ)) → AreOf pins least plan s → IfNone o (NoneIsRipe pins least) → IfNone o ((host vm : ℕ) → IsRipe plan s host vm → ⊥)
next_none plan s pins least (Some q) a none = tt
next_none plan s pins least None a none = λ host vm ripe. none_ripe plan s pins least host vm a none ripe
