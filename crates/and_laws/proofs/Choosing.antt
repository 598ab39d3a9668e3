-- An actor's legal events are told by what it chooses: all else is given by the state.
use Rattle.std.proofs.Common.{◌≡◌, ℕ, Bool, true, false, refl, sym, ap, ◌∙◌, subst, arith, ⊎_elim}
use Rattle.and_policy.specs.declared.decision.Leaving.{Leaving}
use Rattle.and_policy.specs.declared.decision.Leaving.TheVariants as leavings
use Rattle.and_policy.specs.declared.decision.Routed.{Routed}
use Rattle.and_policy.specs.declared.decision.Routed.TheVariants as routeds
use Rattle.and_policy.specs.declared.decision.Located.{Located}
use Rattle.and_policy.specs.declared.decision.Located.TheVariants as locateds
use Rattle.and_policy.specs.declared.decision.Landing.{Landing}
use Rattle.and_policy.specs.declared.decision.Landing.TheVariants as landings
use Rattle.and_policy.specs.declared.decision.Dest.{Dest}
use Rattle.and_policy.specs.declared.decision.Name.{Name}
use Rattle.and_policy.specs.declared.port.Port.{Port}
use Rattle.and_policy.specs.declared.port.Port.TheVariants as port_states
use Rattle.and_events.specs.declared.event.Arrival.{Arrival}
use Rattle.and_events.specs.declared.event.Arrival.TheVariants as arrivals
use Rattle.and_events.specs.declared.event.Departure.{Departure}
use Rattle.and_events.specs.declared.event.Departure.TheVariants.{NoVm, Spoofed, Denied, Allowed}
use Rattle.and_events.specs.declared.event.End.{End}
use Rattle.and_events.specs.declared.event.End.TheVariants.{Queued, Full, Hops}
use Rattle.and_events.specs.declared.event.Endpoint.{Endpoint}
use Rattle.and_events.specs.declared.event.Endpoint.TheVariants as endpoints
use Rattle.and_events.specs.declared.event.Node.{Node}
use Rattle.and_events.specs.declared.event.Passage.{Passage}
use Rattle.and_events.specs.declared.event.Passage.TheVariants as passages
use Rattle.and_events.specs.declared.event.Return.{Return}
use Rattle.and_events.specs.declared.event.Return.TheVariants as returns
use Rattle.and_events.specs.declared.plan.Plan.{Plan}
use Rattle.and_events.specs.Ports.{port_at}
use Rattle.and_events.specs.State.{State, dest_endpoint}
use Rattle.and_events.specs.Legal.{EndsAt, Sends, Departs, Passes, GoesBack, Owns, Arrives}

-- ---- ends

pub ends_one : (plan : Plan) (s : State) (q : ℕ) (e f : End) → EndsAt plan s q e → EndsAt plan s q f → e ≡ f
ends_one plan s q Queued Queued x y = refl
ends_one plan s q Full Full x y = refl
ends_one plan s q Queued Full x y = absurd (omega (arith, x.1, y.1))
ends_one plan s q Full Queued x y = absurd (omega (arith, x.1, y.1))
ends_one plan s q Hops f x y = absurd x
ends_one plan s q e Hops x y = absurd y

pub sends_one : (plan : Plan) (s : State) (i : ℕ) (target : Endpoint) (e f : End) → Sends plan s i target e → Sends plan s i target f → e ≡ f
sends_one plan s i target Hops Hops x y = refl
sends_one plan s i target Hops Queued x y = absurd (omega (arith, x, y.0))
sends_one plan s i target Hops Full x y = absurd (omega (arith, x, y.0))
sends_one plan s i target Queued Hops x y = absurd (omega (arith, x.0, y))
sends_one plan s i target Full Hops x y = absurd (omega (arith, x.0, y))
sends_one plan s i target Queued Queued x y = refl
sends_one plan s i target Full Full x y = refl
sends_one plan s i target Queued Full x y = ends_one plan s _ Queued Full x.1 y.1
sends_one plan s i target Full Queued x y = ends_one plan s _ Full Queued x.1 y.1

-- ---- what becomes of a packet, by what the policy said

module _ (plan : Plan) (s : State) (here : Node) (i : ℕ) (said : Leaving) where
  -- what the departure was, read off what was said and an end
  departs_allowed : (by by' : Name) (sealed sealed' : Bool) (dest dest' : Dest) (e f : End) → Departs plan s here i said (Allowed by sealed dest e) → Departs plan s here i said (Allowed by' sealed' dest' f) → said ≡ leavings.Allowed by sealed dest → said ≡ leavings.Allowed by' sealed' dest'
      → Allowed by sealed dest e ≡ Allowed by' sealed' dest' f
  departs_allowed by by' true true dest dest' e f x y u v =
      let end : e ≡ f = ends_one plan s _ e f x.1 y.1 in
      let same : leavings.Allowed by true dest ≡ leavings.Allowed by' true dest' = sym u ∙ v in
      cc
  departs_allowed by by' false false dest dest' e f x y u v =
      let same : leavings.Allowed by false dest ≡ leavings.Allowed by' false dest' = sym u ∙ v in
      let to : dest ≡ dest' = cc in
      let end : e ≡ f = sends_one plan s i (dest_endpoint dest') e f (subst (λ d. Sends plan s i (dest_endpoint d) e) to x.2) y.2 in
      cc
  departs_allowed by by' true false dest dest' e f x y u v = absurd (let same : leavings.Allowed by true dest ≡ leavings.Allowed by' false dest' = sym u ∙ v in cc)
  departs_allowed by by' false true dest dest' e f x y u v = absurd (let same : leavings.Allowed by false dest ≡ leavings.Allowed by' true dest' = sym u ∙ v in cc)

  told : (by : Name) (sealed : Bool) (dest : Dest) (e : End) → Departs plan s here i said (Allowed by sealed dest e) → said ≡ leavings.Allowed by sealed dest
  told by true dest e x = x.0
  told by false dest e x = x.0

  pub departs_one : (d d' : Departure) → Departs plan s here i said d → Departs plan s here i said d' → d ≡ d'
  departs_one NoVm NoVm x y = refl
  departs_one Spoofed Spoofed x y = refl
  departs_one (Denied n) (Denied m) x y = let same : leavings.Denied n ≡ leavings.Denied m = sym x ∙ y in cc
  departs_one (Allowed by sealed dest e) (Allowed by' sealed' dest' f) x y =
      departs_allowed by by' sealed sealed' dest dest' e f x y (told by sealed dest e x) (told by' sealed' dest' f y)
  departs_one NoVm Spoofed x y = absurd (let same : leavings.NoVm ≡ leavings.Spoofed = sym x ∙ y in cc)
  departs_one NoVm (Denied m) x y = absurd (let same : leavings.NoVm ≡ leavings.Denied m = sym x ∙ y in cc)
  departs_one NoVm (Allowed by sealed dest e) x y = absurd (let same : leavings.NoVm ≡ leavings.Allowed by sealed dest = sym x ∙ told by sealed dest e y in cc)
  departs_one Spoofed NoVm x y = absurd (let same : leavings.Spoofed ≡ leavings.NoVm = sym x ∙ y in cc)
  departs_one Spoofed (Denied m) x y = absurd (let same : leavings.Spoofed ≡ leavings.Denied m = sym x ∙ y in cc)
  departs_one Spoofed (Allowed by sealed dest e) x y = absurd (let same : leavings.Spoofed ≡ leavings.Allowed by sealed dest = sym x ∙ told by sealed dest e y in cc)
  departs_one (Denied n) NoVm x y = absurd (let same : leavings.Denied n ≡ leavings.NoVm = sym x ∙ y in cc)
  departs_one (Denied n) Spoofed x y = absurd (let same : leavings.Denied n ≡ leavings.Spoofed = sym x ∙ y in cc)
  departs_one (Denied n) (Allowed by sealed dest e) x y = absurd (let same : leavings.Denied n ≡ leavings.Allowed by sealed dest = sym x ∙ told by sealed dest e y in cc)
  departs_one (Allowed by sealed dest e) NoVm x y = absurd (let same : leavings.Allowed by sealed dest ≡ leavings.NoVm = sym (told by sealed dest e x) ∙ y in cc)
  departs_one (Allowed by sealed dest e) Spoofed x y = absurd (let same : leavings.Allowed by sealed dest ≡ leavings.Spoofed = sym (told by sealed dest e x) ∙ y in cc)
  departs_one (Allowed by sealed dest e) (Denied m) x y = absurd (let same : leavings.Allowed by sealed dest ≡ leavings.Denied m = sym (told by sealed dest e x) ∙ y in cc)

module _ (plan : Plan) (s : State) (i : ℕ) (said : Routed) where
  pub passes_one : (p p' : Passage) → Passes plan s i said p → Passes plan s i said p' → p ≡ p'
  passes_one (passages.Dropped by) (passages.Dropped by') x y = let same : routeds.Dropped by ≡ routeds.Dropped by' = sym x ∙ y in cc
  passes_one (passages.NoOwner by) (passages.NoOwner by') x y = let same : routeds.NoOwner by ≡ routeds.NoOwner by' = sym x ∙ y in cc
  passes_one (passages.Send by net host e) (passages.Send by' net' host' f) x y =
      let same : routeds.To by net host ≡ routeds.To by' net' host' = sym x.0 ∙ y.0 in
      let to : host ≡ host' = cc in
      let end : e ≡ f = sends_one plan s i (endpoints.Host host') e f (subst (λ h. Sends plan s i (endpoints.Host h) e) to x.2) y.2 in
      cc
  passes_one (passages.Hops by) (passages.Hops by') x y =
      let same : routeds.To by x.0 x.1 ≡ routeds.To by' y.0 y.1 = sym x.2 ∙ y.2 in
      let named : by ≡ by' = cc in
      ap passages.Hops named
  passes_one (passages.Dropped by) (passages.NoOwner by') x y = absurd (let same : routeds.Dropped by ≡ routeds.NoOwner by' = sym x ∙ y in cc)
  passes_one (passages.Dropped by) (passages.Send by' net host f) x y = absurd (let same : routeds.Dropped by ≡ routeds.To by' net host = sym x ∙ y.0 in cc)
  passes_one (passages.Dropped by) (passages.Hops by') x y = absurd (let same : routeds.Dropped by ≡ routeds.To by' y.0 y.1 = sym x ∙ y.2 in cc)
  passes_one (passages.NoOwner by) (passages.Dropped by') x y = absurd (let same : routeds.NoOwner by ≡ routeds.Dropped by' = sym x ∙ y in cc)
  passes_one (passages.NoOwner by) (passages.Send by' net host f) x y = absurd (let same : routeds.NoOwner by ≡ routeds.To by' net host = sym x ∙ y.0 in cc)
  passes_one (passages.NoOwner by) (passages.Hops by') x y = absurd (let same : routeds.NoOwner by ≡ routeds.To by' y.0 y.1 = sym x ∙ y.2 in cc)
  passes_one (passages.Send by net host e) (passages.Dropped by') x y = absurd (let same : routeds.To by net host ≡ routeds.Dropped by' = sym x.0 ∙ y in cc)
  passes_one (passages.Send by net host e) (passages.NoOwner by') x y = absurd (let same : routeds.To by net host ≡ routeds.NoOwner by' = sym x.0 ∙ y in cc)
  passes_one (passages.Send by net host e) (passages.Hops by') x y =
      let same : routeds.To by net host ≡ routeds.To by' y.0 y.1 = sym x.0 ∙ y.2 in
      let to : host ≡ y.1 = cc in
      absurd (x.1 (sends_one plan s i (endpoints.Host y.1) e Hops (subst (λ h. Sends plan s i (endpoints.Host h) e) to x.2) y.3))
  passes_one (passages.Hops by) (passages.Dropped by') x y = absurd (let same : routeds.To by x.0 x.1 ≡ routeds.Dropped by' = sym x.2 ∙ y in cc)
  passes_one (passages.Hops by) (passages.NoOwner by') x y = absurd (let same : routeds.To by x.0 x.1 ≡ routeds.NoOwner by' = sym x.2 ∙ y in cc)
  passes_one (passages.Hops by) (passages.Send by' net host f) x y =
      let same : routeds.To by' net host ≡ routeds.To by x.0 x.1 = sym y.0 ∙ x.2 in
      let to : host ≡ x.1 = cc in
      absurd (y.1 (sends_one plan s i (endpoints.Host x.1) f Hops (subst (λ h. Sends plan s i (endpoints.Host h) f) to y.2) x.3))

module _ (plan : Plan) (s : State) (i : ℕ) (said : Located) where
  pub goes_one : (b b' : Return) → GoesBack plan s i said b → GoesBack plan s i said b' → b ≡ b'
  goes_one returns.NoOwner returns.NoOwner x y = refl
  goes_one (returns.Send host e) (returns.Send host' f) x y =
      let same : locateds.To host ≡ locateds.To host' = sym x.0 ∙ y.0 in
      let to : host ≡ host' = cc in
      let end : e ≡ f = sends_one plan s i (endpoints.Host host') e f (subst (λ h. Sends plan s i (endpoints.Host h) e) to x.2) y.2 in
      cc
  goes_one returns.Hops returns.Hops x y = refl
  goes_one returns.NoOwner (returns.Send host f) x y = absurd (let same : locateds.NoOwner ≡ locateds.To host = sym x ∙ y.0 in cc)
  goes_one returns.NoOwner returns.Hops x y = absurd (let same : locateds.NoOwner ≡ locateds.To y.0 = sym x ∙ y.1 in cc)
  goes_one (returns.Send host e) returns.NoOwner x y = absurd (let same : locateds.To host ≡ locateds.NoOwner = sym x.0 ∙ y in cc)
  goes_one (returns.Send host e) returns.Hops x y =
      let same : locateds.To host ≡ locateds.To y.0 = sym x.0 ∙ y.1 in
      let to : host ≡ y.0 = cc in
      absurd (x.1 (sends_one plan s i (endpoints.Host y.0) e Hops (subst (λ h. Sends plan s i (endpoints.Host h) e) to x.2) y.2))
  goes_one returns.Hops returns.NoOwner x y = absurd (let same : locateds.To x.0 ≡ locateds.NoOwner = sym x.1 ∙ y in cc)
  goes_one returns.Hops (returns.Send host f) x y =
      let same : locateds.To host ≡ locateds.To x.0 = sym y.0 ∙ x.1 in
      let to : host ≡ x.0 = cc in
      absurd (y.1 (sends_one plan s i (endpoints.Host x.0) f Hops (subst (λ h. Sends plan s i (endpoints.Host h) f) to y.2) x.2))

-- ---- what becomes of a packet at a host, by the owner's port

-- a port, and an arrival, by number
abbrev port_kind : Port → ℕ
port_kind port_states.Running = 1
port_kind port_states.Paused = 2
port_kind port_states.Arriving = 2
port_kind (port_states.Hairpin host entry) = 3
port_kind port_states.Absent = 4

abbrev arrival_kind : Arrival → ℕ
arrival_kind arrivals.NoOwner = 0
arrival_kind (arrivals.Running vm by pass) = 1
arrival_kind (arrivals.Blackout vm) = 2
arrival_kind (arrivals.Hairpin vm host end) = 3
arrival_kind (arrivals.Absent vm gateway end) = 4

owns_one : (said : Landing) (vm vm' : ℕ) → Owns said vm → Owns said vm' → vm ≡ vm'
owns_one said vm vm' x y = let same : landings.Owned vm x.0 x.1 ≡ landings.Owned vm' y.0 y.1 = sym x.2 ∙ y.2 in cc

no_owner : (said : Landing) (vm : ℕ) → said ≡ landings.NoOwner → Owns said vm → ⊥
no_owner said vm none x = absurd (let same : landings.NoOwner ≡ landings.Owned vm x.0 x.1 = sym none ∙ x.2 in cc)

module _ (plan : Plan) (s : State) (here i : ℕ) (said : Landing) where
  -- the owner, and the kind of its port
  record Lands (r : Arrival) : Type 0 where
    pub vm : ℕ
    pub owns : Owns said vm
    pub port : port_kind (port_at s.ports here vm) ≡ arrival_kind r

  abbrev IsOwned : Arrival → Type 0
  IsOwned arrivals.NoOwner = ⊥
  IsOwned _ = Unit {0}

  lands : (r : Arrival) → IsOwned r → Arrives plan s here i said r → Lands r
  lands arrivals.NoOwner o x = absurd o
  lands (arrivals.Running vm by pass) o x = record { vm = vm; owns = (by, pass, x.0); port = ap port_kind x.1 }
  lands (arrivals.Blackout vm) o x =
      record {
        vm = vm;
        owns = x.0;
        port = ⊎_elim (λ (p : port_at s.ports here vm ≡ port_states.Paused). ap port_kind p) (λ (p : port_at s.ports here vm ≡ port_states.Arriving). ap port_kind p) x.1;
      }
  lands (arrivals.Hairpin vm host end) o x = record { vm = vm; owns = x.0; port = ap port_kind x.1.1 }
  lands (arrivals.Absent vm gateway end) o x = record { vm = vm; owns = x.0; port = ap port_kind x.1 }

  same_kind_of : (r r' : Arrival) → Lands r → Lands r' → arrival_kind r ≡ arrival_kind r'
  same_kind_of r r' x y =
      let one : x.vm ≡ y.vm = owns_one said x.vm y.vm x.owns y.owns in
      sym x.port ∙ ap (λ v. port_kind (port_at s.ports here v)) one ∙ y.port

  other_kind : (r r' : Arrival) → IsOwned r → IsOwned r' → (arrival_kind r ≡ arrival_kind r' → ⊥) → Arrives plan s here i said r → Arrives plan s here i said r' → r ≡ r'
  other_kind r r' o o' differ x y = absurd (differ (same_kind_of r r' (lands r o x) (lands r' o' y)))

  none_owned : (r : Arrival) → IsOwned r → said ≡ landings.NoOwner → Arrives plan s here i said r → ⊥
  none_owned r o none x = let l = lands r o x in no_owner said l.vm none l.owns

  pub arrives_one : (r r' : Arrival) → Arrives plan s here i said r → Arrives plan s here i said r' → r ≡ r'
  arrives_one arrivals.NoOwner arrivals.NoOwner x y = refl
  arrives_one (arrivals.Running vm by pass) (arrivals.Running vm' by' pass') x y =
      let same : landings.Owned vm by pass ≡ landings.Owned vm' by' pass' = sym x.0 ∙ y.0 in cc
  arrives_one (arrivals.Blackout vm) (arrivals.Blackout vm') x y = ap arrivals.Blackout (owns_one said vm vm' x.0 y.0)
  arrives_one (arrivals.Hairpin vm host e) (arrivals.Hairpin vm' host' f) x y =
      let one : vm ≡ vm' = owns_one said vm vm' x.0 y.0 in
      let port : port_states.Hairpin host x.1.0 ≡ port_states.Hairpin host' y.1.0 = sym x.1.1 ∙ ap (port_at s.ports here) one ∙ y.1.1 in
      let to : host ≡ host' = cc in
      let end : e ≡ f = sends_one plan s i (endpoints.Host host') e f (subst (λ h. Sends plan s i (endpoints.Host h) e) to x.2) y.2 in
      cc
  arrives_one (arrivals.Absent vm g e) (arrivals.Absent vm' g' f) x y =
      let one : vm ≡ vm' = owns_one said vm vm' x.0 y.0 in
      let to : g ≡ g' = x.2 ∙ sym y.2 in
      let end : e ≡ f = sends_one plan s i (endpoints.Redirect g') e f (subst (λ h. Sends plan s i (endpoints.Redirect h) e) to x.3) y.3 in
      cc
  arrives_one arrivals.NoOwner (arrivals.Running vm' by' pass') x y = absurd (none_owned (arrivals.Running vm' by' pass') tt x y)
  arrives_one (arrivals.Running vm by pass) arrivals.NoOwner x y = absurd (none_owned (arrivals.Running vm by pass) tt y x)
  arrives_one arrivals.NoOwner (arrivals.Blackout vm') x y = absurd (none_owned (arrivals.Blackout vm') tt x y)
  arrives_one (arrivals.Blackout vm) arrivals.NoOwner x y = absurd (none_owned (arrivals.Blackout vm) tt y x)
  arrives_one arrivals.NoOwner (arrivals.Hairpin vm' host' e') x y = absurd (none_owned (arrivals.Hairpin vm' host' e') tt x y)
  arrives_one (arrivals.Hairpin vm host e) arrivals.NoOwner x y = absurd (none_owned (arrivals.Hairpin vm host e) tt y x)
  arrives_one arrivals.NoOwner (arrivals.Absent vm' g' e') x y = absurd (none_owned (arrivals.Absent vm' g' e') tt x y)
  arrives_one (arrivals.Absent vm g e) arrivals.NoOwner x y = absurd (none_owned (arrivals.Absent vm g e) tt y x)
  arrives_one (arrivals.Running vm by pass) (arrivals.Blackout vm') x y = other_kind (arrivals.Running vm by pass) (arrivals.Blackout vm') tt tt (λ n. absurd (omega (arith, n))) x y
  arrives_one (arrivals.Running vm by pass) (arrivals.Hairpin vm' host' e') x y = other_kind (arrivals.Running vm by pass) (arrivals.Hairpin vm' host' e') tt tt (λ n. absurd (omega (arith, n))) x y
  arrives_one (arrivals.Running vm by pass) (arrivals.Absent vm' g' e') x y = other_kind (arrivals.Running vm by pass) (arrivals.Absent vm' g' e') tt tt (λ n. absurd (omega (arith, n))) x y
  arrives_one (arrivals.Blackout vm) (arrivals.Running vm' by' pass') x y = other_kind (arrivals.Blackout vm) (arrivals.Running vm' by' pass') tt tt (λ n. absurd (omega (arith, n))) x y
  arrives_one (arrivals.Blackout vm) (arrivals.Hairpin vm' host' e') x y = other_kind (arrivals.Blackout vm) (arrivals.Hairpin vm' host' e') tt tt (λ n. absurd (omega (arith, n))) x y
  arrives_one (arrivals.Blackout vm) (arrivals.Absent vm' g' e') x y = other_kind (arrivals.Blackout vm) (arrivals.Absent vm' g' e') tt tt (λ n. absurd (omega (arith, n))) x y
  arrives_one (arrivals.Hairpin vm host e) (arrivals.Running vm' by' pass') x y = other_kind (arrivals.Hairpin vm host e) (arrivals.Running vm' by' pass') tt tt (λ n. absurd (omega (arith, n))) x y
  arrives_one (arrivals.Hairpin vm host e) (arrivals.Blackout vm') x y = other_kind (arrivals.Hairpin vm host e) (arrivals.Blackout vm') tt tt (λ n. absurd (omega (arith, n))) x y
  arrives_one (arrivals.Hairpin vm host e) (arrivals.Absent vm' g' e') x y = other_kind (arrivals.Hairpin vm host e) (arrivals.Absent vm' g' e') tt tt (λ n. absurd (omega (arith, n))) x y
  arrives_one (arrivals.Absent vm g e) (arrivals.Running vm' by' pass') x y = other_kind (arrivals.Absent vm g e) (arrivals.Running vm' by' pass') tt tt (λ n. absurd (omega (arith, n))) x y
  arrives_one (arrivals.Absent vm g e) (arrivals.Blackout vm') x y = other_kind (arrivals.Absent vm g e) (arrivals.Blackout vm') tt tt (λ n. absurd (omega (arith, n))) x y
  arrives_one (arrivals.Absent vm g e) (arrivals.Hairpin vm' host' e') x y = other_kind (arrivals.Absent vm g e) (arrivals.Hairpin vm' host' e') tt tt (λ n. absurd (omega (arith, n))) x y
