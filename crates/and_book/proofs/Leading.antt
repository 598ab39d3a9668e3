-- Where the policy's words lead in a plan.
use Rattle.std.proofs.Common.{◌≡◌, ℕ, zero, suc, ◌<◌, ◌≤◌, ◌^◌, ◌==◌, ◌&&◌, true, false, List, [], ◌∷◌, take, refl, sym, subst, arith, Option, Some, None}
use Rattle.std.specs.Prelude.{if◌then◌else◌, option_map}
use Rattle.std.specs.List.{All, find, list_any}
use Rattle.std.proofs.lemmas.Bool.{eqb-true, and_parts}
use Rattle.std.proofs.lemmas.List.Elements.{All-nil, All-cons, All-head, All-tail}
use Rattle.and_policy.specs.declared.decision.GateDecision.{GateDecision}
use Rattle.and_policy.specs.declared.decision.GateDecision.TheVariants as decisions
use Rattle.and_policy.specs.declared.decision.Name.{Name}
use Rattle.and_policy.specs.declared.decision.Routing.{Routing}
use Rattle.and_policy.specs.declared.decision.Routing.TheVariants as routings
use Rattle.and_policy.specs.declared.entry.Entry.{Entry}
use Rattle.and_policy.specs.declared.entry.Entry.TheVariants as entry_kinds
use Rattle.and_policy.specs.declared.entry.Op.{Op}
use Rattle.and_policy.specs.declared.entry.Op.TheVariants as ops
use Rattle.and_policy.specs.Logs.{Vm, vms, removes}
use Rattle.and_policy.specs.Owners.{place, host_by, or_else, owner, owner_place, routed_at, routed_by, located_at}
use Rattle.and_policy.specs.Programmes.{entries}
use Rattle.and_policy.specs.Routes.{route}
use Rattle.and_events.specs.declared.event.Actor.{Actor}
use Rattle.and_events.specs.declared.event.Event.{Event}
use Rattle.and_events.specs.declared.plan.Plan.{Plan}
use Rattle.and_events.specs.Places.{node_of, IsNode}
use Rattle.and_events.specs.State.{State, state, programme_of}
use Rattle.and_events.specs.Legal.{entries_at}
use Rattle.and_events.specs.Run.{Run}
use Rattle.and_events.specs.Sound.{IsSound}
use Rattle.and_laws.proofs.Programmed.{programmed}
use Rattle.and_kept.specs.Settling.{LeadsRouted, LeadsLocated, LeadsGate}
use Rattle.and_book.specs.Settling.{IsGateDecision}
use Rattle.and_book.proofs.Known.{IsKnown, known_log}

-- ---- places

host_known : (plan : Plan) (e : Entry) (vm host : ℕ) → IsKnown plan e → host_by vm e ≡ Some host → host < plan.settings.hosts
host_known plan (entry_kinds.AddVm v net mac ip h) vm host known is = grind (arith, known.2)
host_known plan (entry_kinds.AddNet net) vm host known is = absurd (cc)
host_known plan (entry_kinds.AddRule net rule) vm host known is = absurd (cc)
host_known plan (entry_kinds.RemoveVm v) vm host known is = absurd (cc)
host_known plan (entry_kinds.Place v h) vm host known is = grind (arith, known)
host_known plan (entry_kinds.DelRule net number) vm host known is = absurd (cc)
host_known plan (entry_kinds.AddRoute net r) vm host known is = absurd (cc)
host_known plan (entry_kinds.DelRoute net number) vm host known is = absurd (cc)
host_known plan entry_kinds.Tick vm host known is = absurd (cc)

either : (a b : Option ℕ) (host : ℕ) (P : Type 0) → (a ≡ Some host → P) → (b ≡ Some host → P) → or_else a b ≡ Some host → P
either (Some x) b host P f g e = f e
either None b host P f g e = g e

pub place_known : (plan : Plan) (k : List Entry) (vm host : ℕ) → All (IsKnown plan) k → place k vm ≡ Some host → host < plan.settings.hosts
place_known plan [] vm host known is = absurd (cc)
place_known plan (e ∷ later) vm host known is =
    either (place later vm) (host_by vm e) host (host < plan.settings.hosts)
    (place_known plan later vm host (All-tail (IsKnown plan) e later known))
    (host_known plan e vm host (All-head (IsKnown plan) e later known)) is

owner_known : (plan : Plan) (k : List Entry) (net address host : ℕ) → All (IsKnown plan) k → owner_place k net address ≡ Some host → host < plan.settings.hosts
owner_known plan k net address host known is =
    elim (owner k net address) as (λ o. (owner k net address ≡ o → host < plan.settings.hosts)) [
      | None ↦ λ e. absurd (cc (rw e at is))
      | Some vm ↦ λ e. place_known plan k vm host known (rw e at is)
    ] refl

-- ---- networks

fits_entry : (plan : Plan) (e : Entry) (later : List Entry) → IsKnown plan e → All (λ (v : Vm). v.net ≤ 16777215) (vms later) → All (λ (v : Vm). v.net ≤ 16777215) (vms (e ∷ later))
fits_entry plan (entry_kinds.AddVm v net mac ip h) later known fit =
    let it : Vm = record { number = v; net = net; mac = mac; ip = ip; host = h } in
    elim (list_any (removes v) later) as (λ b. All (λ (x : Vm). x.net ≤ 16777215) (if b then vms later else it ∷ vms later)) [
      | true ↦ fit
      | false ↦ All-cons (λ (x : Vm). x.net ≤ 16777215) it (vms later) known.1 fit
    ]
fits_entry plan (entry_kinds.AddNet net) later known fit = fit
fits_entry plan (entry_kinds.AddRule net rule) later known fit = fit
fits_entry plan (entry_kinds.RemoveVm v) later known fit = fit
fits_entry plan (entry_kinds.Place v h) later known fit = fit
fits_entry plan (entry_kinds.DelRule net number) later known fit = fit
fits_entry plan (entry_kinds.AddRoute net r) later known fit = fit
fits_entry plan (entry_kinds.DelRoute net number) later known fit = fit
fits_entry plan entry_kinds.Tick later known fit = fit

vms_fit : (plan : Plan) (k : List Entry) → All (IsKnown plan) k → All (λ (v : Vm). v.net ≤ 16777215) (vms k)
vms_fit plan [] known = All-nil (λ (v : Vm). v.net ≤ 16777215)
vms_fit plan (e ∷ later) known = fits_entry plan e later (All-head (IsKnown plan) e later known) (vms_fit plan later (All-tail (IsKnown plan) e later known))

same_net : (a b c d : ℕ) → ((a == b) && (c == d)) ≡ true → a ≡ b
same_net a b c d e = eqb-true a b (and_parts (a == b) (c == d) e).0

-- the network of a VM that is found fits its 24 bits
found_fits : (xs : List Vm) (net address vm : ℕ) → All (λ (v : Vm). v.net ≤ 16777215) xs → option_map (λ (v : Vm). v.number) (find (λ (v : Vm). (v.net == net) && (v.ip == address)) xs) ≡ Some vm → net < 2 ^ 24
found_fits [] net address vm fit is = absurd (cc)
found_fits (x ∷ xs) net address vm fit is =
    elim ((x.net == net) && (x.ip == address)) as (λ b. (((x.net == net) && (x.ip == address)) ≡ b → net < 2 ^ 24)) [
      | true ↦ λ e. omega (arith, same_net x.net net x.ip address e, All-head (λ (v : Vm). v.net ≤ 16777215) x xs fit)
      | false ↦ λ e. found_fits xs net address vm (All-tail (λ (v : Vm). v.net ≤ 16777215) x xs fit) (rw e at is)
    ] refl

owner_fits : (plan : Plan) (k : List Entry) (net address host : ℕ) → All (IsKnown plan) k → owner_place k net address ≡ Some host → net < 2 ^ 24
owner_fits plan k net address host known is =
    elim (owner k net address) as (λ o. (owner k net address ≡ o → net < 2 ^ 24)) [
      | None ↦ λ e. absurd (cc (rw e at is))
      | Some vm ↦ λ e. found_fits (vms k) net address vm (vms_fit plan k known) e
    ] refl

-- ---- prefixes

taken : (P : Entry → Type 0) (p : List Op) (j : ℕ) → All P (entries p) → All P (entries (take j p))
taken P p zero all = All-nil P
taken P [] (suc j) all = All-nil P
taken P (ops.Entry e ∷ p) (suc j) all =
    All-cons P e (entries (take j p)) (All-head P e (entries p) all) (taken P p j (All-tail P e (entries p) all))
taken P (ops.Offload o ∷ p) (suc j) all = taken P p j all

-- the entries behind a decision are known
pub known_entries : (plan : Plan) (h : List Event) (a : Actor) (at : ℕ) → IsSound plan → Run plan h → IsNode plan.settings (node_of a) → All (IsKnown plan) (entries_at plan (state plan h) a at)
known_entries plan h a at sound r there =
    taken (IsKnown plan) (programme_of plan (state plan h) (node_of a)) at
    (subst (All (IsKnown plan)) (sym (programmed plan h r (node_of a) there).log) (known_log plan h sound r))

-- ---- words

leads_at : (plan : Plan) (by : Name) (net : ℕ) (o : Option ℕ) → ((host : ℕ) → o ≡ Some host → (host < plan.settings.hosts) × (net < 2 ^ 24)) → LeadsRouted plan.settings (routed_at by net o)
leads_at plan by net None known = tt
leads_at plan by net (Some host) known = known host refl

pub leads_by : (plan : Plan) (k : List Entry) (address : ℕ) (r : Routing) → All (IsKnown plan) k → LeadsRouted plan.settings (routed_by k address r)
leads_by plan k address (routings.Dropped by) known = tt
leads_by plan k address (routings.Into by net) known = leads_at plan by net (owner_place k net address) (λ host e. (owner_known plan k net address host known e, owner_fits plan k net address host known e))

leads_located : (plan : Plan) (o : Option ℕ) → ((host : ℕ) → o ≡ Some host → host < plan.settings.hosts) → LeadsLocated plan.settings (located_at o)
leads_located plan None known = tt
leads_located plan (Some host) known = known host refl

pub leads_gate : (plan : Plan) (s : State) (a : Actor) (i : ℕ) (d : GateDecision) → ((at : ℕ) → All (IsKnown plan) (entries_at plan s a at)) → IsGateDecision plan s a i d → LeadsGate plan.settings d
leads_gate plan s a i (decisions.Routed at said) known is =
    subst (LeadsRouted plan.settings) (sym is.1) (leads_by plan (entries_at plan s a at) _ (route (entries_at plan s a at) _ _) (known at))
leads_gate plan s a i (decisions.Located at said) known is =
    subst (LeadsLocated plan.settings) (sym is.1) (leads_located plan _ (λ host e. owner_known plan (entries_at plan s a at) _ _ host (known at) e))
