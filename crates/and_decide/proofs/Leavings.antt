-- Which outcomes a cache keeps, and what a decision says.
use Rattle.std.proofs.Common.{◌≡◌, ℕ, Bool, true, false, List, length, Option, Some, None, refl, sym, ap, ◌∙◌}
use Rattle.std.specs.Prelude.{if◌then◌else◌, ◌==◌, option_map, is_some}
use Rattle.std.proofs.Math.Seq.{take-length}
use Rattle.and_policy.specs.declared.decision.Dest.{Dest}
use Rattle.and_policy.specs.declared.decision.Exit.TheVariants as exits
use Rattle.and_policy.specs.declared.decision.Decision.{Decision}
use Rattle.and_policy.specs.declared.decision.Landing.{Landing}
use Rattle.and_policy.specs.declared.decision.Leaving.{Leaving}
use Rattle.and_policy.specs.declared.decision.Outcome.{Outcome}
use Rattle.and_policy.specs.declared.decision.Way.{Way}
use Rattle.and_policy.specs.declared.decision.Outcome.TheVariants as outcomes
use Rattle.and_policy.specs.declared.decision.Verdict.{Verdict}
use Rattle.and_policy.specs.declared.entry.FlowKey.{FlowKey}
use Rattle.and_policy.specs.declared.entry.Entry.{Entry}
use Rattle.and_policy.specs.declared.entry.Op.{Op}
use Rattle.and_policy.specs.declared.entry.Side.TheVariants as sides
use Rattle.and_policy.specs.declared.packet.Tuple.{Tuple}
use Rattle.and_policy.specs.Caches.{Cache, is_cached, said, way}
use Rattle.and_policy.specs.Egress.{egress, exit_by, exit_of, verdict}
use Rattle.and_policy.specs.Ingress.{landing}
use Rattle.and_policy.specs.Logs.{Vm, rules, vm_of}
use Rattle.and_policy.specs.Programmes.{entries, prefix, live, own_net, dest_by, leaving_by, leaving}
use Rattle.and_parcel.specs.Parcels.{ParcelView}
use Rattle.and_tables.specs.HostViews.{HostView}
use Rattle.and_decide.specs.Deciding.{arrival, departure, landing_key, leaving_key, tuple_of}

-- all operations
pub whole : (p : List Op) → prefix p (length p) ≡ entries p
whole p = ap entries (take-length p)

abbrev pub leaving_of : ℕ → List Op → Tuple → Option Vm → Leaving
leaving_of gateways p x o = leaving_by (exit_of (entries p) x o) (dest_by gateways x (live p (length p) (own_net o) x.destination))

pub by_vm : (gateways : ℕ) (p : List Op) (vm : ℕ) (x : Tuple) → leaving gateways p (length p) vm x ≡ leaving_of gateways p x (vm_of (entries p) vm)
by_vm gateways p vm x =
    ap (λ (k : List Entry). leaving_by (egress k vm x) (dest_by gateways x (live p (length p) (own_net (vm_of k vm)) x.destination))) (whole p)

-- ---- which outcomes a cache keeps

kept_exit : (b allow : Bool) (v : Verdict) (d : Dest) → v.allow ≡ allow → is_cached (outcomes.Leaving (leaving_by (if b then exit_by v else exits.Spoofed) d)) ≡ true
kept_exit false allow v d e = refl
kept_exit true true v d e = rw e refl
kept_exit true false v d e = rw e refl

kept_of : (gateways : ℕ) (p : List Op) (x : Tuple) (o : Option Vm) → is_cached (outcomes.Leaving (leaving_of gateways p x o)) ≡ is_some o
kept_of gateways p x None = refl
kept_of gateways p x (Some v) =
    kept_exit (x.source == v.ip) (verdict sides.Egress x (rules (entries p) v.net)).allow (verdict sides.Egress x (rules (entries p) v.net)) _ refl

some_map : (o : Option Vm) → is_some (option_map (λ v. v.net) o) ≡ is_some o
some_map None = refl
some_map (Some v) = refl

-- what leaves a VM is kept exactly where the VM is live
pub kept_leaving : (gateways : ℕ) (p : List Op) (key : FlowKey) → key.side ≡ sides.Egress
    → is_cached (said gateways p (length p) key) ≡ is_some (option_map (λ v. v.net) (vm_of (entries p) key.scope))
unfolding said
kept_leaving gateways p key e =
    rw e (ap (λ (l : Leaving). is_cached (outcomes.Leaving l)) (by_vm gateways p key.scope key.tuple) ∙ kept_of gateways p key.tuple (vm_of (entries p) key.scope) ∙ sym (some_map (vm_of (entries p) key.scope)))

pub kept_landing : (gateways : ℕ) (p : List Op) (key : FlowKey) → key.side ≡ sides.Ingress → is_cached (said gateways p (length p) key) ≡ true
unfolding said
kept_landing gateways p key e = rw e refl

-- ---- what is said of a key

pub says_leaving : (gateways : ℕ) (p : List Op) (key : FlowKey) (l : Leaving) → key.side ≡ sides.Egress → l ≡ leaving gateways p (length p) key.scope key.tuple
    → outcomes.Leaving l ≡ said gateways p (length p) key
unfolding said
says_leaving gateways p key l e is = rw e (ap (λ (x : Leaving). outcomes.Leaving x) is)

pub says_landing : (gateways : ℕ) (p : List Op) (key : FlowKey) (l : Landing) → key.side ≡ sides.Ingress → l ≡ landing (prefix p (length p)) key.scope key.tuple
    → outcomes.Landing l ≡ said gateways p (length p) key
unfolding said
says_landing gateways p key l e is = rw e (ap (λ (x : Landing). outcomes.Landing x) is)

-- ---- decisions

decision_is : (d : Decision) (at : ℕ) (w : Way) (o : Outcome) → d.at ≡ at → d.way ≡ w → d.outcome ≡ o → d ≡ record { at = at; way = w; outcome = o }
decision_is d at w o e f g = rw (sym e, sym f, sym g) refl

pub departs : (t : HostView) (c : Cache) (parcel : ParcelView) (d : Decision) (vm : ℕ) (x : Tuple) → vm ≡ parcel.vm → x ≡ tuple_of parcel → d.at ≡ length t.ops
    → d.way ≡ way t.gateways c t.ops (length t.ops) (record { side = sides.Egress; scope = vm; tuple = x })
    → d.outcome ≡ said t.gateways t.ops (length t.ops) (record { side = sides.Egress; scope = vm; tuple = x })
    → d ≡ departure t c parcel
unfolding said
departs t c parcel d vm x v y e f g =
    let key : ◌≡◌ {A = FlowKey} (record { side = sides.Egress; scope = vm; tuple = x }) (leaving_key parcel) = rw (v, y) refl in
    decision_is d (length t.ops) _ _ e (f ∙ ap (way t.gateways c t.ops (length t.ops)) key) (g ∙ ap (said t.gateways t.ops (length t.ops)) key)

pub arrives : (t : HostView) (c : Cache) (vni : ℕ) (parcel : ParcelView) (d : Decision) (x : Tuple) → x ≡ tuple_of parcel → d.at ≡ length t.ops
    → d.way ≡ way t.gateways c t.ops (length t.ops) (record { side = sides.Ingress; scope = vni; tuple = x })
    → d.outcome ≡ said t.gateways t.ops (length t.ops) (record { side = sides.Ingress; scope = vni; tuple = x })
    → d ≡ arrival t c vni parcel
unfolding said
arrives t c vni parcel d x y e f g =
    let key : ◌≡◌ {A = FlowKey} (record { side = sides.Ingress; scope = vni; tuple = x }) (landing_key vni parcel) = rw y refl in
    decision_is d (length t.ops) _ _ e (f ∙ ap (way t.gateways c t.ops (length t.ops)) key) (g ∙ ap (said t.gateways t.ops (length t.ops)) key)
