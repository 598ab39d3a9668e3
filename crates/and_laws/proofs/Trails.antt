-- What each decision adds to what is known of its packet.
use Rattle.std.proofs.Common.{◌≡◌, ℕ, ◌+◌, ◌==◌, Bool, List, ◌∷◌, refl, ap, ◌∙◌, subst, arith, inl, inr}
use Rattle.std.specs.Prelude.{if◌then◌else◌}
use Rattle.std.proofs.lemmas.Grind.{common_steps}
use Rattle.and_policy.specs.declared.decision.Name.{Name}
use Rattle.and_policy.specs.declared.decision.Way.{Way}
use Rattle.and_policy.specs.declared.decision.Dest.{Dest}
use Rattle.and_policy.specs.declared.decision.Dest.TheVariants.{Offload, Hover}
use Rattle.and_policy.specs.declared.decision.Exit.{Exit}
use Rattle.and_policy.specs.declared.decision.Exit.TheVariants as exits
use Rattle.and_policy.specs.declared.decision.Leaving.{Leaving}
use Rattle.and_policy.specs.declared.decision.Leaving.TheVariants as leavings
use Rattle.and_policy.specs.declared.decision.Routed.TheVariants as routeds
use Rattle.and_policy.specs.Owners.{routed}
use Rattle.and_policy.specs.Programmes.{leaving, leaving_by}
use Rattle.and_events.specs.declared.event.Actor.{Actor}
use Rattle.and_events.specs.declared.event.Actor.TheVariants.{HostInstall, GateInstall, Worker, Coproc, Gateway, Controller, Driver}
use Rattle.and_events.specs.declared.event.Node.TheVariants as nodes
use Rattle.and_events.specs.declared.event.Endpoint.{Endpoint}
use Rattle.and_events.specs.declared.event.Endpoint.TheVariants as endpoints
use Rattle.and_events.specs.declared.event.End.{End}
use Rattle.and_events.specs.declared.event.Departure.{Departure}
use Rattle.and_events.specs.declared.event.Departure.TheVariants.{Allowed}
use Rattle.and_events.specs.declared.event.Passage.{Passage}
use Rattle.and_events.specs.declared.event.Passage.TheVariants as passages
use Rattle.and_events.specs.declared.event.Return.{Return}
use Rattle.and_events.specs.declared.event.Arrival.{Arrival}
use Rattle.and_events.specs.declared.event.Event.{Event}
use Rattle.and_events.specs.declared.event.Event.TheVariants.{Egress, Sealed, Route, Redirect, Ingress}
use Rattle.and_events.specs.declared.plan.Plan.{Plan}
use Rattle.and_events.specs.Places.{node_of, IsWorker}
use Rattle.and_events.specs.State.{state, source_net, packet_at, tuple_at, programme_of, dest_endpoint, dest_net, node_at}
use Rattle.and_events.specs.Legal.{entries_at, IsRouteTarget, IsRedirectTarget}
use Rattle.and_events.specs.Run.{injections, injected_by}
use Rattle.and_events.specs.Just.{egresses, passages_of, address, LeftBy, LedTo}
use Rattle.and_laws.specs.Stages.{IsUndecided, IsForRoute, LedAs}
use Rattle.and_laws.specs.Offloads.{LeadsRight}
use Rattle.and_laws.proofs.Stages.{IsAside, About}

if_same : {A : Type 0} (i : ℕ) (x y : A) → (if i == i then x else y) ≡ x
if_same i x y = grind (arith, common_steps)

if_other : {A : Type 0} (j i : ℕ) (x y : A) → (j ≡ i → ⊥) → (if j == i then x else y) ≡ y
if_other j i x y n = grind (arith, common_steps)

none_more : (n : ℕ) → 0 + n ≡ n
none_more n = omega arith

-- ---- decisions about one packet leave the others alone

pub about_egress : (plan : Plan) (h : List Event) (a : Actor) (j at : ℕ) (way : Way) (d : Departure) → About plan h (Egress a j at way d) j
unfolding egresses passages_of injections injected_by
about_egress plan h a j at way d =
    record {
      others = λ i n. record {
        left = if_other j i (record { behind = entries_at plan (state plan h) a at; said = d } ∷ egresses plan h i) (egresses plan h i) n;
        routed = refl;
      };
      injected = λ i. none_more (injections h i);
    }

pub about_route : (plan : Plan) (h : List Event) (a : Actor) (j at : ℕ) (p : Passage) → About plan h (Route a j at p) j
unfolding egresses passages_of injections injected_by
about_route plan h a j at p =
    record {
      others = λ i n. record {
        left = refl;
        routed = if_other j i (record { behind = entries_at plan (state plan h) a at; said = p } ∷ passages_of plan h i) (passages_of plan h i) n;
      };
      injected = λ i. none_more (injections h i);
    }

-- the other events of a packet decide nothing that counts
pub sealed_aside : (plan : Plan) (h : List Event) (a : Actor) (j : ℕ) (end : End) (i : ℕ) → IsAside plan h (Sealed a j end) i
unfolding egresses passages_of
sealed_aside plan h a j end i = record { left = refl; routed = refl }

pub redirect_aside : (plan : Plan) (h : List Event) (a : Actor) (j at : ℕ) (b : Return) (i : ℕ) → IsAside plan h (Redirect a j at b) i
unfolding egresses passages_of
redirect_aside plan h a j at b i = record { left = refl; routed = refl }

pub ingress_aside : (plan : Plan) (h : List Event) (a : Actor) (j at : ℕ) (way : Way) (r : Arrival) (i : ℕ) → IsAside plan h (Ingress a j at way r) i
unfolding egresses passages_of
ingress_aside plan h a j at way r i = record { left = refl; routed = refl }

pub about_sealed : (plan : Plan) (h : List Event) (a : Actor) (j : ℕ) (end : End) → About plan h (Sealed a j end) j
unfolding injections injected_by
about_sealed plan h a j end = record { others = λ i n. sealed_aside plan h a j end i; injected = λ i. none_more (injections h i) }

pub about_redirect : (plan : Plan) (h : List Event) (a : Actor) (j at : ℕ) (b : Return) → About plan h (Redirect a j at b) j
unfolding injections injected_by
about_redirect plan h a j at b = record { others = λ i n. redirect_aside plan h a j at b i; injected = λ i. none_more (injections h i) }

pub about_ingress : (plan : Plan) (h : List Event) (a : Actor) (j at : ℕ) (way : Way) (r : Arrival) → About plan h (Ingress a j at way r) j
unfolding injections injected_by
about_ingress plan h a j at way r = record { others = λ i n. ingress_aside plan h a j at way r i; injected = λ i. none_more (injections h i) }

-- ---- what `leaving` says is what `egress` says

pub no_vm_by : (x : Exit) (d : Dest) → leaving_by x d ≡ leavings.NoVm → x ≡ exits.NoVm
no_vm_by exits.NoVm d e = refl
no_vm_by exits.Spoofed d e = cc
no_vm_by (exits.Denied n) d e = cc
no_vm_by (exits.Allowed by sealed) d e = cc

pub spoofed_by : (x : Exit) (d : Dest) → leaving_by x d ≡ leavings.Spoofed → x ≡ exits.Spoofed
spoofed_by exits.NoVm d e = cc
spoofed_by exits.Spoofed d e = refl
spoofed_by (exits.Denied n) d e = cc
spoofed_by (exits.Allowed by sealed) d e = cc

pub denied_by : (x : Exit) (d : Dest) (n : ℕ) → leaving_by x d ≡ leavings.Denied n → x ≡ exits.Denied n
denied_by exits.NoVm d n e = cc
denied_by exits.Spoofed d n e = cc
denied_by (exits.Denied m) d n e = cc
denied_by (exits.Allowed by sealed) d n e = cc

pub allowed_by : (x : Exit) (d dest : Dest) (by : Name) (sealed : Bool) → leaving_by x d ≡ leavings.Allowed by sealed dest → x ≡ exits.Allowed by sealed
allowed_by exits.NoVm d dest by sealed e = cc
allowed_by exits.Spoofed d dest by sealed e = cc
allowed_by (exits.Denied m) d dest by sealed e = cc
allowed_by (exits.Allowed b s) d dest by sealed e = cc

-- ---- what leads on

-- what the node's programme says of a packet that leaves its VM
abbrev pub said_of : Plan → List Event → Actor → ℕ → ℕ → Leaving
said_of plan h a i at = leaving plan.settings.gateways (programme_of plan (state plan h) (node_of a)) at (packet_at plan i).vm (tuple_at plan i)

module _ (plan : Plan) (h : List Event) (a : Actor) (i at : ℕ) (way : Way) (by : Name) (sealed : Bool) (end : End) (u : IsUndecided plan h i) where
  left_now : (dest : Dest) → said_of plan h a i at ≡ leavings.Allowed by sealed dest → LeftBy plan (Egress a i at way (Allowed by sealed dest end) ∷ h) i dest
  unfolding egresses
  left_now dest said =
      record {
        behind = entries_at plan (state plan h) a at;
        by = by;
        sealed = sealed;
        end = end;
        once =
            if_same i (record { behind = entries_at plan (state plan h) a at; said = Allowed by sealed dest end } ∷ egresses plan h i) (egresses plan h i)
            ∙ ap (λ older. record { behind = entries_at plan (state plan h) a at; said = Allowed by sealed dest end } ∷ older) u.unleft;
        allows = allowed_by _ _ dest by sealed said;
      }

  -- after its Egress a packet is on its way to a gateway, or where the route leads
  pub egress_led : (dest : Dest) → said_of plan h a i at ≡ leavings.Allowed by sealed dest → LeadsRight plan h (Egress a i at way (Allowed by sealed dest end)) → LedAs plan (Egress a i at way (Allowed by sealed dest end) ∷ h) i (dest_net (source_net plan i) dest) (dest_endpoint dest)
  unfolding left_now passages_of
  egress_led (Hover g) said right = record { own = refl; gateway = g; left = left_now (Hover g) said; unrouted = u.unrouted }
  egress_led (Offload host net) said right =
      inl (record { host = host; by = right.0; left = left_now (Offload host net) said; routes = right.1 })

-- after its Route a packet is where the route leads
pub route_led : (plan : Plan) (h : List Event) (a : Actor) (i at from : ℕ) (by : Name) (net host : ℕ) (end : End) → IsForRoute plan h i from → routed (entries_at plan (state plan h) a at) from (address plan i) ≡ routeds.To by net host → LedTo plan (Route a i at (passages.Send by net host end) ∷ h) i net
unfolding egresses passages_of
route_led plan h a i at from by net host end f said =
    let entries = entries_at plan (state plan h) a at in
    inr (record {
      gateway = f.gateway;
      left = record { behind = f.left.behind; by = f.left.by; sealed = f.left.sealed; end = f.left.end; once = f.left.once; allows = f.left.allows };
      behind = entries;
      by = by;
      host = host;
      end = end;
      once =
          if_same i (record { behind = entries; said = passages.Send by net host end } ∷ passages_of plan h i) (passages_of plan h i)
          ∙ ap (λ older. record { behind = entries; said = passages.Send by net host end } ∷ older) f.unrouted;
      routes = subst (λ n. routed entries n (address plan i) ≡ routeds.To by net host) f.own said;
    })

-- ---- what is known where a decision is made

pub at_route : (plan : Plan) (h : List Event) (i net : ℕ) (target : Endpoint) → IsRouteTarget target → LedAs plan h i net target → IsForRoute plan h i net
at_route plan h i net (endpoints.Route g) is led = led
at_route plan h i net (endpoints.Host host) is led = absurd is
at_route plan h i net (endpoints.Redirect g) is led = absurd is

pub at_redirect : (plan : Plan) (h : List Event) (i net : ℕ) (target : Endpoint) → IsRedirectTarget target → LedAs plan h i net target → LedTo plan h i net
at_redirect plan h i net (endpoints.Redirect g) is led = led
at_redirect plan h i net (endpoints.Host host) is led = absurd is
at_redirect plan h i net (endpoints.Route g) is led = absurd is

no_gate : (a : Actor) (g : ℕ) → IsWorker a → nodes.Gate g ≡ node_of a → ⊥
no_gate (Worker h w) g is e = cc
no_gate (HostInstall h) g is e = absurd is
no_gate (GateInstall k) g is e = absurd is
no_gate (Coproc h) g is e = absurd is
no_gate (Gateway k) g is e = absurd is
no_gate Controller g is e = absurd is
no_gate Driver g is e = absurd is

pub at_host : (plan : Plan) (h : List Event) (i net : ℕ) (target : Endpoint) (a : Actor) → IsWorker a → node_at target ≡ node_of a → LedAs plan h i net target → LedTo plan h i net
at_host plan h i net (endpoints.Host host) a is here led = led
at_host plan h i net (endpoints.Redirect g) a is here led = led
at_host plan h i net (endpoints.Route g) a is here led = absurd (no_gate a g is here)
