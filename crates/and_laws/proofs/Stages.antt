-- What an event leaves as it was of the decisions about a packet, and of where it is.
use Rattle.std.proofs.Common.{◌≡◌, ℕ, ◌<◌, ◌≤◌, List, ◌∷◌, length, sym, ◌∙◌, subst, Some, ⊎_elim, inl, inr}
use Rattle.and_policy.specs.declared.decision.Dest.{Dest}
use Rattle.and_policy.specs.declared.decision.Dest.TheVariants.{Offload, Hover}
use Rattle.and_events.specs.declared.event.Actor.{Actor}
use Rattle.and_events.specs.declared.event.Event.{Event}
use Rattle.and_events.specs.declared.event.Held.{Held}
use Rattle.and_events.specs.declared.event.Carried.{Carried}
use Rattle.and_events.specs.declared.event.Node.{Node}
use Rattle.and_events.specs.declared.event.Endpoint.{Endpoint}
use Rattle.and_events.specs.declared.event.Endpoint.TheVariants as endpoints
use Rattle.and_events.specs.declared.event.Queue.{Queue}
use Rattle.and_events.specs.declared.event.Queue.TheVariants.{Out, Wire, Seal}
use Rattle.and_events.specs.declared.plan.Plan.{Plan}
use Rattle.and_events.specs.Places.{hand_place, node_of}
use Rattle.and_events.specs.Flow.{hand_at, placed}
use Rattle.and_events.specs.State.{state, carried_at}
use Rattle.and_events.specs.Run.{injections}
use Rattle.and_events.specs.Just.{egresses, passages_of, LeftBy, OffloadedTo, RoutedTo, LedTo}
use Rattle.and_laws.specs.Stages.{IsUndecided, LedAs, StageOf, StageAt}

-- ---- what an event does not change

-- the event is no decision about the packet
pub record IsAside (plan : Plan) (h : List Event) (e : Event) (i : ℕ) : Type 0 where
  pub left : egresses plan (e ∷ h) i ≡ egresses plan h i
  pub routed : passages_of plan (e ∷ h) i ≡ passages_of plan h i

-- the event decides of no other packet, and injects none
pub record About (plan : Plan) (h : List Event) (e : Event) (j : ℕ) : Type 0 where
  pub others : (i : ℕ) → (j ≡ i → ⊥) → IsAside plan h e i
  pub injected : (i : ℕ) → injections (e ∷ h) i ≡ injections h i

module _ (plan : Plan) (h : List Event) (e : Event) (i : ℕ) (aside : IsAside plan h e i) where
  pub undecided_kept : IsUndecided plan h i → IsUndecided plan (e ∷ h) i
  undecided_kept u = record { unleft = aside.left ∙ u.unleft; unrouted = aside.routed ∙ u.unrouted }

  pub left_kept : (dest : Dest) → LeftBy plan h i dest → LeftBy plan (e ∷ h) i dest
  left_kept dest l = record { behind = l.behind; by = l.by; sealed = l.sealed; end = l.end; once = aside.left ∙ l.once; allows = l.allows }

  pub led_kept : (net : ℕ) → LedTo plan h i net → LedTo plan (e ∷ h) i net
  unfolding left_kept
  led_kept net led =
      ⊎_elim
      (λ (o : OffloadedTo plan h i net). inl (record { host = o.host; by = o.by; left = left_kept (Offload o.host net) o.left; routes = o.routes }))
      (λ (r : RoutedTo plan h i net).
      inr (record {
        gateway = r.gateway;
        left = left_kept (Hover r.gateway) r.left;
        behind = r.behind;
        by = r.by;
        host = r.host;
        end = r.end;
        once = aside.routed ∙ r.once;
        routes = r.routes;
      }))
      led

  pub led_as_kept : (net : ℕ) (target : Endpoint) → LedAs plan h i net target → LedAs plan (e ∷ h) i net target
  led_as_kept net (endpoints.Route g) led =
      record { own = led.own; gateway = led.gateway; left = left_kept (Hover led.gateway) led.left; unrouted = aside.routed ∙ led.unrouted }
  led_as_kept net (endpoints.Host host) led = led_kept net led
  led_as_kept net (endpoints.Redirect g) led = led_kept net led

  stage_kept : (c : Carried) (q : Queue) (node : Node) → StageOf plan h i c q node → StageOf plan (e ∷ h) i c q node
  stage_kept c Out node st = (undecided_kept st.0, st.1)
  stage_kept c Wire node st = (led_as_kept c.net c.target st.0, st.1)
  stage_kept c Seal node st = (led_as_kept c.net c.target st.0, st.1)

  pub stage_same : carried_at (state plan (e ∷ h)) i ≡ carried_at (state plan h) i → (q : Queue) (node : Node) → StageAt plan h i q node → StageAt plan (e ∷ h) i q node
  stage_same same q node st = subst (λ c. StageOf plan (e ∷ h) i c q node) (sym same) (stage_kept (carried_at (state plan h) i) q node st)

-- ---- an actor lets go what it has in hand

-- what is known of a packet in hand: it has one place, was injected, and is one of the plan's
pub record Holder (plan : Plan) (h : List Event) (a : Actor) (i : ℕ) (q : Queue) : Type 0 where
  pub held : Held
  pub has : hand_at (state plan h).flow.hands (hand_place plan.settings a) ≡ Some held
  pub is : held.packet ≡ i
  pub one : placed i (state plan h).flow ≤ 1
  pub born : injections h i ≡ 0 → ⊥
  pub known : i < length (state plan h).flow.carried
  pub stage : StageAt plan h i q (node_of a)
