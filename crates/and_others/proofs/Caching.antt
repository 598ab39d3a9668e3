-- What an event does to the cache of a worker, and that a history goes on naming the ways of the caches.
use Rattle.std.proofs.Common.{◌≡◌, ℕ, Bool, true, false, List, ◌∷◌, Some, None, refl, sym, ap, ◌∙◌, subst}
use Rattle.std.specs.Prelude.{if◌then◌else◌, ◌==◌}
use Rattle.std.proofs.lemmas.Bool.{and_parts, eq-eqb, eqb-true, false≢true}
use Rattle.and_policy.specs.Caches.{Cache, way, decided}
use Rattle.and_events.specs.declared.event.Actor.{Actor}
use Rattle.and_events.specs.declared.event.Actor.TheVariants.{HostInstall, GateInstall, Worker, Coproc, Gateway, Controller, Driver}
use Rattle.and_events.specs.declared.event.Event.{Event}
use Rattle.and_events.specs.declared.event.Event.TheVariants.{Egress, Ingress}
use Rattle.and_events.specs.declared.event.Node.TheVariants.{Host}
use Rattle.and_events.specs.declared.plan.Plan.{Plan}
use Rattle.and_events.specs.Places.{node_of, actor_of}
use Rattle.and_events.specs.State.{state, programme_of}
use Rattle.and_others.specs.Ways.{Asked, asked, is_worker, cache_step, cache_after, cache_of, IsWay, Ways}

-- ---- caches

this_worker : (host index : ℕ) (a : Actor) → is_worker host index a ≡ true → a ≡ Worker host index
this_worker host index (Worker h w) is =
    let both = and_parts (h == host) (w == index) is in
    ap (λ n. Worker n w) (eqb-true h host both.0) ∙ ap (λ n. Worker host n) (eqb-true w index both.1)
this_worker host index (HostInstall h) is = absurd (false≢true is)
this_worker host index (GateInstall h) is = absurd (false≢true is)
this_worker host index (Coproc h) is = absurd (false≢true is)
this_worker host index (Gateway h) is = absurd (false≢true is)
this_worker host index Controller is = absurd (false≢true is)
this_worker host index Driver is = absurd (false≢true is)

itself : (host index : ℕ) → is_worker host index (Worker host index) ≡ true
itself host index = rw (eq-eqb host host refl, eq-eqb index index refl) refl

not_mine : (b : Bool) (c d : Cache) → (b ≡ true → ⊥) → (if b then d else c) ≡ c
not_mine true c d other = absurd (other refl)
not_mine false c d other = refl

mine : (b : Bool) (c d : Cache) → b ≡ true → (if b then d else c) ≡ d
mine b c d is = rw is refl

-- an event of another actor leaves the cache as it was
pub cache_lasts : (plan : Plan) (h : List Event) (e : Event) (host index : ℕ) → (actor_of e ≡ Worker host index → ⊥) → cache_after plan (e ∷ h) host index ≡ cache_after plan h host index
unfolding cache_after
cache_lasts plan h (Egress a i at w d) host index other = not_mine (is_worker host index a) _ _ (λ is. other (this_worker host index a is))
cache_lasts plan h (Ingress a i at w arrival) host index other = not_mine (is_worker host index a) _ _ (λ is. other (this_worker host index a is))
cache_lasts plan h e host index other = refl

-- an event of the worker itself that asks its cache changes it as a decision does
pub cache_own : (plan : Plan) (h : List Event) (e : Event) (host index : ℕ) (q : Asked) → asked plan (state plan h) e ≡ Some q → q.actor ≡ Worker host index
    → cache_after plan (e ∷ h) host index ≡ decided plan.settings.gateways (cache_after plan h host index) (programme_of plan (state plan h) (Host host)) q.at q.key
unfolding cache_after
cache_own plan h e host index q is own =
    ap (cache_step plan (state plan h) host index (cache_after plan h host index)) is
    ∙ mine (is_worker host index q.actor) _ _ (ap (is_worker host index) own ∙ itself host index)
    ∙ ap (λ a. decided plan.settings.gateways (cache_after plan h host index) (programme_of plan (state plan h) (node_of a)) q.at q.key) own

-- an event that asks no cache changes none
pub cache_quiet : (plan : Plan) (h : List Event) (e : Event) (host index : ℕ) → asked plan (state plan h) e ≡ None → cache_after plan (e ∷ h) host index ≡ cache_after plan h host index
unfolding cache_after
cache_quiet plan h e host index is = ap (cache_step plan (state plan h) host index (cache_after plan h host index)) is

-- ---- ways

pub ways_own : (plan : Plan) (h : List Event) (e : Event) (host index : ℕ) (q : Asked) → Ways plan h → asked plan (state plan h) e ≡ Some q → q.actor ≡ Worker host index
    → q.way ≡ way plan.settings.gateways (cache_after plan h host index) (programme_of plan (state plan h) (Host host)) q.at q.key → Ways plan (e ∷ h)
unfolding Ways
ways_own plan h e host index q ways is own w =
    let of : (a : Actor) → a ≡ Worker host index → q.way ≡ way plan.settings.gateways (cache_of plan h a) (programme_of plan (state plan h) (node_of a)) q.at q.key =
    λ a same. subst (λ b. q.way ≡ way plan.settings.gateways (cache_of plan h b) (programme_of plan (state plan h) (node_of b)) q.at q.key) (sym same) w in
    (ways, subst (IsWay plan h) (sym is) (of q.actor own))

pub ways_quiet : (plan : Plan) (h : List Event) (e : Event) → Ways plan h → asked plan (state plan h) e ≡ None → Ways plan (e ∷ h)
unfolding Ways
ways_quiet plan h e ways is = (ways, subst (IsWay plan h) (sym is) tt)
