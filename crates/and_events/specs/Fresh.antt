-- Decisions are no older than what was installed when the packet was taken.
use Rattle.std.specs.Prelude.{◌≡◌, ℕ, ◌≤◌, Bool, ◌==◌, ◌&&◌, if◌then◌else◌, IsTrue, List, [], ◌∷◌, Option, Some, None}
use Rattle.and_events.specs.declared.event.Actor.{Actor}
use Rattle.and_events.specs.declared.event.Event.{Event}
use Rattle.and_events.specs.declared.event.Event.TheVariants.{Take, Egress, Route, Redirect, Ingress}
use Rattle.and_events.specs.declared.plan.Plan.{Plan}
use Rattle.and_events.specs.Places.{actor_number, node_of}
use Rattle.and_events.specs.State.{State, state, announced_of, installed_of}

-- what the actor's node had installed just before the actor's last Take of the packet; none where it never took it
unfoldable pub installed_at_take : Plan → List Event → Actor → ℕ → Option ℕ
installed_at_take plan [] a i = None
installed_at_take plan (Take b q j ∷ h) a i =
    if (actor_number plan.settings b == actor_number plan.settings a) && (j == i) then Some (installed_of plan (state plan h) (node_of a))
    else installed_at_take plan h a i
installed_at_take plan (e ∷ h) a i = installed_at_take plan h a i

-- a decision at this number is no older than that, and was announced before
abbrev pub FreshAt : Plan → List Event → Actor → ℕ → ℕ → Type 0
FreshAt plan h a i at =
    ((need : ℕ) × (installed_at_take plan h a i ≡ Some need) × (need ≤ at)) × (at ≤ announced_of plan (state plan h) (node_of a))

-- what an event decides: who, of which packet, at which number
pub record Decided : Type 0 where
  pub actor : Actor
  pub packet : ℕ
  pub at : ℕ

abbrev pub decision_of : Event → Option Decided
decision_of (Egress a i at way d) = Some (record { actor = a; packet = i; at = at })
decision_of (Route a i at p) = Some (record { actor = a; packet = i; at = at })
decision_of (Redirect a i at back) = Some (record { actor = a; packet = i; at = at })
decision_of (Ingress a i at way arrival) = Some (record { actor = a; packet = i; at = at })
decision_of _ = None

abbrev pub FreshBy : Plan → List Event → ℕ → Option Decided → Type 0
FreshBy plan h i None = Unit {0}
FreshBy plan h i (Some d) = IsTrue (d.packet == i) → FreshAt plan h d.actor i d.at

-- every decision about the packet is fresh
unfoldable pub Fresh : Plan → List Event → ℕ → Type 0
Fresh plan [] i = Unit {0}
Fresh plan (e ∷ h) i = Fresh plan h i × FreshBy plan h i (decision_of e)
