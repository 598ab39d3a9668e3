-- Which actors wait for which.
use Rattle.std.specs.Prelude.{ℕ, ◌≤◌}
use Rattle.and_events.specs.declared.event.Actor.{Actor}
use Rattle.and_events.specs.declared.event.Actor.TheVariants.{HostInstall, GateInstall, Worker, Coproc, Gateway}
use Rattle.and_events.specs.declared.plan.Plan.{Plan}
use Rattle.and_events.specs.Places.{actor_number}
use Rattle.and_events.specs.Legal.{Enabled}
use Rattle.and_events.specs.State.{State}
use Rattle.and_plain_fates.specs.declared.first.Post.{Post}
use Rattle.and_plain_fates.specs.declared.first.Post.TheVariants as posts

-- where the other actor is enabled, its number is not smaller
abbrev pub IsNotBefore : Plan → State → Actor → Actor → Type 0
IsNotBefore plan s a b = Enabled plan s b → actor_number plan.settings a ≤ actor_number plan.settings b

-- the actor at this post of the host or gateway of this number
abbrev pub actor_at : Post → ℕ → Actor
actor_at posts.InstallsHost n = HostInstall n
actor_at posts.InstallsGate n = GateInstall n
actor_at (posts.Works index) n = Worker n index
actor_at posts.Seals n = Coproc n
actor_at posts.Routes n = Gateway n
