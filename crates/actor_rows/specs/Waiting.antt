-- A book at which worker 0 of host 0 has nothing in hand.
use Rattle.std.specs.Prelude.{◌≡◌, None}
use Rattle.and_events.specs.declared.event.Actor.TheVariants.{Worker}
use Rattle.and_events.specs.Flow.{hand_at}
use Rattle.and_events.specs.Places.{hand_place}
use Rattle.and_book.specs.Views.{BookView, now}

-- in a run on one thread
pub record IsWaiting (b : BookView) : Type 0 where
  pub threads : b.threads ≡ 0
  pub hand : hand_at (now b).flow.hands (hand_place b.plan.settings (Worker 0 0)) ≡ None
