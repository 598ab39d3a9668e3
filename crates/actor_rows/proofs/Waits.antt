-- Worker 0 of host 0 has nothing in hand after events of other actors; then it may take a packet, decide of it, and try to settle it.
use Rattle.std.proofs.Common.{◌≡◌, ℕ, zero, suc, ◌+◌, ◌-◌, ◌≤◌, Bool, true, false, List, [], ◌∷◌, ◌++◌, length, take, refl, sym, ap, ◌∙◌, subst, arith, Option, Some, None}
use Rattle.std.specs.Prelude.{IfSome, IsTrue, is_some, replicate}
use Rattle.std.proofs.lemmas.Grind.{fold-append}
use Rattle.and_policy.specs.Caches.{empty}
use Rattle.and_policy.specs.declared.entry.Op.{Op}
use Rattle.and_events.specs.declared.event.Actor.{Actor}
use Rattle.and_events.specs.declared.event.Actor.TheVariants.{Worker}
use Rattle.and_events.specs.declared.event.Event.{Event}
use Rattle.and_events.specs.declared.event.Event.TheVariants.{Announce, Installed}
use Rattle.and_events.specs.declared.event.Line.{Line}
use Rattle.and_events.specs.declared.event.Held.{Held}
use Rattle.and_events.specs.declared.event.Node.{Node}
use Rattle.and_events.specs.declared.event.Node.TheVariants.{Host}
use Rattle.and_events.specs.declared.plan.Plan.{Plan}
use Rattle.and_events.specs.declared.plan.Step.{Step}
use Rattle.and_events.specs.declared.plan.Step.TheVariants as steps
use Rattle.and_events.specs.Flow.{hand_at, flow_after}
use Rattle.and_events.specs.Legal.{CanAnnounce, CanInstall}
use Rattle.and_events.specs.Places.{actor_of, hand_count, hand_place, seat_of, IsActor, IsNode}
use Rattle.and_events.specs.Run.{Run, past}
use Rattle.and_events.specs.Sound.{IsSound}
use Rattle.and_events.specs.State.{State, state, start, after, move_of, programme_of}
use Rattle.and_laws.specs.Fates.{in_hand_count}
use Rattle.and_laws.proofs.Rows.{replicate_at}
use Rattle.and_book.specs.Views.{BookView, now, held, with_line, IsSeat}
use Rattle.and_driver.specs.Driving.{DoesStep, event_of}
use Rattle.and_tables.specs.HostViews.{HostView}
use Rattle.and_decide.specs.Deciding.{AreRight}
use Rattle.and_worker.specs.Workers.{WorkerView, HasDecided, HasTaken, HoldsAsBook, IsInHand, MayDecide, MaySettle}
use Rattle.and_worker.specs.Workers.{actor_of as worker_of}
use Rattle.and_others.proofs.Growing.{announced_by, announce_leaves_installed}
use Rattle.and_others.proofs.Lasting.{hand_lasts}
use Rattle.actor_rows.specs.Waiting.{IsWaiting}

pub is_actor : (plan : Plan) → IsSound plan → IsActor plan.settings (Worker 0 0)
is_actor plan sound = (omega (arith, sound.settings.hosts.0), omega (arith, sound.settings.workers.0))

pub waits_at_start : (b : BookView) → b.threads ≡ 0 → b.lines ≡ [] → IsWaiting b
unfolding state start
waits_at_start b threads lines = record {
  threads = threads;
  hand = rw lines (let nothing : Option Held = None in replicate_at (hand_count b.plan.settings) (hand_place b.plan.settings (Worker 0 0)) nothing);
}

past_push : (lines : List Line) (l : Line) → past (lines ++ l ∷ []) ≡ l.event ∷ past lines
past_push lines l = fold-append (λ h x. x.event ∷ h) [] lines (l ∷ [])

pub waits_on : (old new : BookView) (e : Event) → IsWaiting old → IsSound old.plan → Run new.plan (past new.lines) → new ≡ with_line old 0 e → (actor_of e ≡ Worker 0 0 → ⊥) → IsWaiting new
waits_on old new e w sound r is other =
    let plan : new.plan ≡ old.plan = ap (λ (b : BookView). b.plan) is in
    let history : past new.lines ≡ e ∷ past old.lines = ap (λ (b : BookView). past b.lines) is ∙ past_push old.lines (record { seat = 0; event = e }) in
    let run : Run old.plan (e ∷ past old.lines) = subst (λ p. Run p (e ∷ past old.lines)) plan (subst (Run new.plan) history r) in
    record {
      threads = ap (λ (b : BookView). b.threads) is ∙ w.threads;
      hand = rw (plan, history) (hand_lasts old.plan (past old.lines) e (Worker 0 0) sound run (is_actor old.plan sound) tt other ∙ w.hand);
    }

-- where nothing but the room has changed
pub waits_still : (old new : BookView) → IsWaiting old → new.lines ≡ old.lines → new.plan ≡ old.plan → new.threads ≡ old.threads → IsWaiting new
waits_still old new w lines plan threads = record { threads = threads ∙ w.threads; hand = rw (plan, lines) w.hand }

-- ---- the driver's turn

driver_acts : (plan : Plan) (s : State) (step : Step) → actor_of (event_of plan s step) ≡ Worker 0 0 → ⊥
driver_acts plan s (steps.Append e) is = cc is
driver_acts plan s steps.Review is = cc is
driver_acts plan s (steps.Hold node what) is = cc is
driver_acts plan s (steps.Free node what) is = cc is
driver_acts plan s steps.Wait is = cc is
driver_acts plan s (steps.Inject i) is = cc is
driver_acts plan s (steps.Blackout vm host) is = cc is
driver_acts plan s (steps.Resume vm) is = cc is
driver_acts plan s steps.Finish is = cc is

pub waits_driven : (old new : BookView) (done : Bool) → IsWaiting old → IsSound old.plan → Run new.plan (past new.lines) → (IsTrue done → DoesStep old new 0) → (done ≡ false → new ≡ old) → IsWaiting new
waits_driven old new true w sound r did idle = let d = did refl in waits_on old new (event_of old.plan (now old) d.step) w sound r d.line (driver_acts old.plan (now old) d.step)
waits_driven old new false w sound r did idle = subst IsWaiting (sym (idle refl)) w

-- ---- the installer's turns

host_0 : (plan : Plan) → IsSound plan → IsNode plan.settings (Host 0)
host_0 plan sound = omega (arith, sound.settings.hosts.0)

module _ (old new : BookView) (upto : ℕ) (w : IsWaiting old) (sound : IsSound old.plan) (r : Run new.plan (past new.lines)) where
  pub waits_announced : new ≡ with_line old 0 (Announce (Host 0) upto) → IsWaiting new
  waits_announced is = waits_on old new (Announce (Host 0) upto) w sound r is (λ same. cc same)

  pub waits_installed : new ≡ with_line old 0 (Installed (Host 0) upto) → IsWaiting new
  waits_installed is = waits_on old new (Installed (Host 0) upto) w sound r is (λ same. cc same)

  -- what was announced can be installed
  pub can_install : new ≡ with_line old 0 (Announce (Host 0) upto) → upto ≡ length (programme_of old.plan (now old) (Host 0)) → CanAnnounce old.plan (now old) (Host 0) → CanInstall new.plan (now new) (Host 0)
  can_install is all may =
      let plan : new.plan ≡ old.plan = ap (λ (b : BookView). b.plan) is in
      let history : past new.lines ≡ Announce (Host 0) upto ∷ past old.lines = ap (λ (b : BookView). past b.lines) is ∙ past_push old.lines (record { seat = 0; event = Announce (Host 0) upto }) in
      let run : Run old.plan (Announce (Host 0) upto ∷ past old.lines) = subst (λ p. Run p (Announce (Host 0) upto ∷ past old.lines)) plan (subst (Run new.plan) history r) in
      rw (plan, history, announced_by old.plan (past old.lines) (Host 0) upto sound run, announce_leaves_installed old.plan (past old.lines) (Host 0) upto (Host 0))
      (host_0 old.plan sound, omega (arith, all, may.2, may.3))

-- an announcement leaves what is in hand
announced_flow : (plan : Plan) (s : State) (node : Node) (upto : ℕ) → (after plan s (Announce node upto)).flow ≡ s.flow
unfolding after move_of flow_after
announced_flow plan s node upto = refl

pub room_left : (old new : BookView) (upto : ℕ) → new ≡ with_line old 0 (Announce (Host 0) upto) → held old + 2 ≤ old.spare → held new + 1 ≤ new.spare
unfolding state
room_left old new upto is room =
    let plan : new.plan ≡ old.plan = ap (λ (b : BookView). b.plan) is in
    let history : past new.lines ≡ Announce (Host 0) upto ∷ past old.lines = ap (λ (b : BookView). past b.lines) is ∙ past_push old.lines (record { seat = 0; event = Announce (Host 0) upto }) in
    let spare : new.spare ≡ old.spare - 1 = ap (λ (b : BookView). b.spare) is in
    let same : held new ≡ held old = rw (plan, history) (ap in_hand_count (announced_flow old.plan (now old) (Host 0) upto)) in
    omega (arith, spare, same, room)

-- ---- the worker

is_seat : (b : BookView) (a : Actor) → b.threads ≡ 0 → IsSeat b 0 a
is_seat b a none = ap (λ t. seat_of t b.plan.settings a) (sym none)

pub seat_in : (b : BookView) (w : WorkerView) → IsWaiting b → w ≡ record { host = 0; index = 0; cache = empty; compared = 0; hand = None } → IsSeat b 0 (worker_of w)
seat_in b w waiting is = is_seat b (worker_of w) waiting.threads

pub holds_nothing : (b : BookView) (w : WorkerView) → IsWaiting b → w ≡ record { host = 0; index = 0; cache = empty; compared = 0; hand = None } → HoldsAsBook b w
holds_nothing b w waiting is = rw (is, waiting.hand) refl

-- a cache with nothing in it is right for any tables
right_groups : (t : HostView) (n : ℕ) → AreRight t (replicate n [])
right_groups t zero = tt
right_groups t (suc n) = (tt, right_groups t n)

module _ (old b : BookView) (t : HostView) (w w1 : WorkerView) (waiting : IsWaiting old) (fresh : w ≡ record { host = 0; index = 0; cache = empty; compared = 0; hand = None })
    (host : t.host ≡ 0) (gateways : t.gateways ≡ old.plan.settings.gateways) (taken : HasTaken old b 0 w w1) where
  cache_is : w1.cache ≡ replicate 64 []
  cache_is = ap (λ (v : WorkerView). v.cache) (taken.worker ∙ ap (λ (v : WorkerView). record v { hand = Some taken.in_hand }) fresh)

  host_is : w1.host ≡ 0
  host_is = ap (λ (v : WorkerView). v.host) (taken.worker ∙ ap (λ (v : WorkerView). record v { hand = Some taken.in_hand }) fresh)

  compared_is : w1.compared ≡ 0
  compared_is = ap (λ (v : WorkerView). v.compared) (taken.worker ∙ ap (λ (v : WorkerView). record v { hand = Some taken.in_hand }) fresh)

  actor_is : worker_of w1 ≡ worker_of w
  actor_is = ap worker_of taken.worker

  pub may_decide : MayDecide t w1
  may_decide = record {
    has = ap (λ (v : WorkerView). is_some v.hand) taken.worker;
    host = host ∙ sym host_is;
    right = rw cache_is (right_groups t 64);
  }

  pub may_settle : (w2 : WorkerView) → HasDecided t w1 w2 → MaySettle b t 0 w2
  may_settle w2 did =
      let same : did.in_hand ≡ taken.in_hand = (let both : Some did.in_hand ≡ Some taken.in_hand = sym did.was ∙ ap (λ (v : WorkerView). v.hand) taken.worker in cc) in
      let holds : IsInHand b (worker_of w1) did.in_hand = subst (λ a. IsInHand b a did.in_hand) (sym actor_is) (subst (IsInHand b (worker_of w)) (sym same) taken.holds) in
      subst (MaySettle b t 0) (sym did.worker)
      (record {
        is_seat = seat_now;
        in_hand = record did.in_hand { decision = Some did.decision };
        has = refl;
        holds = record { actor = holds.actor; held = holds.held; packet = holds.packet; parcel = holds.parcel; vni = holds.vni };
        decision = did.decision;
        decided = did.decided;
        agree = nothing_compared w1.compared compared_is t.ops (programme_of b.plan (now b) (Host w1.host));
        host = host ∙ sym host_is;
        gateways = gateways ∙ ap (λ (x : BookView). x.plan.settings.gateways) (sym taken.line);
      })
    where
      nothing_compared : (n : ℕ) → n ≡ 0 → (xs ys : List Op) → take n xs ≡ take n ys
      nothing_compared n none xs ys = rw none refl

      seat_now : IsSeat b 0 (worker_of w1)
      seat_now = is_seat b (worker_of w1) (ap (λ (x : BookView). x.threads) taken.line ∙ waiting.threads)

-- what is said of an answer that is there
pub at_some : {A : Type 0} (o : Option A) (P : Type 0) → is_some o ≡ true → IfSome o (λ x. P) → P
at_some (Some x) P is p = p
at_some None P is p = absurd (cc is)
