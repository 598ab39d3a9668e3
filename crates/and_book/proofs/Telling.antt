-- The lines of a run, each with the seat of its actor, keep the seats of takes and announcements.
use Rattle.std.proofs.Common.{◌≡◌, ℕ, ◌<◌, ◌==◌, List, [], ◌∷◌, map, refl, sym, ap, ◌∙◌, subst, arith, Option, Some, None, ⊎_elim}
use Rattle.std.specs.Prelude.{slice_get, if◌then◌else◌}
use Rattle.std.specs.List.{All, fold}
use Rattle.std.proofs.lemmas.Bool.{cases_eq}
use Rattle.std.proofs.lemmas.Grind.{common_steps}
use Rattle.std.proofs.lemmas.List.{get_or-set_other}
use Rattle.std.proofs.lemmas.List.Elements.{All-nil, All-cons, All-head, All-tail}
use Rattle.and_events.specs.declared.event.Actor.{Actor}
use Rattle.and_events.specs.declared.event.Event.{Event}
use Rattle.and_events.specs.declared.event.Event.TheVariants.{Append, Review, Resume, Announce, Installed, Take, Egress, Sealed, Route, Redirect, Ingress}
use Rattle.and_events.specs.declared.event.Held.{Held}
use Rattle.and_events.specs.declared.event.Line.{Line}
use Rattle.and_events.specs.declared.event.Node.{Node}
use Rattle.and_events.specs.declared.event.Node.TheVariants.{Host, Gate}
use Rattle.and_events.specs.declared.event.Queue.TheVariants.{Out, Wire, Seal}
use Rattle.and_events.specs.declared.plan.Plan.{Plan}
use Rattle.and_events.specs.declared.plan.Settings.{Settings}
use Rattle.and_events.specs.declared.plan.Step.{Step}
use Rattle.and_events.specs.declared.plan.Step.TheVariants as steps
use Rattle.and_events.specs.Places.{node_count, node_place, hand_place, actor_number, seat_of, actor_of, node_of, installer_of, IsActor}
use Rattle.and_events.specs.Flow.{flow_after, hand_at}
use Rattle.and_events.specs.Programming.{programmes_after, announced_at}
use Rattle.and_events.specs.State.{State, state, start, after, move_of, word_of, word_of_step, installed_of, announced_of}
use Rattle.and_events.specs.Legal.{Legal}
use Rattle.and_events.specs.Run.{Run, past}
use Rattle.and_laws.specs.Stages.{Takes}
use Rattle.and_laws.proofs.Actors.{takes_at, takes_worker, takes_gateway, takes_coprocessor, hand_number}
use Rattle.and_laws.proofs.Needs.{nothing_held, taken_other, held_before, no_grab}
use Rattle.and_laws.proofs.Rows.{replicate_at}
use Rattle.and_book.specs.Tales.{newest_first, is_take_by, is_announce_at, taken_by, announced_by, KeepsSeat, KeepSeats}

-- ---- lines and events

abbrev events_of : List Line → List Event
events_of lines = map (λ l. l.event) lines

past_onto : (lines newer : List Line) → fold (λ h l. l.event ∷ h) (events_of newer) lines ≡ events_of (fold (λ ls l. l ∷ ls) newer lines)
past_onto [] newer = refl
past_onto (l ∷ lines) newer = past_onto lines (l ∷ newer)

all_onto : (P : Line → Type 0) (lines newer : List Line) → All P lines → All P newer → All P (fold (λ ls l. l ∷ ls) newer lines)
all_onto P [] newer all more = more
all_onto P (l ∷ lines) newer all more = all_onto P lines (l ∷ newer) (All-tail P l lines all) (All-cons P l newer (All-head P l lines all) more)

if_true : (x y : ℕ) (n m : Option ℕ) → x ≡ y → (if x == y then n else m) ≡ n
if_true x y n m e = grind (arith, common_steps)

if_false : (x y : ℕ) (n m : Option ℕ) → (x ≡ y → ⊥) → (if x == y then n else m) ≡ m
if_false x y n m e = grind (arith, common_steps)

abbrev IsSeated : Plan → ℕ → Line → Type 0
IsSeated plan threads l = l.seat ≡ seat_of threads plan.settings (actor_of l.event)

by_number : (threads : ℕ) (s : Settings) (a b : Actor) → actor_number s a ≡ actor_number s b → seat_of threads s a ≡ seat_of threads s b
by_number threads s a b e = rw e refl

-- ---- takes

module _ (plan : Plan) (threads : ℕ) (a : Actor) (is : IsActor plan.settings a) (t : Takes a) where
  -- one line more
  took_more : (older : List Line) (seat : ℕ) (e : Event) → Legal plan (state plan (events_of older)) e → seat ≡ seat_of threads plan.settings (actor_of e)
      → ((g : Held) → hand_at (state plan (events_of older)).flow.hands (hand_place plan.settings a) ≡ Some g → taken_by plan.settings older a ≡ Some (seat_of threads plan.settings a))
      → (g : Held) → hand_at (state plan (e ∷ events_of older)).flow.hands (hand_place plan.settings a) ≡ Some g
      → (if is_take_by plan.settings a e then Some seat else taken_by plan.settings older a) ≡ Some (seat_of threads plan.settings a)
  unfolding Legal state after flow_after move_of
  took_more older seat (Take b q j) l seated before g has =
      let s = state plan (events_of older) in
      let x = hand_place plan.settings b in
      let y = hand_place plan.settings a in
      let new : Held = record { packet = j; need = installed_of plan s (node_of b); queue = q } in
      let tb = (takes_at plan s b q l.actor l.queue).takes in
      let nb = hand_number plan.settings b tb in
      let na = hand_number plan.settings a t in
      let mine : Option ℕ = Some seat in
      ⊎_elim
      (λ (e : x ≡ y).
      let same : actor_number plan.settings b ≡ actor_number plan.settings a = omega (arith, nb, na, e) in
      if_true (actor_number plan.settings b) (actor_number plan.settings a) mine (taken_by plan.settings older a) same
      ∙ ap Some (seated ∙ by_number threads plan.settings b a same))
      (λ (e : x ≡ y → ⊥).
      if_false (actor_number plan.settings b) (actor_number plan.settings a) mine (taken_by plan.settings older a) (λ same. e (omega (arith, nb, na, same)))
      ∙ before g (taken_other s.flow.hands x y new g e has)) (cases_eq x y)
  took_more older seat e l seated before g has =
      before g (held_before (state plan (events_of older)).flow (move_of plan (state plan (events_of older)) e) (hand_place plan.settings a) g (no_grab plan (state plan (events_of older)) e tt) has)

  -- the newest Take of an actor with a packet in hand has the actor's seat
  took : (lines : List Line) → Run plan (events_of lines) → All (IsSeated plan threads) lines → (g : Held) → hand_at (state plan (events_of lines)).flow.hands (hand_place plan.settings a) ≡ Some g → taken_by plan.settings lines a ≡ Some (seat_of threads plan.settings a)
  unfolding Run taken_by
  took [] r seated g has = absurd (nothing_held plan (hand_place plan.settings a) g has)
  took (l ∷ older) r seated g has =
      took_more older l.seat l.event r.1 (All-head (IsSeated plan threads) l older seated) (took older r.0 (All-tail (IsSeated plan threads) l older seated)) g has

-- ---- announcements

abbrev NoAnnounce : Event → Type 0
NoAnnounce (Announce node upto) = ⊥
NoAnnounce _ = Unit {0}

said_by_step : (plan : Plan) (s : State) (o : Option Step) (n : ℕ) → announced_at (programmes_after s.programmes (word_of_step plan s o)) n ≡ announced_at s.programmes n
unfolding programmes_after
said_by_step plan s (Some (steps.Append e)) n = refl
said_by_step plan s (Some steps.Review) n = refl
said_by_step plan s (Some (steps.Resume vm)) n = refl
said_by_step plan s (Some step) n = refl
said_by_step plan s None n = refl

not_announced : (plan : Plan) (s : State) (e : Event) (n : ℕ) → NoAnnounce e → announced_at (programmes_after s.programmes (word_of plan s e)) n ≡ announced_at s.programmes n
unfolding word_of programmes_after
not_announced plan s (Announce node upto) n other = absurd other
not_announced plan s (Append step) n other = said_by_step plan s (slice_get plan.steps step) n
not_announced plan s (Review step) n other = said_by_step plan s (slice_get plan.steps step) n
not_announced plan s (Resume step) n other = said_by_step plan s (slice_get plan.steps step) n
not_announced plan s (Installed node upto) n other = refl
not_announced plan s e n other = refl

installer_number : (s : Settings) (node : Node) → actor_number s (installer_of node) ≡ node_place s node
installer_number s (Host h) = refl
installer_number s (Gate g) = refl

module _ (plan : Plan) (threads : ℕ) (node : Node) where
  said_more : (older : List Line) (seat : ℕ) (e : Event) → seat ≡ seat_of threads plan.settings (actor_of e)
      → (0 < announced_of plan (state plan (events_of older)) node → announced_by plan.settings older node ≡ Some (seat_of threads plan.settings (installer_of node)))
      → 0 < announced_of plan (state plan (e ∷ events_of older)) node
      → (if is_announce_at plan.settings node e then Some seat else announced_by plan.settings older node) ≡ Some (seat_of threads plan.settings (installer_of node))
  unfolding state after word_of programmes_after
  said_more older seat (Announce m upto) seated before some =
      let x = node_place plan.settings m in
      let y = node_place plan.settings node in
      let mine : Option ℕ = Some seat in
      ⊎_elim
      (λ (e : x ≡ y).
      if_true x y mine (announced_by plan.settings older node) e
      ∙ ap Some (seated ∙ by_number threads plan.settings (installer_of m) (installer_of node) (installer_number plan.settings m ∙ (e ∙ sym (installer_number plan.settings node)))))
      (λ (e : x ≡ y → ⊥).
      if_false x y mine (announced_by plan.settings older node) e
      ∙ before (subst (λ n. 0 < n) (get_or-set_other (state plan (events_of older)).programmes.announced x y upto 0 (λ f. e (sym f))) some)) (cases_eq x y)
  said_more older seat e seated before some =
      before (subst (λ n. 0 < n) (not_announced plan (state plan (events_of older)) e (node_place plan.settings node) tt) some)

  -- the newest Announce of a node that has announced something has its installer's seat
  said : (lines : List Line) → All (IsSeated plan threads) lines → 0 < announced_of plan (state plan (events_of lines)) node → announced_by plan.settings lines node ≡ Some (seat_of threads plan.settings (installer_of node))
  unfolding state start announced_by
  said [] seated some = let none = replicate_at {X = ℕ} (node_count plan.settings) (node_place plan.settings node) 0 in absurd (omega (arith, none, some))
  said (l ∷ older) seated some =
      said_more older l.seat l.event (All-head (IsSeated plan threads) l older seated) (said older (All-tail (IsSeated plan threads) l older seated)) some

-- ---- all lines

keeps_seat : (plan : Plan) (threads : ℕ) (older : List Line) (seat : ℕ) (e : Event) → Run plan (events_of older) → All (IsSeated plan threads) older → Legal plan (state plan (events_of older)) e → seat ≡ seat_of threads plan.settings (actor_of e) → KeepsSeat plan.settings older seat e
unfolding Legal
keeps_seat plan threads older seat (Egress a i at way d) r all l seated =
    took plan threads a l.0.actor (takes_worker a l.1) older r all (record { packet = i; need = l.0.need; queue = Out }) l.0.holds ∙ ap Some (sym seated)
keeps_seat plan threads older seat (Sealed a i end) r all l seated =
    took plan threads a l.0 (takes_coprocessor a l.1) older r all (record { packet = i; need = l.2.0; queue = Seal }) l.2.1 ∙ ap Some (sym seated)
keeps_seat plan threads older seat (Route a i at p) r all l seated =
    took plan threads a l.0.actor (takes_gateway a l.1) older r all (record { packet = i; need = l.0.need; queue = Wire }) l.0.holds ∙ ap Some (sym seated)
keeps_seat plan threads older seat (Redirect a i at back) r all l seated =
    took plan threads a l.0.actor (takes_gateway a l.1) older r all (record { packet = i; need = l.0.need; queue = Wire }) l.0.holds ∙ ap Some (sym seated)
keeps_seat plan threads older seat (Ingress a i at way arrival) r all l seated =
    took plan threads a l.0.actor (takes_worker a l.1) older r all (record { packet = i; need = l.0.need; queue = Wire }) l.0.holds ∙ ap Some (sym seated)
keeps_seat plan threads older seat (Installed node upto) r all l seated =
    said plan threads node older all (omega (arith, l.0.1)) ∙ ap Some (sym seated)
keeps_seat plan threads older seat e r all l seated = tt

keep_seats : (plan : Plan) (threads : ℕ) (lines : List Line) → Run plan (events_of lines) → All (IsSeated plan threads) lines → KeepSeats plan.settings lines
unfolding Run KeepSeats
keep_seats plan threads [] r all = tt
keep_seats plan threads (l ∷ older) r all =
    let before = All-tail (IsSeated plan threads) l older all in
    (keep_seats plan threads older r.0 before, keeps_seat plan threads older l.seat l.event r.0 before r.1 (All-head (IsSeated plan threads) l older all))

-- the lines, the oldest of which is first
pub tells : (plan : Plan) (threads : ℕ) (lines : List Line) → Run plan (past lines) → All (IsSeated plan threads) lines → KeepSeats plan.settings (newest_first lines)
tells plan threads lines r all =
    keep_seats plan threads (newest_first lines) (subst (Run plan) (past_onto lines []) r) (all_onto (IsSeated plan threads) lines [] all (All-nil (IsSeated plan threads)))
