-- One more line keeps a book.
use Rattle.and_events.specs.declared.plan.Settings.{Settings}
use Rattle.and_events.specs.Flow.{Flow}
use Rattle.std.proofs.Common.{◌≡◌, ℕ, ◌+◌, ◌-◌, ◌≤◌, vec_len, vec_capacity, List, [], ◌∷◌, ◌++◌, length, refl, sym, ap, ◌∙◌, subst, arith, replicate, Bool, true, false, cond, Option, None, append_assoc, append-nil}
use Rattle.std.specs.Prelude.{is_some}
use Rattle.std.specs.List.{All, count_by}
use Rattle.std.proofs.lemmas.Grind.{fold-append}
use Rattle.std.proofs.lemmas.List.Elements.{All-push, All-nil}
use Rattle.std.proofs.lemmas.List.Folds.{sum_by-replicate}
use Rattle.and_policy.specs.declared.port.Port.TheVariants.{Absent}
use Rattle.and_events.specs.declared.event.Held.{Held}
use Rattle.and_events.specs.Sound.{IsSound}
use Rattle.and_kept.specs.Lanes.{unsent}
use Rattle.and_events.specs.declared.event.Event.{Event}
use Rattle.and_events.specs.declared.event.Line.{Line}
use Rattle.and_events.specs.declared.plan.Plan.{Plan}
use Rattle.and_events.specs.Places.{seat_of, actor_of, node_count, queue_count, hand_count}
use Rattle.and_events.specs.Programming.{Programmes, Word, Quiet, Logs, Orders, Announces, Installs, programmes_after}
use Rattle.and_events.specs.State.{State, state, start, after, word_of}
use Rattle.and_events.specs.Legal.{Legal}
use Rattle.and_events.specs.Run.{Run, past}
use Rattle.and_laws.specs.Fates.{in_hand_count}
use Rattle.and_laws.specs.Sizes.{HasSizes, HasNodes}
use Rattle.and_laws.proofs.Sizes.{sizes, nodes as nodes_of}
use Rattle.and_review.specs.Views.{Begins}
use Rattle.and_book.specs.declared.book.Book.TheInside.{Inside}
use Rattle.and_book.specs.Views.{BookView, held}
use Rattle.and_book.specs.Inside.{Kept, kept_of, view_of, Stands, IsSized, HasPins, HasReviews, HasParcels, Keeps, IsBook}

past_push : (lines : List Line) (l : Line) → past (lines ++ l ∷ []) ≡ l.event ∷ past lines
past_push lines l = fold-append (λ h x. x.event ∷ h) [] lines (l ∷ [])

run_more : (plan : Plan) (e : Event) (h g : List Event) → g ≡ e ∷ h → Run plan h → Legal plan (state plan h) e → Run plan g
unfolding Run
run_more plan e h g is r l = subst (λ x. Run plan x) (sym is) (r, l)

state_more : (plan : Plan) (e : Event) (h g : List Event) → g ≡ e ∷ h → after plan (state plan h) e ≡ state plan g
unfolding state
state_more plan e h g is = ap (state plan) (sym is)

-- what is kept after an event, whose state before it is s
pub record IsAfter (plan : Plan) (s : State) (e : Event) (k k' : Kept) : Type 0 where
  pub stands : Stands k' (after plan s e)
  pub settings : k'.roads.settings ≡ k.roads.settings
  pub limit : k'.progress.limit ≡ k.progress.limit
  pub room : k.reviews.room ≤ k'.reviews.room
  pub known : k'.reviews.known ≡ k.reviews.known
  pub pins : HasPins plan k → HasPins plan k'

-- the log grows at its end
log_grows : (p : Programmes) (w : Word) → Begins p.log (programmes_after p w).log
unfolding programmes_after
log_grows p Quiet = ([], sym (append-nil p.log))
log_grows p (Logs e) = (e ∷ [], refl)
log_grows p (Orders os) = ([], sym (append-nil p.log))
log_grows p (Announces n upto) = ([], sym (append-nil p.log))
log_grows p (Installs n upto) = ([], sym (append-nil p.log))

-- so what is known of it stays its beginning
known_after : (plan : Plan) (s : State) (e : Event) (k k' : Kept) → Stands k s → IsAfter plan s e k k' → Begins k.reviews.known k.progress.programmes.log → Begins k'.reviews.known k'.progress.programmes.log
unfolding after
known_after plan s e k k' st follows (later, is) =
    let (more, grown) = log_grows s.programmes (word_of plan s e) in (
      later ++ more,
      ap (λ p. p.log) follows.stands.programmes
          ∙ (grown ∙ (ap (λ p. p.log ++ more) (sym st.programmes) ∙ (ap (λ log. log ++ more) is ∙ (append_assoc k.reviews.known later more ∙ ap (λ known. known ++ (later ++ more)) (sym follows.known))))),
    )

pub keeps_more : (plan : Plan) (threads : ℕ) (lines lines' : List Line) (k k' : Kept) (spare spare' seat : ℕ) (e : Event) →
    Keeps plan threads lines k spare → Legal plan (state plan (past lines)) e → seat ≡ seat_of threads plan.settings (actor_of e)
    → lines' ≡ lines ++ record { seat = seat; event = e } ∷ [] → IsAfter plan (state plan (past lines)) e k k'
    → HasParcels plan (e ∷ past lines) k'.roads → in_hand_count k'.roads.flow ≤ spare' → Keeps plan threads lines' k' spare'
keeps_more plan threads lines lines' k k' spare spare' seat e keeps legal seated longer follows parcels fits =
    let l : Line = record { seat = seat; event = e } in
    let g : past lines' ≡ e ∷ past lines = ap past longer ∙ past_push lines l in
    let stands : Stands k' (state plan (past lines')) = subst (Stands k') (state_more plan e (past lines) (past lines') g) follows.stands in
    record {
      sound = keeps.sound;
      run = run_more plan e (past lines) (past lines') g keeps.run legal;
      seats = subst (All (λ (x : Line). x.seat ≡ seat_of threads plan.settings (actor_of x.event))) (sym longer)
          (All-push (λ (x : Line). x.seat ≡ seat_of threads plan.settings (actor_of x.event)) lines l keeps.seats seated);
      stands = stands;
      sized = record {
        settings = follows.settings ∙ keeps.sized.settings;
        limit = follows.limit ∙ keeps.sized.limit;
      };
      parcels = subst (λ h. HasParcels plan h k'.roads) (sym g) parcels;
      held = fits;
      small = keeps.small;
      sizes = subst (HasSizes plan) (sym stands.flow) (sizes plan (past lines'));
      nodes = subst (HasNodes plan) (sym stands.programmes) (nodes_of plan (past lines'));
      reviews = record {
        room = omega (arith, keeps.reviews.room, follows.room);
        known = known_after plan (state plan (past lines)) e k k' keeps.stands follows keeps.reviews.known;
      };
      pins = follows.pins keeps.pins;
    }

-- a book that is not prepared owes no orders
pub unprepared : {X : Type 0} (prepared : Bool) → prepared ≡ false → prepared ≡ true → X
unprepared prepared is isnt = absurd (let clash : true ≡ false = sym isnt ∙ is in cc)

-- what is read off the traffic is so of the plan's settings and the state's packets
pub as_kept : {A : Type 0} (plan : Plan) (s : State) (k : Kept) (g : Settings → Flow → A) → k.roads.settings ≡ plan.settings → k.roads.flow ≡ s.flow → g k.roads.settings k.roads.flow ≡ g plan.settings s.flow
as_kept plan s k g settings flow = ap (λ v. g v k.roads.flow) settings ∙ ap (g plan.settings) flow

-- what holds of a book's view holds of its fields
pub seen : (x : Inside) (b : BookView) → view_of x ≡ b → (P : BookView → Type 0) → P b → P (view_of x)
seen x b e P p = subst P (sym e) p

-- the room that a call asks for is there
pub room_kept : (x : Inside) (b : BookView) (n : ℕ) → view_of x ≡ b → IsBook x → held b + n ≤ b.spare → in_hand_count (kept_of x).roads.flow + n ≤ vec_capacity x.lines - vec_len x.lines
room_kept x b n e is h =
    let there = seen x b e (λ (v : BookView). held v + n ≤ v.spare) h in
    omega (arith, there, ap in_hand_count is.keeps.stands.flow)

-- ---- a book without lines

run_none : (plan : Plan) → Run plan []
unfolding Run
run_none plan = tt

start_is : (plan : Plan) → start plan ≡ state plan []
unfolding state
start_is plan = refl

stands_start : (plan : Plan) (k : Kept) (vms nodes packets : ℕ) → k.next ≡ 0 → nodes ≡ node_count plan.settings → vms ≡ length plan.names → packets ≡ length plan.packets
    → k.progress.programmes ≡ record { log = []; ops = replicate nodes []; announced = replicate nodes 0; installed = replicate nodes 0 }
    → k.ports ≡ replicate vms (replicate plan.settings.hosts Absent)
    → k.roads.flow ≡ record { queues = replicate (queue_count plan.settings) []; hands = replicate (hand_count plan.settings) None; carried = replicate packets (unsent plan.settings) }
    → k.progress.held ≡ replicate nodes false → k.roads.held ≡ replicate (node_count plan.settings) false → k.reviews.used ≡ [] → Stands k (start plan)
unfolding start
stands_start plan k vms nodes packets zero n v p programmes ports flow installs forwards used = record { next = zero; programmes = cc; ports = cc; flow = cc; holds = cc; usage = used }

abbrev no_hand : Option Held
no_hand = None

none_held : (n : ℕ) → count_by is_some (replicate n no_hand) ≡ 0
none_held n = omega (arith, sum_by-replicate (λ (h : Option Held). cond (is_some h) 1 0) n no_hand)

pub keeps_start : (plan : Plan) (threads : ℕ) (lines : List Line) (k : Kept) (spare vms nodes packets : ℕ) → IsSound plan → lines ≡ [] → k.next ≡ 0 → nodes ≡ node_count plan.settings → vms ≡ length plan.names → packets ≡ length plan.packets
    → k.progress.programmes ≡ record { log = []; ops = replicate nodes []; announced = replicate nodes 0; installed = replicate nodes 0 }
    → k.ports ≡ replicate vms (replicate plan.settings.hosts Absent)
    → k.roads.flow ≡ record { queues = replicate (queue_count plan.settings) []; hands = replicate (hand_count plan.settings) None; carried = replicate packets (unsent plan.settings) }
    → k.progress.held ≡ replicate nodes false → k.roads.held ≡ replicate (node_count plan.settings) false → k.reviews.used ≡ [] → IsSized plan k → HasParcels plan [] k.roads → HasReviews plan k → HasPins plan k → Keeps plan threads lines k spare
keeps_start plan threads lines k spare vms nodes packets sound none zero n v p programmes ports flow installs forwards used sized parcels reviews pins =
    let st : Stands k (state plan []) = subst (Stands k) (start_is plan) (stands_start plan k vms nodes packets zero n v p programmes ports flow installs forwards used) in
    subst (λ ls. Keeps plan threads ls k spare) (sym none)
    (record {
      sound = sound;
      run = run_none plan;
      seats = All-nil (λ (x : Line). x.seat ≡ seat_of threads plan.settings (actor_of x.event));
      stands = st;
      sized = sized;
      parcels = parcels;
      held = omega (arith, ap in_hand_count flow, none_held (hand_count plan.settings));
      small = record { hosts = sound.settings.hosts.1; gateways = sound.settings.gateways.1; workers = sound.settings.workers.1 };
      sizes = subst (HasSizes plan) (sym st.flow) (sizes plan []);
      nodes = subst (HasNodes plan) (sym st.programmes) (nodes_of plan []);
      reviews = reviews;
      pins = pins;
    })
