-- The turn of a host's worker: a packet taken, or the one in hand decided of and settled.
use Rattle.std.proofs.Common.{◌≡◌, ℕ, zero, suc, ◌<◌, ◌≤◌, Bool, true, false, max, List, [], ◌∷◌, length, take, refl, sym, ap, ◌∙◌, subst, arith, Option, Some, None}
use Rattle.std.specs.Prelude.{◌↔◌, IsTrue, is_some, slice_get}
use Rattle.std.proofs.lemmas.List.{length-take-le}
use Rattle.std.proofs.Math.Nat.{max-eq_right}
use Rattle.and_policy.specs.declared.decision.Decision.{Decision}
use Rattle.and_policy.specs.declared.entry.FlowKey.{FlowKey}
use Rattle.and_policy.specs.declared.entry.Op.{Op}
use Rattle.and_policy.specs.Caches.{decided, way}
use Rattle.and_policy.specs.Frames.{tuple_in}
use Rattle.and_parcel.specs.Parcels.{ParcelView}
use Rattle.and_events.specs.declared.event.Actor.{Actor}
use Rattle.and_events.specs.declared.event.Actor.TheVariants.{Worker}
use Rattle.and_events.specs.declared.event.Event.{Event}
use Rattle.and_events.specs.declared.event.Event.TheVariants.{Take, Installed}
use Rattle.and_events.specs.declared.event.Node.TheVariants.{Host}
use Rattle.and_events.specs.declared.event.Queue.{Queue}
use Rattle.and_events.specs.declared.event.Queue.TheVariants.{Out, Wire, Seal}
use Rattle.and_events.specs.declared.plan.Plan.{Plan}
use Rattle.and_events.specs.declared.plan.Settings.{Settings}
use Rattle.and_events.specs.Flow.{hand_at}
use Rattle.and_events.specs.Fresh.{decision_of}
use Rattle.and_events.specs.Ordered.{IsAtInstalled}
use Rattle.and_events.specs.Places.{actor_of, hand_place, node_of, seat_of, IsActor}
use Rattle.and_events.specs.Run.{Run, past}
use Rattle.and_events.specs.Sound.{IsSound}
use Rattle.and_events.specs.State.{State, state, announced_of, carried_at, installed_of, packet_at, programme_of, tuple_at}
use Rattle.and_laws.proofs.Losses.{held_is_known}
use Rattle.and_others.specs.Ways.{Asked, IsWay, asked, cache_after, cache_of}
use Rattle.and_others.proofs.Caching.{cache_own, cache_quiet}
use Rattle.and_others.proofs.Growing.{installed_lasts, numbers_below}
use Rattle.and_others.proofs.Lasting.{need_reached}
use Rattle.and_book.specs.Views.{BookView, now}
use Rattle.and_agree.specs.declared.comparing.Settled.{Settled}
use Rattle.and_agree.specs.declared.comparing.Settled.TheVariants.{Done, Early, Differs}
use Rattle.and_agree.specs.Agreeing.{Tells}
use Rattle.and_agree.proofs.Readable.{is_read}
use Rattle.and_tables.specs.HostViews.{HostView}
use Rattle.and_decide.specs.Deciding.{AreRight}
use Rattle.and_worker.specs.declared.worker.InHand.{InHand}
use Rattle.and_worker.specs.Workers as workers
use Rattle.and_worker.specs.Workers.{Agree, HasDecided, HasTaken, HoldsAsBook, IsInHand, IsSettled, MayDecide, MaySettle, WorkerView, event_of, key_of, need_in, needs}
use Rattle.and_replay.specs.Parting.{Has, HasNothing, IsWorking, WorkerHas, host_tables}
use Rattle.and_replay.specs.Turns.{Adds, IsNext}
use Rattle.and_replay.proofs.Adding.{carried_over, back}
use Rattle.and_replay.proofs.Frames.{ops_same, take_less}

-- ---- of tables that are what is installed

pub seat_is : (threads : ℕ) (s : Settings) (a : Actor) → threads ≡ 0 → 0 ≡ seat_of threads s a
seat_is threads s a none = ap (λ t. seat_of t s a) (sym none)

got : {X : Type 0} (n k : ℕ) (xs : List X) (x : X) → slice_get (take n xs) k ≡ Some x → slice_get xs k ≡ Some x
got zero zero [] x e = absurd (cc)
got zero (suc k) [] x e = absurd (cc)
got zero zero (y ∷ xs) x e = absurd (cc)
got zero (suc k) (y ∷ xs) x e = absurd (cc)
got (suc n) zero [] x e = absurd (cc)
got (suc n) (suc k) [] x e = absurd (cc)
got (suc n) zero (y ∷ xs) x e = e
got (suc n) (suc k) (y ∷ xs) x e = got n k xs x e

-- tables of the first operations of a programme, all of which are announced, agree with it
pub tells_done : (announced n : ℕ) (tables programme : List Op) (answer : Settled) → tables ≡ take n programme → length tables ≤ announced → Tells announced tables programme answer → answer ≡ Done
tells_done announced n tables programme Done is most tells = refl
tells_done announced n tables programme (Early number) is most tells = absurd (omega (arith, most, tells.1))
tells_done announced n tables programme (Differs at table book) is most (l, (place, there, d)) =
    absurd (d.differ (let one : slice_get programme place ≡ Some table = got n place programme table (ap (λ xs. slice_get xs place) (sym is) ∙ d.in_tables) in
    let both : Some table ≡ Some book = sym one ∙ d.in_programme in cc))

-- ---- what an event that asks no cache leaves to the worker that acts

module _ (plan : Plan) (h : List Event) (e : Event) (sound : IsSound plan) (r : Run plan (e ∷ h)) (w : WorkerView) (host : w.host < plan.settings.hosts)
    (none : (upto : ℕ) → e ≡ Installed (Host w.host) upto → ⊥) where
  pub installed_same : installed_of plan (state plan (e ∷ h)) (Host w.host) ≡ installed_of plan (state plan h) (Host w.host)
  installed_same = installed_lasts plan h e (Host w.host) sound r host none

  pub tables_same : host_tables plan (e ∷ h) w.host ≡ host_tables plan h w.host
  tables_same = ap (λ ops. record { host = w.host; gateways = plan.settings.gateways; ops = ops }) (ops_same plan h e sound r (Host w.host) host none)

  -- with another packet in hand, or none
  pub works_on : (o : Option InHand) → asked plan (state plan h) e ≡ None → IsWorking plan h w → WorkerHas plan (e ∷ h) (workers.actor_of w) o → IsWorking plan (e ∷ h) (record w { hand = o })
  works_on o quiet is has = record {
    hand = has;
    compared = omega (arith, is.compared, installed_same);
    right = subst (λ (t : HostView). AreRight t w.cache) (sym tables_same) is.right;
    cache = is.cache ∙ sym (cache_quiet plan h e w.host w.index quiet);
  }

-- ---- a packet is taken

is_take_no_install : (a : Actor) (q : Queue) (i upto host : ℕ) → Take a q i ≡ Installed (Host host) upto → ⊥
is_take_no_install a q i upto host e = cc

module _ (old new : BookView) (w w' : WorkerView) (sound : IsSound old.plan) (r : Run new.plan (past new.lines)) (host : w.host < old.plan.settings.hosts) (working : IsWorking old.plan (past old.lines) w)
    (took : HasTaken old new 0 w w') where
  abbrev taking : Event
  taking = Take (workers.actor_of w) took.in_hand.held.queue took.in_hand.held.packet

  pub take_adds : Adds old new (workers.actor_of w)
  take_adds = record { event = taking; line = took.line; actor = refl; number = tt; way = tt }

  run_on : Run old.plan (taking ∷ past old.lines)
  run_on = back old new 0 taking took.line Run r

  has_taken : Has old.plan (taking ∷ past old.lines) (workers.actor_of w) took.in_hand.held took.in_hand.parcel took.in_hand.vni
  has_taken =
      back old new 0 taking took.line (λ p h. Has p h (workers.actor_of w) took.in_hand.held took.in_hand.parcel took.in_hand.vni)
      (record { held = took.holds.held; packet = took.holds.packet; parcel = took.holds.parcel; vni = took.holds.vni })

  pub take_works : IsWorking new.plan (past new.lines) w'
  take_works =
      subst (IsWorking new.plan (past new.lines)) (sym took.worker)
      (carried_over old new 0 taking took.line (λ p h. IsWorking p h (record w { hand = Some took.in_hand }))
      (works_on old.plan (past old.lines) taking sound run_on w host (λ upto. is_take_no_install _ _ _ upto w.host) (Some took.in_hand) refl working has_taken))

-- ---- before a packet is taken

holds_as : (plan : Plan) (h : List Event) (a : Actor) (o : Option InHand) → WorkerHas plan h a o → is_some (hand_at (state plan h).flow.hands (hand_place plan.settings a)) ≡ is_some o
holds_as plan h a None has = ap is_some has
holds_as plan h a (Some x) has = ap is_some has.held

pub as_book : (b : BookView) (w : WorkerView) → IsWorking b.plan (past b.lines) w → HoldsAsBook b w
as_book b w is = holds_as b.plan (past b.lines) (workers.actor_of w) w.hand is.hand

-- ---- a packet is decided of and settled

need_met : (plan : Plan) (h : List Event) (host index : ℕ) (o : Option InHand) → IsSound plan → Run plan h → IsActor plan.settings (Worker host index) → WorkerHas plan h (Worker host index) o → need_in o ≤ installed_of plan (state plan h) (Host host)
need_met plan h host index None sound r is has = omega arith
need_met plan h host index (Some x) sound r is has = need_reached plan h (Worker host index) x.held sound r is tt has.held

none_or : (o : Option InHand) → is_some o ≡ true → o ≡ None → ⊥
none_or None some e = absurd (cc)
none_or (Some x) some e = absurd (cc)

has_some : (plan : Plan) (h : List Event) (a : Actor) (o : Option InHand) (x : InHand) → o ≡ Some x → WorkerHas plan h a o → Has plan h a x.held x.parcel x.vni
has_some plan h a o x e has = subst (WorkerHas plan h a) e has

pub most_installed : (n m : ℕ) → m ≤ n → max m n ≤ n
most_installed n m l = omega (arith, l, max-eq_right {n = m} {m = n} l)

-- by which the decision's event asks the cache
asked_is : (plan : Plan) (s : State) (a : Actor) (q : Queue) (i vni : ℕ) (parcel : ParcelView) (d : Decision) → parcel.vm ≡ (packet_at plan i).vm → tuple_in parcel.frame ≡ tuple_at plan i → vni ≡ (carried_at s i).net
    → asked plan s (event_of plan s a q i d) ≡ Some (record { actor = a; key = key_of q parcel vni; at = d.at; way = d.way })
asked_is plan s a Out i vni parcel d vm tuple net = rw vm (rw tuple refl)
asked_is plan s a Wire i vni parcel d vm tuple net = rw net (rw tuple refl)
asked_is plan s a Seal i vni parcel d vm tuple net = rw net (rw tuple refl)

acts_so : (plan : Plan) (s : State) (a : Actor) (q : Queue) (i : ℕ) (d : Decision) → actor_of (event_of plan s a q i d) ≡ a
acts_so plan s a Out i d = refl
acts_so plan s a Wire i d = refl
acts_so plan s a Seal i d = refl

numbered : (plan : Plan) (s : State) (h w : ℕ) (q : Queue) (i : ℕ) (d : Decision) → d.at ≡ installed_of plan s (Host h) → IsAtInstalled plan s (decision_of (event_of plan s (Worker h w) q i d))
numbered plan s h w Out i d is = is
numbered plan s h w Wire i d is = is
numbered plan s h w Seal i d is = is

settles_no_install : (plan : Plan) (s : State) (a : Actor) (q : Queue) (i : ℕ) (d : Decision) (host upto : ℕ) → event_of plan s a q i d ≡ Installed (Host host) upto → ⊥
settles_no_install plan s a Out i d host upto e = cc
settles_no_install plan s a Wire i d host upto e = cc
settles_no_install plan s a Seal i d host upto e = cc

way_said : (plan : Plan) (h : List Event) (host index : ℕ) (o : Option Asked) (q : Asked) → o ≡ Some q → q.actor ≡ Worker host index
    → q.way ≡ way plan.settings.gateways (cache_after plan h host index) (programme_of plan (state plan h) (Host host)) q.at q.key → IsWay plan h o
way_said plan h host index o q is actor said =
    subst (IsWay plan h) (sym is)
    (subst (λ a. q.way ≡ way plan.settings.gateways (cache_of plan h a) (programme_of plan (state plan h) (node_of a)) q.at q.key) (sym actor) said)

module _ (b : BookView) (t : HostView) (w : WorkerView) (sound : IsSound b.plan) (r : Run b.plan (past b.lines)) (next : IsNext b (workers.actor_of w)) (tables : t ≡ host_tables b.plan (past b.lines) w.host)
    (working : IsWorking b.plan (past b.lines) w) where
  abbrev number : ℕ
  number = installed_of b.plan (now b) (Host w.host)

  abbrev programme : List Op
  programme = programme_of b.plan (now b) (Host w.host)

  ops_are : t.ops ≡ take number programme
  ops_are = ap (λ (v : HostView). v.ops) tables

  below : number ≤ length programme
  below = let l = numbers_below b.plan (past b.lines) (Host w.host) sound r next.actor.0 in omega (arith, l.0, l.1)

  at_installed : length t.ops ≡ number
  at_installed = ap length ops_are ∙ length-take-le number programme below

  pub need_is_met : needs w ≤ length t.ops
  need_is_met = omega (arith, at_installed, need_met b.plan (past b.lines) w.host w.index w.hand sound r next.actor working.hand)

  pub may_decide : is_some w.hand ≡ true → MayDecide t w
  may_decide has = record {
    has = has;
    host = ap (λ (v : HostView). v.host) tables;
    right = subst (λ (v : HostView). AreRight v w.cache) (sym tables) working.right;
  }

  module _ (w' : WorkerView) (did : HasDecided t w w') where
    abbrev hand_now : InHand
    hand_now = record did.in_hand { decision = Some did.decision }

    has_it : Has b.plan (past b.lines) (workers.actor_of w) did.in_hand.held did.in_hand.parcel did.in_hand.vni
    has_it = has_some b.plan (past b.lines) (workers.actor_of w) w.hand did.in_hand did.was working.hand

    pub may_settle : MaySettle b t 0 w'
    may_settle =
        subst (MaySettle b t 0) (sym did.worker)
        (record {
          is_seat = seat_is b.threads b.plan.settings (workers.actor_of w) next.threads;
          in_hand = hand_now;
          has = refl;
          holds = record { actor = next.actor; held = has_it.held; packet = has_it.packet; parcel = has_it.parcel; vni = has_it.vni };
          decision = did.decision;
          decided = did.decided;
          agree = ap (take w.compared) ops_are ∙ take_less w.compared number programme working.compared;
          host = ap (λ (v : HostView). v.host) tables;
          gateways = ap (λ (v : HostView). v.gateways) tables;
        })

    pub is_done : (answer : Settled) → Tells (announced_of b.plan (now b) (Host w'.host)) t.ops (programme_of b.plan (now b) (Host w'.host)) answer → answer ≡ Done
    is_done answer tells =
        tells_done (announced_of b.plan (now b) (Host w.host)) number t.ops programme answer ops_are
        (omega (arith, at_installed, (numbers_below b.plan (past b.lines) (Host w.host) sound r next.actor.0).0))
        (subst (λ n. Tells (announced_of b.plan (now b) (Host n)) t.ops (programme_of b.plan (now b) (Host n)) answer) (ap (λ (v : WorkerView). v.host) did.worker) tells)

    module _ (new : BookView) (w'' : WorkerView) (run : Run new.plan (past new.lines)) (settled : IsSettled b new t 0 w' w'') where
      -- what was settled is what was decided
      same_hand : settled.in_hand ≡ hand_now
      same_hand = let both : Some settled.in_hand ≡ Some hand_now = sym settled.was.0 ∙ ap (λ (v : WorkerView). v.hand) did.worker in cc

      same_decision : settled.decision ≡ did.decision
      same_decision = let both : Some settled.decision ≡ Some did.decision = sym settled.was.1 ∙ ap (λ (x : InHand). x.decision) same_hand in cc

      abbrev q : Queue
      q = settled.in_hand.held.queue

      abbrev i : ℕ
      i = settled.in_hand.held.packet

      abbrev key : FlowKey
      key = key_of q settled.in_hand.parcel settled.in_hand.vni

      abbrev settling : Event
      settling = event_of b.plan (now b) (workers.actor_of w') q i settled.decision

      same_actor : workers.actor_of w' ≡ workers.actor_of w
      same_actor = ap workers.actor_of did.worker

      number_is : settled.decision.at ≡ number
      number_is = ap (λ (d : Decision). d.at) same_decision ∙ (did.decided.number ∙ at_installed)

      has_now : Has b.plan (past b.lines) (workers.actor_of w) settled.in_hand.held settled.in_hand.parcel settled.in_hand.vni
      has_now = subst (λ (x : InHand). Has b.plan (past b.lines) (workers.actor_of w) x.held x.parcel x.vni) (sym same_hand) has_it

      in_plan : i < length b.plan.packets
      in_plan = held_is_known b.plan (past b.lines) (hand_place b.plan.settings (workers.actor_of w)) i sound r (settled.in_hand.held, has_now.held, refl)

      asks : asked b.plan (now b) settling ≡ Some (record { actor = workers.actor_of w'; key = key; at = settled.decision.at; way = settled.decision.way })
      asks =
          let it = is_read b.plan sound i in_plan in
          asked_is b.plan (now b) (workers.actor_of w') q i settled.in_hand.vni settled.in_hand.parcel settled.decision
          (has_now.parcel.vm ∙ ap (λ n. (packet_at b.plan n).vm) has_now.packet)
          (ap tuple_in (has_now.parcel.frame ∙ ap (λ n. (packet_at b.plan n).taken.frame) has_now.packet) ∙ it.tuple) has_now.vni

      same_cache : w'.cache ≡ cache_after b.plan (past b.lines) w.host w.index
      same_cache = ap (λ (v : WorkerView). v.cache) did.worker ∙ working.cache

      same_host : w'.host ≡ w.host
      same_host = ap (λ (v : WorkerView). v.host) did.worker

      found : settled.decision.way ≡ way b.plan.settings.gateways (cache_after b.plan (past b.lines) w.host w.index) programme settled.decision.at key
      found =
          settled.found
          ∙ (ap (λ c. way b.plan.settings.gateways c (programme_of b.plan (now b) (Host w'.host)) settled.decision.at key) same_cache
          ∙ ap (λ n. way b.plan.settings.gateways (cache_after b.plan (past b.lines) w.host w.index) (programme_of b.plan (now b) (Host n)) settled.decision.at key) same_host)

      pub settle_adds : Adds b new (workers.actor_of w)
      settle_adds = record {
        event = settling;
        line = settled.line;
        actor = acts_so b.plan (now b) (workers.actor_of w') q i settled.decision ∙ same_actor;
        number = subst (λ n. IsAtInstalled b.plan (now b) (decision_of (event_of b.plan (now b) n q i settled.decision))) (sym same_actor)
            (numbered b.plan (now b) w.host w.index q i settled.decision number_is);
        way = way_said b.plan (past b.lines) w.host w.index (asked b.plan (now b) settling) _ asks same_actor found;
      }

      run_on' : Run b.plan (settling ∷ past b.lines)
      run_on' = back b new 0 settling settled.line Run run

      no_install : (upto : ℕ) → settling ≡ Installed (Host w.host) upto → ⊥
      no_install upto = settles_no_install b.plan (now b) (workers.actor_of w') q i settled.decision w.host upto

      fields_are : w'' ≡ record w { hand = None; compared = w''.compared; cache = w''.cache }
      fields_are =
          settled.worker
          ∙ (ap (λ (v : WorkerView). record v { hand = None; compared = max v.compared (length t.ops); cache = workers.kept_after v.cache key settled.decision }) did.worker
          ∙ sym (ap (λ (v : WorkerView). record w { hand = None; compared = v.compared; cache = v.cache })
          (settled.worker ∙ ap (λ (v : WorkerView). record v { hand = None; compared = max v.compared (length t.ops); cache = workers.kept_after v.cache key settled.decision }) did.worker)))

      empty_hand : HasNothing b.plan (settling ∷ past b.lines) (workers.actor_of w)
      empty_hand =
          back b new 0 settling settled.line (λ p h. HasNothing p h (workers.actor_of w))
          (subst (λ a. HasNothing new.plan (past new.lines) a) same_actor settled.empty)

      compared_is : w''.compared ≡ max w.compared number
      compared_is =
          ap (λ (v : WorkerView). v.compared) settled.worker
          ∙ (ap (λ (v : WorkerView). max v.compared (length t.ops)) did.worker ∙ ap (max w.compared) at_installed)

      cache_now : w''.cache ≡ cache_after b.plan (settling ∷ past b.lines) w.host w.index
      cache_now =
          settled.kept
          ∙ (ap (λ c. decided b.plan.settings.gateways c (programme_of b.plan (now b) (Host w'.host)) settled.decision.at key) same_cache
          ∙ (ap (λ n. decided b.plan.settings.gateways (cache_after b.plan (past b.lines) w.host w.index) (programme_of b.plan (now b) (Host n)) settled.decision.at key) same_host
          ∙ sym (cache_own b.plan (past b.lines) settling w.host w.index _ asks same_actor)))

      right_now : AreRight (host_tables b.plan (past b.lines) w.host) w''.cache
      right_now =
          subst (λ (v : HostView). AreRight v w''.cache) tables
          (settled.right (subst (λ (v : HostView). AreRight v w'.cache) (sym tables)
          (subst (λ c. AreRight (host_tables b.plan (past b.lines) w.host) c) (sym (ap (λ (v : WorkerView). v.cache) did.worker)) working.right)))

      pub settle_works : IsWorking new.plan (past new.lines) w''
      settle_works =
          subst (IsWorking new.plan (past new.lines)) (sym fields_are)
          (carried_over b new 0 settling settled.line (λ p h. IsWorking p h (record w { hand = None; compared = w''.compared; cache = w''.cache }))
          (record {
            hand = empty_hand;
            compared = omega (arith, installed_same b.plan (past b.lines) settling sound run_on' w next.actor.0 no_install, compared_is, most_installed number w.compared working.compared);
            right = subst (λ (v : HostView). AreRight v w''.cache) (sym (tables_same b.plan (past b.lines) settling sound run_on' w next.actor.0 no_install)) right_now;
            cache = cache_now;
          }))

      pub same_place : (w''.host ≡ w.host) × (w''.index ≡ w.index)
      same_place = (ap (λ (v : WorkerView). v.host) fields_are, ap (λ (v : WorkerView). v.index) fields_are)

-- ---- where no packet was taken there was one in hand

pub took_not : (o : Option InHand) (may : Type 0) (answer : Bool) → (IsTrue answer ↔ ((o ≡ None) × may)) → answer ≡ false → may → is_some o ≡ true
took_not None may answer tells is can = absurd (let clash : false ≡ true = sym is ∙ tells.1 (refl, can) in cc)
took_not (Some x) may answer tells is can = refl
