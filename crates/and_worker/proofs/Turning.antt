-- What is in a worker's hand after a take, and what is left after its packet was settled.
use Rattle.std.proofs.Common.{◌≡◌, ℕ, ◌<◌, ◌≤◌, max, List, length, take, sym, ap, ◌∙◌, subst, refl, Option, Some, None, IsOk}
use Rattle.and_policy.specs.declared.decision.Decision.{Decision}
use Rattle.and_policy.specs.Frames.{fields}
use Rattle.and_parcel.specs.Parcels.{ParcelView}
use Rattle.and_events.specs.declared.event.Actor.{Actor}
use Rattle.and_events.specs.declared.event.Event.TheVariants.{Take}
use Rattle.and_events.specs.declared.event.Held.{Held}
use Rattle.and_events.specs.declared.event.Node.TheVariants.{Host}
use Rattle.and_events.specs.declared.event.Queue.{Queue}
use Rattle.and_events.specs.declared.plan.Plan.{Plan}
use Rattle.and_events.specs.Places.{hand_place, node_of, IsActor}
use Rattle.and_events.specs.Run.{Run, past}
use Rattle.and_events.specs.Sound.{IsSound}
use Rattle.and_events.specs.State.{packet_at, carried_at, installed_of, programme_of, announced_of}
use Rattle.and_laws.proofs.Losses.{held_is_known}
use Rattle.and_kept.specs.Moves.{source_in}
use Rattle.and_book.specs.Views.{BookView, IsPacket, MayTake, now, with_line}
use Rattle.and_agree.proofs.After.{empty_after, held_after, plan_after, programme_after}
use Rattle.and_agree.proofs.Agreeing.{agree_more}
use Rattle.and_agree.specs.declared.comparing.Settled.{Settled}
use Rattle.and_agree.specs.declared.comparing.Settled.TheVariants.{Done, Early, Differs}
use Rattle.and_tables.specs.HostViews.{HostView}
use Rattle.and_decide.specs.Deciding.{AreRight}
use Rattle.and_policy.specs.Caches.{Cache, way, decided}
use Rattle.and_agree.proofs.Readable.{is_read}
use Rattle.and_worker.specs.declared.worker.InHand.{InHand}
use Rattle.and_worker.specs.Workers.{Agree, HasSettled, HasTaken, IsInHand, IsSettled, MayPutDown, MaySettle, WorkerView, actor_of, event_of, forgotten, kept_after, key_of}
use Rattle.and_worker.proofs.Deciding.{found_here, kept_here, may_put_down, outcome_is, settles, still_right, way_is}

pub took : (old new : BookView) (a : Actor) (seat : ℕ) (held : Held) (q : Queue) (parcel : ParcelView) (vni : ℕ) → MayTake old.plan (now old) a → new ≡ with_line old seat (Take a held.queue held.packet)
    → held ≡ record { packet = parcel.packet; need = installed_of old.plan (now old) (node_of a); queue = q } → IsPacket old.plan parcel → vni ≡ (carried_at (now new) held.packet).net
    → IsInHand new a (record { held = held; parcel = parcel; vni = vni; decision = None })
took old new a seat held q parcel vni may line is right net =
    let plan : new.plan ≡ old.plan = plan_after old new seat (Take a held.queue held.packet) line in
    record {
      actor = subst (λ (p : Plan). IsActor p.settings a) (sym plan) may.actor;
      held = held_after old new seat a held parcel.packet q may line is;
      packet = sym (ap (λ (h : Held). h.packet) is);
      parcel = subst (λ (p : Plan). IsPacket p parcel) (sym plan) right;
      vni = net;
    }

pub passed : (old new : BookView) (t : HostView) (seat : ℕ) (w after : WorkerView) (sound : IsSound old.plan) (r : Run old.plan (past old.lines)) (may : MaySettle old t seat w)
    → length t.ops ≤ announced_of old.plan (now old) (Host w.host) → take (length t.ops) (programme_of old.plan (now old) (Host w.host)) ≡ t.ops
    → new ≡ with_line old seat (event_of old.plan (now old) (actor_of w) may.in_hand.held.queue may.in_hand.parcel.packet may.decision)
    → after ≡ record w { hand = None; compared = max w.compared (length t.ops); cache = kept_after w.cache (key_of may.in_hand.held.queue may.in_hand.parcel may.in_hand.vni) may.decision }
    → IsSettled old new t seat w after
passed old new t seat w after sound r may most same line is =
    let a : Actor = actor_of w in
    let x : InHand = may.in_hand in
    let d : Decision = may.decision in
    let q = x.held.queue in
    let key = key_of q x.parcel x.vni in
    let p = programme_of old.plan (now old) (Host w.host) in
    let e = event_of old.plan (now old) a q x.held.packet d in
    let there : new ≡ with_line old seat e = line ∙ ap (λ i. with_line old seat (event_of old.plan (now old) a q i d)) may.holds.packet in
    let it = settles old.plan (now old) a q x.held.packet d in
    let outcome = outcome_is old w.host w.index x sound r may.holds t w.cache d may.decided may.gateways most same in
    let found = found_here t w.cache key d may.decided.number outcome (way_is old w.host w.index x sound r may.holds t w.cache d may.decided may.gateways most same) p same in
    let kept = kept_here t w.cache key d may.decided.number outcome (way_is old w.host w.index x sound r may.holds t w.cache d may.decided may.gateways most same) p same in
    let cache : after.cache ≡ kept_after w.cache key d = ap (λ (v : WorkerView). v.cache) is in
    record {
      in_hand = x;
      decision = d;
      was = (may.has, may.decided.is);
      line = there;
      worker = is;
      empty = empty_after old new seat e there a it;
      agree = subst (λ (v : WorkerView). Agree new v t.ops) (sym is)
          (agree_more t.ops p same w.compared may.agree ∙ ap (take (max w.compared (length t.ops))) (sym (programme_after old new seat e there a (Host w.host) it)));
      right = λ right. subst (AreRight t) (sym cache) (still_right t w.cache key d may.decided.number outcome right);
      found = found ∙ ap (λ g. way g w.cache p d.at key) may.gateways;
      kept = cache ∙ (kept ∙ ap (λ g. decided g w.cache p d.at key) may.gateways);
    }

-- ---- a take

-- what was taken is a packet of the plan, with a readable frame
module _ (old new : BookView) (a : Actor) (seat : ℕ) (held : Held) (q : Queue) (parcel : ParcelView) (may : MayTake old.plan (now old) a) (line : new ≡ with_line old seat (Take a held.queue held.packet))
    (is : held ≡ record { packet = parcel.packet; need = installed_of old.plan (now old) (node_of a); queue = q }) where
  pub taken_in_plan : IsSound new.plan → Run new.plan (past new.lines) → held.packet < length new.plan.packets
  taken_in_plan sound r =
      held_is_known new.plan (past new.lines) (hand_place new.plan.settings a) held.packet sound r (held, held_after old new seat a held parcel.packet q may line is, refl)

  pub taken_readable : IsSound new.plan → Run new.plan (past new.lines) → IsPacket old.plan parcel → IsOk (fields parcel.frame)
  taken_readable sound r right =
      let packet : parcel.packet ≡ held.packet = sym (ap (λ (h : Held). h.packet) is) in
      let frame : parcel.frame ≡ (packet_at new.plan held.packet).taken.frame =
      right.frame ∙ (ap (λ n. (packet_at old.plan n).taken.frame) packet ∙ ap (λ (p : Plan). (packet_at p held.packet).taken.frame) (sym (plan_after old new seat (Take a held.queue held.packet) line))) in
      subst (λ f. IsOk (fields f)) (sym frame) (is_read new.plan sound held.packet (taken_in_plan sound r)).read

pub taken : (old new : BookView) (seat : ℕ) (w : WorkerView) (held : Held) (parcel : ParcelView) (vni : ℕ) → MayTake old.plan (now old) (actor_of w) → new ≡ with_line old seat (Take (actor_of w) held.queue held.packet)
    → held ≡ record { packet = parcel.packet; need = installed_of old.plan (now old) (Host w.host); queue = source_in old.plan.settings (now old).flow (actor_of w) }
    → IsPacket old.plan parcel → vni ≡ (carried_at (now new) held.packet).net
    → HasTaken old new seat w (record w { hand = Some (record { held = held; parcel = parcel; vni = vni; decision = None }) })
taken old new seat w held parcel vni may line is right net =
    record {
      in_hand = record { held = held; parcel = parcel; vni = vni; decision = None };
      worker = refl;
      line = line;
      queue = ap (λ (x : Held). x.queue) is;
      need = ap (λ (x : Held). x.need) is;
      undecided = refl;
      holds = took old new (actor_of w) seat held (source_in old.plan.settings (now old).flow (actor_of w)) parcel vni may line is right net;
    }

-- ---- what is settled

some_same : {A : Type 0} (x y : A) → Some x ≡ Some y → x ≡ y
some_same x y e = cc

module _ (b : BookView) (t : HostView) (seat : ℕ) (w : WorkerView) (x : InHand) (d : Decision) (may : MaySettle b t seat w) (has : w.hand ≡ Some x) (was : x.decision ≡ Some d)
    (sound : IsSound b.plan) (r : Run b.plan (past b.lines)) (most : length t.ops ≤ announced_of b.plan (now b) (Host w.host))
    (same : take (length t.ops) (programme_of b.plan (now b) (Host w.host)) ≡ t.ops) where
  it_is : may.in_hand ≡ x
  it_is = some_same may.in_hand x (sym may.has ∙ has)

  so_decided : may.decision ≡ d
  so_decided = some_same may.decision d (sym may.decided.is ∙ (ap (λ (y : InHand). y.decision) it_is ∙ was))

  pub ready : MayPutDown b.plan (now b) (actor_of w) x d
  ready =
      subst (λ (y : InHand). MayPutDown b.plan (now b) (actor_of w) y d) it_is
      (subst (λ (e : Decision). MayPutDown b.plan (now b) (actor_of w) may.in_hand e) so_decided
      (may_put_down b w.host w.index may.in_hand sound r may.holds t w.cache may.decision may.decided may.gateways most same))

  pub right_parcel : IsPacket b.plan x.parcel
  right_parcel = subst (λ (y : InHand). IsPacket b.plan y.parcel) it_is may.holds.parcel

  pub done : (new : BookView) (cache : Cache) (compared : ℕ) (hand : Option InHand) → new ≡ with_line b seat (event_of b.plan (now b) (actor_of w) x.held.queue x.parcel.packet d)
      → cache ≡ kept_after w.cache (key_of x.held.queue x.parcel x.vni) d → compared ≡ max w.compared (length t.ops) → hand ≡ None
      → IsSettled b new t seat w (record { host = w.host; index = w.index; cache = cache; compared = compared; hand = hand })
  done new cache compared hand line kept more empty =
      passed b new t seat w (record { host = w.host; index = w.index; cache = cache; compared = compared; hand = hand }) sound r may most same
      (line
      ∙ (ap (λ (y : InHand). with_line b seat (event_of b.plan (now b) (actor_of w) y.held.queue y.parcel.packet d)) (sym it_is)
      ∙ ap (λ (e : Decision). with_line b seat (event_of b.plan (now b) (actor_of w) may.in_hand.held.queue may.in_hand.parcel.packet e)) (sym so_decided)))
      (ap (λ k. record { host = w.host; index = w.index; cache = k; compared = compared; hand = hand })
      (kept
      ∙ (ap (λ (y : InHand). kept_after w.cache (key_of y.held.queue y.parcel y.vni) d) (sym it_is)
      ∙ ap (λ (e : Decision). kept_after w.cache (key_of may.in_hand.held.queue may.in_hand.parcel may.in_hand.vni) e) (sym so_decided)))
      ∙ (ap (λ n. record { host = w.host; index = w.index; cache = kept_after w.cache (key_of may.in_hand.held.queue may.in_hand.parcel may.in_hand.vni) may.decision; compared = n; hand = hand }) more
      ∙ ap (λ o. record { host = w.host; index = w.index; cache = kept_after w.cache (key_of may.in_hand.held.queue may.in_hand.parcel may.in_hand.vni) may.decision; compared = max w.compared (length t.ops); hand = o }) empty))

-- nothing is settled
pub unsettled : (b : BookView) (t : HostView) (seat : ℕ) (w after : WorkerView) (answer : Settled) → (answer ≡ Done → ⊥) → after ≡ record w { hand = forgotten w.hand } → HasSettled b b t seat w after answer
unsettled b t seat w after Done other is = absurd (other refl)
unsettled b t seat w after (Early n) other is = (refl, is)
unsettled b t seat w after (Differs at table book) other is = (refl, is)
