-- A packet in a host worker's hand: what was decided of it by agreeing tables may settle it, and what the cache is then.
use Rattle.std.proofs.Common.{◌≡◌, ℕ, ◌<◌, ◌≤◌, Bool, true, false, List, length, take, refl, sym, ap, ◌∙◌, subst, arith, Option, Some, None, ◌⊎◌, inl, inr}
use Rattle.std.specs.Prelude.{is_some}
use Rattle.std.proofs.Math.Seq.{take-length}
use Rattle.and_policy.specs.declared.cached.Cached.{Cached}
use Rattle.and_policy.specs.declared.decision.Decision.{Decision}
use Rattle.and_policy.specs.declared.decision.Landing.{Landing}
use Rattle.and_policy.specs.declared.decision.Leaving.{Leaving}
use Rattle.and_policy.specs.declared.decision.Outcome.{Outcome}
use Rattle.and_policy.specs.declared.decision.Outcome.TheVariants as outcomes
use Rattle.and_policy.specs.declared.decision.Way.{Way}
use Rattle.and_policy.specs.declared.entry.Entry.{Entry}
use Rattle.and_policy.specs.declared.entry.FlowKey.{FlowKey}
use Rattle.and_policy.specs.declared.entry.Op.{Op}
use Rattle.and_policy.specs.declared.packet.Tuple.{Tuple}
use Rattle.and_policy.specs.Caches.{Cache, cache_by, decided, floor, hits, is_cached, look, said, way, way_by}
use Rattle.and_policy.specs.Fitting.{IsLog}
use Rattle.and_policy.specs.Frames.{tuple_in}
use Rattle.and_policy.specs.Ingress.{landing}
use Rattle.and_policy.specs.Programmes.{entries, leaving, prefix}
use Rattle.and_parcel.specs.Parcels.{ParcelView}
use Rattle.and_events.specs.declared.event.Actor.{Actor}
use Rattle.and_events.specs.declared.event.Actor.TheVariants.{Worker}
use Rattle.and_events.specs.declared.event.Event.{Event}
use Rattle.and_events.specs.declared.event.Held.{Held}
use Rattle.and_events.specs.declared.event.Node.TheVariants.{Host}
use Rattle.and_events.specs.declared.event.Queue.{Queue}
use Rattle.and_events.specs.declared.event.Queue.TheVariants.{Out, Wire, Seal}
use Rattle.and_events.specs.declared.plan.Plan.{Plan}
use Rattle.and_events.specs.Legal.{Decides, entries_at}
use Rattle.and_events.specs.Places.{hand_place}
use Rattle.and_events.specs.Run.{Run, past}
use Rattle.and_events.specs.Sound.{IsSound}
use Rattle.and_events.specs.State.{State, packet_at, tuple_at, carried_at, programme_of, announced_of}
use Rattle.and_laws.specs.Stages.{MayTake as MayTakeFrom}
use Rattle.and_laws.proofs.Hands.{right_hands}
use Rattle.and_laws.proofs.Losses.{held_is_known}
use Rattle.and_book.specs.Settling.{landing_said, leaving_said}
use Rattle.and_book.specs.Views.{BookView, now}
use Rattle.and_agree.proofs.After.{Settles}
use Rattle.and_agree.proofs.Agreeing.{both, decides, same_leaving, same_prefix, same_said, tables_logged}
use Rattle.and_agree.proofs.Readable.{is_read}
use Rattle.and_tables.specs.HostViews.{HostView}
use Rattle.and_decide.proofs.Remembered.{right_put}
use Rattle.and_decide.specs.Deciding.{AreRight, arrival, departure}
use Rattle.and_worker.specs.declared.worker.InHand.{InHand}
use Rattle.and_worker.specs.Workers.{IsInHand, IsDecided, MayPutDownFrom, decision_by, event_of, is_fast, kept_after, key_of}

-- ---- of a cache

-- what was decided is what the definition says at the tables' number
said_by_decision : (q : Queue) (t : HostView) (c : Cache) (parcel : ParcelView) (vni : ℕ) → (decision_by q t c parcel vni).outcome ≡ said t.gateways t.ops (length t.ops) (key_of q parcel vni)
unfolding said
said_by_decision Out t c parcel vni = refl
said_by_decision Wire t c parcel vni = refl
said_by_decision Seal t c parcel vni = refl

way_by_decision : (q : Queue) (t : HostView) (c : Cache) (parcel : ParcelView) (vni : ℕ) → (decision_by q t c parcel vni).way ≡ way t.gateways c t.ops (length t.ops) (key_of q parcel vni)
way_by_decision Out t c parcel vni = refl
way_by_decision Wire t c parcel vni = refl
way_by_decision Seal t c parcel vni = refl

-- a cache keeps what the definition says that it keeps
keeps : (cached hit : Bool) (c : Cache) (new : Cached) → cache_by cached (is_fast (way_by cached hit)) c new ≡ cache_by cached hit c new
keeps true true c new = refl
keeps true false c new = refl
keeps false true c new = refl
keeps false false c new = refl

right_by : (cached fast : Bool) (t : HostView) (c : Cache) (new : Cached) → AreRight t c → (new.stamp ≤ length t.ops) × (new.outcome ≡ said t.gateways t.ops new.stamp new.key) → AreRight t (cache_by cached fast c new)
right_by true false t c new right is = right_put t c new right is
right_by true true t c new right is = right
right_by false true t c new right is = right
right_by false false t c new right is = right

module _ (t : HostView) (c : Cache) (key : FlowKey) (d : Decision) (number : d.at ≡ length t.ops) (outcome : d.outcome ≡ said t.gateways t.ops (length t.ops) key) where
  -- it stays right
  pub still_right : AreRight t c → AreRight t (kept_after c key d)
  still_right right =
      right_by (is_cached d.outcome) (is_fast d.way) t c (record { key = key; stamp = d.at; outcome = d.outcome }) right
      (omega (arith, number), outcome ∙ ap (λ n. said t.gateways t.ops n key) (sym number))

  module _ (way_is : d.way ≡ way t.gateways c t.ops (length t.ops) key) (p : List Op) (same : take (length t.ops) p ≡ t.ops) where
    said_here : said t.gateways t.ops (length t.ops) key ≡ said t.gateways p d.at key
    said_here = same_said t.ops p (length t.ops) (both t.ops p same) t.gateways key ∙ ap (λ n. said t.gateways p n key) (sym number)

    hits_here : hits c t.ops (length t.ops) key ≡ hits c p d.at key
    hits_here = ap (λ n. is_some (look c key n)) (sym number)

    pub found_here : d.way ≡ way t.gateways c p d.at key
    found_here = way_is ∙ (ap (λ o. way_by (is_cached o) (hits c t.ops (length t.ops) key)) said_here ∙ ap (way_by (is_cached (said t.gateways p d.at key))) hits_here)

    pub kept_here : kept_after c key d ≡ decided t.gateways c p d.at key
    kept_here =
        let o = said t.gateways p d.at key in
        let hit = hits c p d.at key in
        let is : d.outcome ≡ o = outcome ∙ said_here in
        ap (λ x. cache_by (is_cached x) (is_fast d.way) c (record { key = key; stamp = d.at; outcome = x })) is
        ∙ (ap (λ w. cache_by (is_cached o) (is_fast w) c (record { key = key; stamp = d.at; outcome = o })) found_here
        ∙ keeps (is_cached o) hit c (record { key = key; stamp = d.at; outcome = o }))

-- ---- of a packet

from_queue : (h w : ℕ) (q : Queue) → MayTakeFrom (Worker h w) q → (q ≡ Out) ⊎ (q ≡ Wire)
from_queue h w Out may = inl refl
from_queue h w Wire may = inr refl
from_queue h w Seal may = absurd may

module _ (b : BookView) (host index : ℕ) (x : InHand) (sound : IsSound b.plan) (r : Run b.plan (past b.lines)) (holds : IsInHand b (Worker host index) x) where
  -- a packet in hand is one of the plan
  pub in_plan : x.held.packet < length b.plan.packets
  in_plan = held_is_known b.plan (past b.lines) (hand_place b.plan.settings (Worker host index)) x.held.packet sound r (x.held, holds.held, refl)

  -- its frame has its tuple
  tuple : tuple_in x.parcel.frame ≡ tuple_at b.plan x.parcel.packet
  tuple =
      let it = is_read b.plan sound x.parcel.packet (omega (arith, holds.packet, in_plan)) in
      ap tuple_in holds.parcel.frame ∙ it.tuple

  module _ (t : HostView) (c : Cache) (d : Decision) (decided : IsDecided t c x d) (gateways : t.gateways ≡ b.plan.settings.gateways) (most : length t.ops ≤ announced_of b.plan (now b) (Host host))
      (same : take (length t.ops) (programme_of b.plan (now b) (Host host)) ≡ t.ops) where
    pub is_logged : IsLog None (entries t.ops)
    is_logged = tables_logged b.plan (past b.lines) sound r (Host host) holds.actor.0 t.ops same

    pub outcome_is : d.outcome ≡ said t.gateways t.ops (length t.ops) (key_of x.held.queue x.parcel x.vni)
    outcome_is = ap (λ (z : Decision). z.outcome) (decided.said is_logged) ∙ said_by_decision x.held.queue t c x.parcel x.vni

    pub way_is : d.way ≡ way t.gateways c t.ops (length t.ops) (key_of x.held.queue x.parcel x.vni)
    way_is = ap (λ (z : Decision). z.way) (decided.said is_logged) ∙ way_by_decision x.held.queue t c x.parcel x.vni

    may_decide : (q : Queue) → x.held.queue ≡ q → Decides b.plan (now b) (Worker host index) x.parcel.packet q d.at
    may_decide q from =
        decides b.plan (now b) (Worker host index) x.held x.parcel.packet d.at q holds.actor holds.held holds.packet from (omega (arith, decided.least, decided.number))
        (omega (arith, most, decided.number))

    leaves : d ≡ departure t c x.parcel → d.outcome ≡ outcomes.Leaving (leaving_said b.plan (now b) (Worker host index) x.parcel.packet d.at)
    leaves is =
        let p = programme_of b.plan (now b) (Host host) in
        let n = length t.ops in
        ap (λ (z : Decision). z.outcome) is
        ∙ ap outcomes.Leaving (
        same_leaving t.ops p n (both t.ops p same) t.gateways x.parcel.vm (tuple_in x.parcel.frame)
        ∙ (ap (λ g. leaving g p n x.parcel.vm (tuple_in x.parcel.frame)) gateways
        ∙ (ap (λ v. leaving b.plan.settings.gateways p n v (tuple_in x.parcel.frame)) holds.parcel.vm
        ∙ (ap (leaving b.plan.settings.gateways p n (packet_at b.plan x.parcel.packet).vm) tuple
        ∙ ap (λ j. leaving b.plan.settings.gateways p j (packet_at b.plan x.parcel.packet).vm (tuple_at b.plan x.parcel.packet)) (sym decided.number)))))

    lands : d ≡ arrival t c x.vni x.parcel → d.outcome ≡ outcomes.Landing (landing_said b.plan (now b) (Worker host index) x.parcel.packet d.at)
    lands is =
        let p = programme_of b.plan (now b) (Host host) in
        let n = length t.ops in
        let net = x.vni in
        let vni : x.vni ≡ (carried_at (now b) x.parcel.packet).net = holds.vni ∙ ap (λ i. (carried_at (now b) i).net) (sym holds.packet) in
        ap (λ (z : Decision). z.outcome) is
        ∙ ap outcomes.Landing (
        ap (λ k. landing k x.vni (tuple_in x.parcel.frame)) (same_prefix t.ops p n (both t.ops p same))
        ∙ (ap (λ v. landing (prefix p n) v (tuple_in x.parcel.frame)) vni
        ∙ (ap (landing (prefix p n) (carried_at (now b) x.parcel.packet).net) tuple
        ∙ ap (λ j. landing (prefix p j) (carried_at (now b) x.parcel.packet).net (tuple_at b.plan x.parcel.packet)) (sym decided.number))))

    put_down : (q : Queue) → x.held.queue ≡ q → d ≡ decision_by q t c x.parcel x.vni → (q ≡ Out) ⊎ (q ≡ Wire) → MayPutDownFrom q b.plan (now b) (Worker host index) x.parcel.packet d
    put_down Out from is either = record { decides = may_decide Out from; worker = tt; said = leaves is }
    put_down Wire from is either = record { decides = may_decide Wire from; worker = tt; said = lands is }
    put_down Seal from is (inl e) = absurd (cc)
    put_down Seal from is (inr e) = absurd (cc)

    pub may_put_down : MayPutDownFrom x.held.queue b.plan (now b) (Worker host index) x.parcel.packet d
    may_put_down =
        put_down x.held.queue refl (decided.said is_logged)
        (from_queue host index x.held.queue (right_hands b.plan (past b.lines) r (Worker host index) x.held holds.actor tt holds.held))

-- ---- the event

pub settles : (plan : Plan) (s : State) (a : Actor) (q : Queue) (i : ℕ) (d : Decision) → Settles (event_of plan s a q i d) a
settles plan s a Out i d = refl
settles plan s a Wire i d = refl
settles plan s a Seal i d = refl
