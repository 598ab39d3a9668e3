-- The turn of a gateway's worker: a packet taken, or the one in hand decided of and settled.
use Rattle.std.proofs.Common.{◌≡◌, ℕ, ◌<◌, ◌≤◌, Bool, true, false, max, List, ◌∷◌, length, take, refl, sym, ap, ◌∙◌, subst, arith, Option, Some, None}
use Rattle.std.specs.Prelude.{◌↔◌, IsTrue, is_some}
use Rattle.std.proofs.lemmas.List.{length-take-le}
use Rattle.and_policy.specs.declared.decision.GateDecision.{GateDecision}
use Rattle.and_policy.specs.declared.decision.GateDecision.TheVariants as decisions
use Rattle.and_policy.specs.declared.entry.Op.{Op}
use Rattle.and_events.specs.declared.event.Actor.{Actor}
use Rattle.and_events.specs.declared.event.Actor.TheVariants.{Gateway}
use Rattle.and_events.specs.declared.event.Event.{Event}
use Rattle.and_events.specs.declared.event.Event.TheVariants.{Take, Installed}
use Rattle.and_events.specs.declared.event.Node.TheVariants.{Gate}
use Rattle.and_events.specs.declared.event.Queue.TheVariants.{Wire}
use Rattle.and_events.specs.declared.plan.Plan.{Plan}
use Rattle.and_events.specs.Flow.{hand_at}
use Rattle.and_events.specs.Fresh.{decision_of}
use Rattle.and_events.specs.Ordered.{IsAtInstalled}
use Rattle.and_events.specs.Places.{actor_of, hand_place, IsActor}
use Rattle.and_events.specs.Run.{Run, past}
use Rattle.and_events.specs.Sound.{IsSound}
use Rattle.and_events.specs.State.{State, state, announced_of, installed_of, programme_of}
use Rattle.and_kept.specs.Settling.{gate_event}
use Rattle.and_others.specs.Ways.{IsWay, asked}
use Rattle.and_others.proofs.Growing.{installed_lasts, numbers_below}
use Rattle.and_others.proofs.Lasting.{need_reached}
use Rattle.and_book.specs.Settling.{gate_number}
use Rattle.and_book.specs.Views.{BookView, now}
use Rattle.and_agree.specs.declared.comparing.Settled.{Settled}
use Rattle.and_agree.specs.declared.comparing.Settled.TheVariants.{Done}
use Rattle.and_agree.specs.Agreeing.{Tells}
use Rattle.and_hover.specs.declared.hover.InHand.{InHand}
use Rattle.and_hover.specs.Holding.{HoldsAsBook}
use Rattle.and_hover.specs.Hovers.{HasDecided, HasTaken, HoverView, IsSettled, MaySettle, need_in, needs}
use Rattle.and_replay.specs.Parting.{HasNothing, HoverHas, IsPassing, installed_ops}
use Rattle.and_replay.specs.Turns.{Adds, IsNext}
use Rattle.and_replay.proofs.Adding.{carried_over, back}
use Rattle.and_replay.proofs.Frames.{take_less}
use Rattle.and_replay.proofs.Working.{most_installed, seat_is, tells_done}

-- the worker goes on, with another packet in hand or none, where the event installs nothing there
passes_on : (plan : Plan) (h : List Event) (e : Event) (v : HoverView) (o : Option InHand) (compared : ℕ) → IsSound plan → Run plan (e ∷ h) → v.gateway < plan.settings.gateways → ((upto : ℕ) → e ≡ Installed (Gate v.gateway) upto → ⊥)
    → compared ≤ installed_of plan (state plan h) (Gate v.gateway) → HoverHas plan (e ∷ h) (Gateway v.gateway) o → IsPassing plan (e ∷ h) (record v { hand = o; compared = compared })
passes_on plan h e v o compared sound r is none most has = record {
  hand = has;
  compared = omega (arith, most, installed_lasts plan h e (Gate v.gateway) sound r is none);
}

-- ---- a packet is taken

module _ (old new : BookView) (v v' : HoverView) (sound : IsSound old.plan) (r : Run new.plan (past new.lines)) (is : v.gateway < old.plan.settings.gateways) (passing : IsPassing old.plan (past old.lines) v)
    (took : HasTaken old new 0 v v') where
  abbrev taking : Event
  taking = Take (Gateway v.gateway) Wire took.in_hand.held.packet

  pub take_adds : Adds old new (Gateway v.gateway)
  take_adds = record { event = taking; line = took.line; actor = refl; number = tt; way = tt }

  has_taken : HoverHas old.plan (taking ∷ past old.lines) (Gateway v.gateway) (Some took.in_hand)
  has_taken =
      back old new 0 taking took.line (λ p h. HoverHas p h (Gateway v.gateway) (Some took.in_hand))
      (record { held = took.holds.held; packet = took.holds.packet; parcel = took.holds.parcel; vni = took.holds.vni }, took.holds.redirect)

  pub take_passes : IsPassing new.plan (past new.lines) v'
  take_passes =
      subst (IsPassing new.plan (past new.lines)) (sym took.worker)
      (carried_over old new 0 taking took.line (λ p h. IsPassing p h (record v { hand = Some took.in_hand }))
      (passes_on old.plan (past old.lines) taking v (Some took.in_hand) v.compared sound (back old new 0 taking took.line Run r) is (λ upto e. cc) passing.compared has_taken))

-- ---- before a packet is taken

holds_as : (plan : Plan) (h : List Event) (a : Actor) (o : Option InHand) → HoverHas plan h a o → is_some (hand_at (state plan h).flow.hands (hand_place plan.settings a)) ≡ is_some o
holds_as plan h a None has = ap is_some has
holds_as plan h a (Some x) has = ap is_some has.0.held

pub as_book : (b : BookView) (v : HoverView) → IsPassing b.plan (past b.lines) v → HoldsAsBook b (Gateway v.gateway) v.hand
as_book b v is = holds_as b.plan (past b.lines) (Gateway v.gateway) v.hand is.hand

-- ---- a packet is decided of and settled

need_met : (plan : Plan) (h : List Event) (g : ℕ) (o : Option InHand) → IsSound plan → Run plan h → IsActor plan.settings (Gateway g) → HoverHas plan h (Gateway g) o → need_in o ≤ installed_of plan (state plan h) (Gate g)
need_met plan h g None sound r is has = omega arith
need_met plan h g (Some x) sound r is has = need_reached plan h (Gateway g) x.held sound r is tt has.0.held

asks_nothing : (plan : Plan) (h : List Event) (s : State) (a : Actor) (i : ℕ) (d : GateDecision) → IsWay plan h (asked plan s (gate_event plan.settings s.flow a i d))
asks_nothing plan h s a i (decisions.Routed at said) = tt
asks_nothing plan h s a i (decisions.Located at said) = tt

acts_so : (plan : Plan) (s : State) (a : Actor) (i : ℕ) (d : GateDecision) → actor_of (gate_event plan.settings s.flow a i d) ≡ a
acts_so plan s a i (decisions.Routed at said) = refl
acts_so plan s a i (decisions.Located at said) = refl

numbered : (plan : Plan) (s : State) (g i : ℕ) (d : GateDecision) → gate_number d ≡ installed_of plan s (Gate g) → IsAtInstalled plan s (decision_of (gate_event plan.settings s.flow (Gateway g) i d))
numbered plan s g i (decisions.Routed at said) is = is
numbered plan s g i (decisions.Located at said) is = is

settles_no_install : (plan : Plan) (s : State) (a : Actor) (i : ℕ) (d : GateDecision) (g upto : ℕ) → gate_event plan.settings s.flow a i d ≡ Installed (Gate g) upto → ⊥
settles_no_install plan s a i (decisions.Routed at said) g upto e = cc
settles_no_install plan s a i (decisions.Located at said) g upto e = cc

module _ (b : BookView) (tables : List Op) (v : HoverView) (sound : IsSound b.plan) (r : Run b.plan (past b.lines)) (next : IsNext b (Gateway v.gateway)) (are : tables ≡ installed_ops b.plan (past b.lines) (Gate v.gateway))
    (passing : IsPassing b.plan (past b.lines) v) where
  abbrev number : ℕ
  number = installed_of b.plan (now b) (Gate v.gateway)

  abbrev programme : List Op
  programme = programme_of b.plan (now b) (Gate v.gateway)

  below : number ≤ length programme
  below = let l = numbers_below b.plan (past b.lines) (Gate v.gateway) sound r next.actor in omega (arith, l.0, l.1)

  at_installed : length tables ≡ number
  at_installed = ap length are ∙ length-take-le number programme below

  pub need_is_met : needs v ≤ length tables
  need_is_met = omega (arith, at_installed, need_met b.plan (past b.lines) v.gateway v.hand sound r next.actor passing.hand)

  module _ (v' : HoverView) (did : HasDecided tables v v') where
    abbrev hand_now : InHand
    hand_now = record did.in_hand { decision = Some did.decision }

    has_it : HoverHas b.plan (past b.lines) (Gateway v.gateway) (Some did.in_hand)
    has_it = subst (HoverHas b.plan (past b.lines) (Gateway v.gateway)) did.was passing.hand

    same_gateway : v'.gateway ≡ v.gateway
    same_gateway = ap (λ (z : HoverView). z.gateway) did.worker

    pub may_settle : MaySettle b tables 0 v'
    may_settle =
        subst (MaySettle b tables 0) (sym did.worker)
        (record {
          is_seat = seat_is b.threads b.plan.settings (Gateway v.gateway) next.threads;
          in_hand = hand_now;
          has = refl;
          holds = record { actor = next.actor; held = has_it.0.held; packet = has_it.0.packet; parcel = has_it.0.parcel; vni = has_it.0.vni; redirect = has_it.1 };
          decision = did.decision;
          decided = did.decided;
          agree = ap (take v.compared) are ∙ take_less v.compared number programme passing.compared;
        })

    pub is_done : (answer : Settled) → Tells (announced_of b.plan (now b) (Gate v'.gateway)) tables (programme_of b.plan (now b) (Gate v'.gateway)) answer → answer ≡ Done
    is_done answer tells =
        tells_done (announced_of b.plan (now b) (Gate v.gateway)) number tables programme answer are
        (omega (arith, at_installed, (numbers_below b.plan (past b.lines) (Gate v.gateway) sound r next.actor).0))
        (subst (λ n. Tells (announced_of b.plan (now b) (Gate n)) tables (programme_of b.plan (now b) (Gate n)) answer) same_gateway tells)

    module _ (new : BookView) (v'' : HoverView) (run : Run new.plan (past new.lines)) (settled : IsSettled b new tables 0 v' v'') where
      same_hand : settled.in_hand ≡ hand_now
      same_hand = let both : Some settled.in_hand ≡ Some hand_now = sym settled.was.0 ∙ ap (λ (z : HoverView). z.hand) did.worker in cc

      same_decision : settled.decision ≡ did.decision
      same_decision = let both : Some settled.decision ≡ Some did.decision = sym settled.was.1 ∙ ap (λ (x : InHand). x.decision) same_hand in cc

      abbrev i : ℕ
      i = settled.in_hand.held.packet

      abbrev settling : Event
      settling = gate_event b.plan.settings (now b).flow (Gateway v'.gateway) i settled.decision

      same_actor : Gateway v'.gateway ≡ Gateway v.gateway
      same_actor = ap Gateway same_gateway

      number_is : gate_number settled.decision ≡ number
      number_is = ap gate_number same_decision ∙ (did.decided.number ∙ at_installed)

      pub settle_adds : Adds b new (Gateway v.gateway)
      settle_adds = record {
        event = settling;
        line = settled.line;
        actor = acts_so b.plan (now b) (Gateway v'.gateway) i settled.decision ∙ same_actor;
        number = subst (λ n. IsAtInstalled b.plan (now b) (decision_of (gate_event b.plan.settings (now b).flow n i settled.decision))) (sym same_actor)
            (numbered b.plan (now b) v.gateway i settled.decision number_is);
        way = asks_nothing b.plan (past b.lines) (now b) (Gateway v'.gateway) i settled.decision;
      }

      compared_is : v''.compared ≡ max v.compared number
      compared_is =
          ap (λ (z : HoverView). z.compared) settled.worker
          ∙ (ap (λ (z : HoverView). max z.compared (length tables)) did.worker ∙ ap (max v.compared) at_installed)

      fields_are : v'' ≡ record v { hand = None; compared = max v.compared (length tables) }
      fields_are = settled.worker ∙ ap (λ (z : HoverView). record z { hand = None; compared = max z.compared (length tables) }) did.worker

      empty_hand : HasNothing b.plan (settling ∷ past b.lines) (Gateway v.gateway)
      empty_hand =
          back b new 0 settling settled.line (λ p h. HasNothing p h (Gateway v.gateway))
          (subst (λ a. HasNothing new.plan (past new.lines) a) same_actor settled.empty)

      pub settle_passes : IsPassing new.plan (past new.lines) v''
      settle_passes =
          subst (IsPassing new.plan (past new.lines)) (sym fields_are)
          (carried_over b new 0 settling settled.line (λ p h. IsPassing p h (record v { hand = None; compared = max v.compared (length tables) }))
          (passes_on b.plan (past b.lines) settling v None (max v.compared (length tables)) sound (back b new 0 settling settled.line Run run) next.actor
          (λ upto. settles_no_install b.plan (now b) (Gateway v'.gateway) i settled.decision v.gateway upto)
          (omega (arith, ap (max v.compared) at_installed, most_installed number v.compared passing.compared)) empty_hand))

      pub same_place : v''.gateway ≡ v.gateway
      same_place = ap (λ (z : HoverView). z.gateway) fields_are

-- ---- where no packet was taken there was one in hand

pub took_not : {A : Type 0} (o : Option A) (may : Type 0) (answer : Bool) → (IsTrue answer ↔ ((o ≡ None) × may)) → answer ≡ false → may → is_some o ≡ true
took_not None may answer tells is can = absurd (let clash : false ≡ true = sym is ∙ tells.1 (refl, can) in cc)
took_not (Some x) may answer tells is can = refl
