-- A packet in a gateway worker's hand: what was decided of it by agreeing tables may settle it.
use Rattle.std.proofs.Common.{◌≡◌, ℕ, ◌<◌, ◌≤◌, Bool, true, false, max, List, length, take, refl, sym, ap, ◌∙◌, subst, arith, Option, Some, None, Result, Ok, IsOk}
use Rattle.and_policy.specs.declared.decision.GateDecision.{GateDecision}
use Rattle.and_policy.specs.declared.decision.GateDecision.TheVariants as decisions
use Rattle.and_policy.specs.declared.entry.Entry.{Entry}
use Rattle.and_policy.specs.declared.entry.Op.{Op}
use Rattle.and_policy.specs.declared.packet.Tuple.{Tuple}
use Rattle.and_policy.specs.Fitting.{IsLog}
use Rattle.and_policy.specs.Frames.{fields, tuple_in}
use Rattle.and_policy.specs.Owners.{routed, located}
use Rattle.and_policy.specs.Programmes.{entries}
use Rattle.and_parcel.specs.Parcels.{ParcelView}
use Rattle.and_events.specs.declared.event.Actor.{Actor}
use Rattle.and_events.specs.declared.event.Actor.TheVariants.{Gateway}
use Rattle.and_events.specs.declared.event.Endpoint.{Endpoint}
use Rattle.and_events.specs.declared.event.Endpoint.TheVariants as endpoints
use Rattle.and_events.specs.declared.event.Event.TheVariants.{Take}
use Rattle.and_events.specs.declared.event.Held.{Held}
use Rattle.and_events.specs.declared.event.Node.TheVariants.{Gate}
use Rattle.and_events.specs.declared.event.Queue.{Queue}
use Rattle.and_events.specs.declared.event.Queue.TheVariants.{Out, Wire, Seal}
use Rattle.and_events.specs.declared.plan.Plan.{Plan}
use Rattle.and_events.specs.Legal.{entries_at, IsRouteTarget, IsRedirectTarget}
use Rattle.and_events.specs.Places.{hand_place}
use Rattle.and_events.specs.Run.{Run, past}
use Rattle.and_events.specs.Sound.{IsSound}
use Rattle.and_events.specs.State.{State, packet_at, tuple_at, carried_at, installed_of, node_at, programme_of, announced_of}
use Rattle.and_laws.specs.Stages.{StageAt}
use Rattle.and_laws.specs.Stages.{MayTake as MayTakeFrom}
use Rattle.and_laws.proofs.Hands.{right_hands}
use Rattle.and_laws.proofs.Losses.{held_is_known}
use Rattle.and_laws.proofs.Staged.{stages}
use Rattle.and_kept.specs.Settling.{gate_event}
use Rattle.and_book.specs.Settling.{MaySettleGateway, IsGateDecision, gate_number}
use Rattle.and_book.specs.Views.{BookView, IsPacket, MayTake, now, with_line}
use Rattle.and_agree.proofs.Agreeing.{agree_more, decides, tables_logged, same_entries}
use Rattle.and_agree.proofs.After.{Settles, empty_after, held_after, plan_after, programme_after}
use Rattle.and_agree.proofs.Readable.{is_read}
use Rattle.and_decide.specs.declared.behind.Behind.{Behind}
use Rattle.and_decide.specs.Deciding.{IsPassage, passage}
use Rattle.and_hover.specs.declared.hover.InHand.{InHand}
use Rattle.and_hover.specs.Hovers.{Agree, HasTaken, HoverView, IsInHand, IsDecided, IsSettled, MaySettle, is_redirect}

wire_alone : (g : ℕ) (q : Queue) → MayTakeFrom (Gateway g) q → q ≡ Wire
wire_alone g Wire may = refl
wire_alone g Out may = absurd may
wire_alone g Seal may = absurd may

-- what was sent to a gateway was sent to one of its two addresses
to_gateway : (g : ℕ) (t : Endpoint) → node_at t ≡ Gate g → is_redirect t ≡ false → IsRouteTarget t
to_gateway g (endpoints.Route k) e is = tt
to_gateway g (endpoints.Redirect k) e is = absurd (cc)
to_gateway g (endpoints.Host k) e is = absurd (cc)

redirected : (t : Endpoint) → is_redirect t ≡ true → IsRedirectTarget t
redirected (endpoints.Redirect k) is = tt
redirected (endpoints.Route k) is = absurd (cc)
redirected (endpoints.Host k) is = absurd (cc)

-- the policy's word by the programme's entries
is_gate : (plan : Plan) (s : State) (g i vni at : ℕ) (k : List Entry) (redirect : Bool) (d : GateDecision) (address : ℕ) → node_at (carried_at s i).target ≡ Gate g
    → redirect ≡ is_redirect (carried_at s i).target → vni ≡ (carried_at s i).net → address ≡ (tuple_at plan i).destination → entries_at plan s (Gateway g) at ≡ k
    → ((redirect ≡ true → d ≡ decisions.Located at (located k vni address)) × (redirect ≡ false → d ≡ decisions.Routed at (routed k vni address)))
    → IsGateDecision plan s (Gateway g) i d
is_gate plan s g i vni at k true d address node to net is all said =
    subst (IsGateDecision plan s (Gateway g) i) (sym (said.0 refl)) (
      redirected (carried_at s i).target (sym to),
      ap (λ ks. located ks vni address) (sym all) ∙ (ap (λ n. located (entries_at plan s (Gateway g) at) n address) net ∙ ap (located (entries_at plan s (Gateway g) at) (carried_at s i).net) is),
    )
is_gate plan s g i vni at k false d address node to net is all said =
    subst (IsGateDecision plan s (Gateway g) i) (sym (said.1 refl)) (
      to_gateway g (carried_at s i).target node (sym to),
      ap (λ ks. routed ks vni address) (sym all) ∙ (ap (λ n. routed (entries_at plan s (Gateway g) at) n address) net ∙ ap (routed (entries_at plan s (Gateway g) at) (carried_at s i).net) is),
    )

passage_is : (tables : List Op) (redirect : Bool) (vni : ℕ) (parcel : ParcelView) (d : GateDecision) → d ≡ passage tables redirect vni parcel
    → (redirect ≡ true → d ≡ decisions.Located (length tables) (located (entries tables) vni (tuple_in parcel.frame).destination))
    × (redirect ≡ false → d ≡ decisions.Routed (length tables) (routed (entries tables) vni (tuple_in parcel.frame).destination))
passage_is tables true vni parcel d is = (λ e. is, λ e. absurd (cc))
passage_is tables false vni parcel d is = (λ e. absurd (cc), λ e. is)

module _ (b : BookView) (g : ℕ) (x : InHand) (sound : IsSound b.plan) (r : Run b.plan (past b.lines)) (holds : IsInHand b g x) where
  -- a packet in hand is one of the plan
  pub in_plan : x.held.packet < length b.plan.packets
  in_plan = held_is_known b.plan (past b.lines) (hand_place b.plan.settings (Gateway g)) x.held.packet sound r (x.held, holds.held, refl)

  from_wire : x.held.queue ≡ Wire
  from_wire = wire_alone g x.held.queue (right_hands b.plan (past b.lines) r (Gateway g) x.held holds.actor tt holds.held)

  -- it was sent to this gateway
  target : node_at (carried_at (now b) x.held.packet).target ≡ Gate g
  target =
      let s = (stages b.plan (past b.lines) sound r).hands (Gateway g) x.held holds.actor tt holds.held in
      let staged : StageAt b.plan (past b.lines) x.held.packet Wire (Gate g) = subst (λ q. StageAt b.plan (past b.lines) x.held.packet q (Gate g)) from_wire s in
      staged.1

  -- its frame has its tuple
  address : (tuple_in x.parcel.frame).destination ≡ (tuple_at b.plan x.held.packet).destination
  address =
      let it = is_read b.plan sound x.held.packet in_plan in
      ap (λ f. (tuple_in f).destination) (holds.parcel.frame ∙ ap (λ n. (packet_at b.plan n).taken.frame) holds.packet) ∙ ap (λ (t : Tuple). t.destination) it.tuple

  pub may_pass : (tables : List Op) (d : GateDecision) → IsDecided tables x d → length tables ≤ announced_of b.plan (now b) (Gate g)
      → take (length tables) (programme_of b.plan (now b) (Gate g)) ≡ tables → MaySettleGateway b.plan (now b) (Gateway g) x.parcel.packet d
  may_pass tables d decided most same =
      let p = programme_of b.plan (now b) (Gate g) in
      let said = decided.said (tables_logged b.plan (past b.lines) sound r (Gate g) holds.actor tables same) in
      let word = is_gate b.plan (now b) g x.held.packet x.vni (length tables) (entries tables) x.redirect d (tuple_in x.parcel.frame).destination target holds.redirect holds.vni address
      (same_entries tables p same) (passage_is tables x.redirect x.vni x.parcel d said) in
      record {
        decides = decides b.plan (now b) (Gateway g) x.held x.parcel.packet (gate_number d) Wire holds.actor holds.held holds.packet from_wire
            (omega (arith, decided.least, decided.number)) (omega (arith, most, decided.number));
        worker = tt;
        decision = subst (λ n. IsGateDecision b.plan (now b) (Gateway g) n d) (sym holds.packet) word;
      }

-- ---- the event

pub gate_settles : (plan : Plan) (s : State) (a : Actor) (i : ℕ) (d : GateDecision) → Settles (gate_event plan.settings s.flow a i d) a
gate_settles plan s a i (decisions.Routed at said) = refl
gate_settles plan s a i (decisions.Located at said) = refl

-- ---- what is in hand after a take

pub took : (old new : BookView) (g seat : ℕ) (held : Held) (parcel : ParcelView) (vni : ℕ) (redirect : Bool) → MayTake old.plan (now old) (Gateway g) → new ≡ with_line old seat (Take (Gateway g) held.queue held.packet)
    → held ≡ record { packet = parcel.packet; need = installed_of old.plan (now old) (Gate g); queue = Wire } → IsPacket old.plan parcel
    → vni ≡ (carried_at (now new) held.packet).net → redirect ≡ is_redirect (carried_at (now new) held.packet).target
    → IsInHand new g (record { held = held; parcel = parcel; vni = vni; redirect = redirect; decision = None })
took old new g seat held parcel vni redirect may line is right net to =
    let e = Take (Gateway g) held.queue held.packet in
    let plan : new.plan ≡ old.plan = plan_after old new seat e line in
    record {
      actor = subst (λ (p : Plan). g < p.settings.gateways) (sym plan) may.actor;
      held = held_after old new seat (Gateway g) held parcel.packet Wire may line is;
      packet = sym (ap (λ (h : Held). h.packet) is);
      parcel = subst (λ (p : Plan). IsPacket p parcel) (sym plan) right;
      vni = net;
      redirect = to;
    }

-- it is a packet of the plan, with a readable frame
module _ (old new : BookView) (g seat : ℕ) (held : Held) (parcel : ParcelView) (may : MayTake old.plan (now old) (Gateway g)) (line : new ≡ with_line old seat (Take (Gateway g) held.queue held.packet))
    (is : held ≡ record { packet = parcel.packet; need = installed_of old.plan (now old) (Gate g); queue = Wire }) where
  pub taken_in_plan : IsSound new.plan → Run new.plan (past new.lines) → held.packet < length new.plan.packets
  taken_in_plan sound r =
      held_is_known new.plan (past new.lines) (hand_place new.plan.settings (Gateway g)) held.packet sound r
      (held, held_after old new seat (Gateway g) held parcel.packet Wire may line is, refl)

  pub taken_readable : IsSound new.plan → Run new.plan (past new.lines) → IsPacket old.plan parcel → IsOk (fields parcel.frame)
  taken_readable sound r right =
      let packet : parcel.packet ≡ held.packet = sym (ap (λ (h : Held). h.packet) is) in
      let frame : parcel.frame ≡ (packet_at new.plan held.packet).taken.frame =
      right.frame ∙ (ap (λ n. (packet_at old.plan n).taken.frame) packet ∙ ap (λ (p : Plan). (packet_at p held.packet).taken.frame) (sym (plan_after old new seat (Take (Gateway g) held.queue held.packet) line))) in
      subst (λ f. IsOk (fields f)) (sym frame) (is_read new.plan sound held.packet (taken_in_plan sound r)).read

pub taken : (old new : BookView) (seat : ℕ) (h : HoverView) (held : Held) (parcel : ParcelView) (vni : ℕ) (redirect : Bool) → MayTake old.plan (now old) (Gateway h.gateway)
    → new ≡ with_line old seat (Take (Gateway h.gateway) held.queue held.packet) → held ≡ record { packet = parcel.packet; need = installed_of old.plan (now old) (Gate h.gateway); queue = Wire }
    → IsPacket old.plan parcel → vni ≡ (carried_at (now new) held.packet).net → redirect ≡ is_redirect (carried_at (now new) held.packet).target
    → HasTaken old new seat h (record h { hand = Some (record { held = held; parcel = parcel; vni = vni; redirect = redirect; decision = None }) })
taken old new seat h held parcel vni redirect may line is right net to =
    let queue : held.queue ≡ Wire = ap (λ (x : Held). x.queue) is in
    record {
      in_hand = record { held = held; parcel = parcel; vni = vni; redirect = redirect; decision = None };
      worker = refl;
      line = line ∙ ap (λ q. with_line old seat (Take (Gateway h.gateway) q held.packet)) queue;
      queue = queue;
      need = ap (λ (x : Held). x.need) is;
      undecided = refl;
      holds = took old new h.gateway seat held parcel vni redirect may line is right net to;
    }

-- ---- what was settled

pub passed : (old new : BookView) (tables : List Op) (seat : ℕ) (h after : HoverView) (x : InHand) (d : GateDecision) → h.hand ≡ Some x → x.decision ≡ Some d → x.parcel.packet ≡ x.held.packet → Agree old h tables
    → take (length tables) (programme_of old.plan (now old) (Gate h.gateway)) ≡ tables
    → new ≡ with_line old seat (gate_event old.plan.settings (now old).flow (Gateway h.gateway) x.parcel.packet d)
    → after ≡ record h { hand = None; compared = max h.compared (length tables) } → IsSettled old new tables seat h after
passed old new tables seat h after x d has decided packet agree same line is =
    let a : Actor = Gateway h.gateway in
    let e = gate_event old.plan.settings (now old).flow a x.held.packet d in
    let there : new ≡ with_line old seat e = line ∙ ap (λ i. with_line old seat (gate_event old.plan.settings (now old).flow a i d)) packet in
    let settles = gate_settles old.plan (now old) a x.held.packet d in
    record {
      in_hand = x;
      decision = d;
      was = (has, decided);
      line = there;
      worker = is;
      empty = empty_after old new seat e there a settles;
      agree = subst (λ (w : HoverView). Agree new w tables) (sym is)
          (agree_more tables (programme_of old.plan (now old) (Gate h.gateway)) same h.compared agree
          ∙ ap (take (max h.compared (length tables))) (sym (programme_after old new seat e there a (Gate h.gateway) settles)));
    }

some_same : {A : Type 0} (x y : A) → Some x ≡ Some y → x ≡ y
some_same x y e = cc

module _ (b : BookView) (tables : List Op) (seat : ℕ) (h : HoverView) (x : InHand) (d : GateDecision) (may : MaySettle b tables seat h) (has : h.hand ≡ Some x) (decided : x.decision ≡ Some d)
    (same : take (length tables) (programme_of b.plan (now b) (Gate h.gateway)) ≡ tables) where
  it_is : may.in_hand ≡ x
  it_is = some_same may.in_hand x (sym may.has ∙ has)

  so_decided : may.decision ≡ d
  so_decided = some_same may.decision d (sym may.decided.is ∙ (ap (λ (y : InHand). y.decision) it_is ∙ decided))

  pub ready : IsSound b.plan → Run b.plan (past b.lines) → length tables ≤ announced_of b.plan (now b) (Gate h.gateway) → MaySettleGateway b.plan (now b) (Gateway h.gateway) x.parcel.packet d
  ready sound r most =
      subst (λ (y : InHand). MaySettleGateway b.plan (now b) (Gateway h.gateway) y.parcel.packet d) it_is
      (subst (λ (e : GateDecision). MaySettleGateway b.plan (now b) (Gateway h.gateway) may.in_hand.parcel.packet e) so_decided
      (may_pass b h.gateway may.in_hand sound r may.holds tables may.decision may.decided most same))

  pub done : (new : BookView) (compared : ℕ) (hand : Option InHand) → new ≡ with_line b seat (gate_event b.plan.settings (now b).flow (Gateway h.gateway) x.parcel.packet d)
      → compared ≡ max h.compared (length tables) → hand ≡ None → IsSettled b new tables seat h (record { gateway = h.gateway; compared = compared; hand = hand })
  done new compared hand line more empty =
      passed b new tables seat h (record { gateway = h.gateway; compared = compared; hand = hand }) x d has decided (subst (λ (y : InHand). y.parcel.packet ≡ y.held.packet) it_is may.holds.packet) may.agree same line
      (ap (λ n. record { gateway = h.gateway; compared = n; hand = hand }) more ∙ ap (λ o. record { gateway = h.gateway; compared = max h.compared (length tables); hand = o }) empty)

-- ---- what was decided

abbrev pub ok : GateDecision → Result GateDecision Behind
ok d = Ok d

number_of : (n : ℕ) (redirect : Bool) (d : GateDecision) → IsPassage n redirect (ok d) → gate_number d ≡ n
number_of n true (decisions.Located at said) is = is
number_of n true (decisions.Routed at said) is = absurd is
number_of n false (decisions.Routed at said) is = is
number_of n false (decisions.Located at said) is = absurd is

same_ok : (d e : GateDecision) → ok d ≡ ok e → d ≡ e
same_ok d e is = cc

pub made : (tables : List Op) (x : InHand) (d : GateDecision) → x.held.need ≤ length tables → IsPassage (length tables) x.redirect (ok d)
    → (IsLog None (entries tables) → ok d ≡ ok (passage tables x.redirect x.vni x.parcel)) → IsDecided tables (record x { decision = Some d }) d
made tables x d least passage_at said =
    record { is = refl; least = least; number = number_of (length tables) x.redirect d passage_at; said = λ log. same_ok d (passage tables x.redirect x.vni x.parcel) (said log) }
