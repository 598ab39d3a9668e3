-- The turn of a host's coprocessor: a packet taken, or the one in hand sent.
use Rattle.std.proofs.Common.{◌≡◌, true, List, refl, sym, ap, subst, Option, Some, None}
use Rattle.std.specs.Prelude.{is_some}
use Rattle.and_events.specs.declared.event.Actor.{Actor}
use Rattle.and_events.specs.declared.event.Actor.TheVariants.{Coproc}
use Rattle.and_events.specs.declared.event.Event.{Event}
use Rattle.and_events.specs.declared.event.Event.TheVariants.{Take}
use Rattle.and_events.specs.declared.event.Queue.TheVariants.{Seal}
use Rattle.and_events.specs.declared.plan.Plan.{Plan}
use Rattle.and_events.specs.Flow.{hand_at}
use Rattle.and_events.specs.Places.{hand_place}
use Rattle.and_events.specs.Run.{past}
use Rattle.and_events.specs.State.{state}
use Rattle.and_book.specs.Settling.{sealed_event}
use Rattle.and_book.specs.Views.{BookView, now}
use Rattle.and_hover.specs.declared.coproc.ToSeal.{ToSeal}
use Rattle.and_hover.specs.Coprocs.{CoprocView, HasTaken, IsSettled, MaySettle}
use Rattle.and_hover.specs.Holding.{HoldsAsBook}
use Rattle.and_replay.specs.Parting.{CoprocHas, IsSealing}
use Rattle.and_replay.specs.Turns.{Adds, IsNext}
use Rattle.and_replay.proofs.Working.{seat_is}

-- ---- before a packet is taken

holds_as : (plan : Plan) (h : List Event) (a : Actor) (o : Option ToSeal) → CoprocHas plan h a o → is_some (hand_at (state plan h).flow.hands (hand_place plan.settings a)) ≡ is_some o
holds_as plan h a None has = ap is_some has
holds_as plan h a (Some x) has = ap is_some has.held

pub as_book : (b : BookView) (c : CoprocView) → IsSealing b.plan (past b.lines) c → HoldsAsBook b (Coproc c.host) c.hand
as_book b c is = holds_as b.plan (past b.lines) (Coproc c.host) c.hand is

-- ---- a packet is taken

module _ (old new : BookView) (c c' : CoprocView) (took : HasTaken old new 0 c c') where
  pub take_adds : Adds old new (Coproc c.host)
  take_adds = record { event = Take (Coproc c.host) Seal took.in_hand.held.packet; line = took.line; actor = refl; number = tt; way = tt }

  pub take_seals : IsSealing new.plan (past new.lines) c'
  take_seals = subst (IsSealing new.plan (past new.lines)) (sym took.coprocessor) (record { held = took.holds.held; packet = took.holds.packet; parcel = took.holds.parcel })

-- ---- a packet is sent

may_send : (b : BookView) (c : CoprocView) (o : Option ToSeal) → IsNext b (Coproc c.host) → c.hand ≡ o → CoprocHas b.plan (past b.lines) (Coproc c.host) o → is_some o ≡ true → MaySettle b 0 c
may_send b c None next is has some = absurd (cc)
may_send b c (Some x) next is has some = record {
  is_seat = seat_is b.threads b.plan.settings (Coproc c.host) next.threads;
  in_hand = x;
  has = is;
  holds = record { actor = next.actor; held = has.held; packet = has.packet; parcel = has.parcel };
}

pub may_settle : (b : BookView) (c : CoprocView) → IsNext b (Coproc c.host) → IsSealing b.plan (past b.lines) c → is_some c.hand ≡ true → MaySettle b 0 c
may_settle b c next is some = may_send b c c.hand next refl is some

module _ (old new : BookView) (c c' : CoprocView) (settled : IsSettled old new 0 c c') where
  pub settle_adds : Adds old new (Coproc c.host)
  settle_adds = record {
    event = sealed_event old.plan.settings (now old).flow (Coproc c.host) settled.in_hand.held.packet;
    line = settled.line;
    actor = refl;
    number = tt;
    way = tt;
  }

  pub settle_seals : IsSealing new.plan (past new.lines) c'
  settle_seals = subst (IsSealing new.plan (past new.lines)) (sym settled.coprocessor) settled.empty
