-- A packet in a coprocessor's hand: it was taken to be sealed, and may be sent.
use Rattle.std.proofs.Common.{◌≡◌, ℕ, ◌<◌, refl, sym, ap, ◌∙◌, subst, Some, None}
use Rattle.and_parcel.specs.Parcels.{ParcelView}
use Rattle.and_events.specs.declared.event.Actor.TheVariants.{Coproc}
use Rattle.and_events.specs.declared.event.Event.TheVariants.{Take}
use Rattle.and_events.specs.declared.event.Held.{Held}
use Rattle.and_events.specs.declared.event.Node.TheVariants.{Host}
use Rattle.and_events.specs.declared.event.Queue.{Queue}
use Rattle.and_events.specs.declared.event.Queue.TheVariants.{Out, Wire, Seal}
use Rattle.and_events.specs.declared.plan.Plan.{Plan}
use Rattle.and_events.specs.Run.{Run, past}
use Rattle.and_events.specs.State.{installed_of}
use Rattle.and_laws.specs.Stages.{MayTake as MayTakeFrom}
use Rattle.and_laws.proofs.Hands.{right_hands}
use Rattle.and_book.specs.Settling.{MaySeal, sealed_event}
use Rattle.and_book.specs.Views.{BookView, IsPacket, MayTake, now, with_line}
use Rattle.and_agree.proofs.After.{empty_after, held_after, plan_after}
use Rattle.and_agree.proofs.Agreeing.{held_is}
use Rattle.and_hover.specs.declared.coproc.ToSeal.{ToSeal}
use Rattle.and_hover.specs.Coprocs.{CoprocView, HasTaken, IsInHand, IsSettled, MaySettle}

seal_alone : (k : ℕ) (q : Queue) → MayTakeFrom (Coproc k) q → q ≡ Seal
seal_alone k Seal may = refl
seal_alone k Out may = absurd may
seal_alone k Wire may = absurd may

-- ---- what is in hand after a take

pub taken : (old new : BookView) (seat : ℕ) (c : CoprocView) (held : Held) (parcel : ParcelView) → MayTake old.plan (now old) (Coproc c.host) → new ≡ with_line old seat (Take (Coproc c.host) held.queue held.packet)
    → held ≡ record { packet = parcel.packet; need = installed_of old.plan (now old) (Host c.host); queue = Seal } → IsPacket old.plan parcel
    → HasTaken old new seat c (record c { hand = Some (record { held = held; parcel = parcel }) })
taken old new seat c held parcel may line is right =
    let plan : new.plan ≡ old.plan = plan_after old new seat (Take (Coproc c.host) held.queue held.packet) line in
    let queue : held.queue ≡ Seal = ap (λ (x : Held). x.queue) is in
    record {
      in_hand = record { held = held; parcel = parcel };
      coprocessor = refl;
      line = line ∙ ap (λ q. with_line old seat (Take (Coproc c.host) q held.packet)) queue;
      queue = queue;
      need = ap (λ (x : Held). x.need) is;
      holds = record {
        actor = subst (λ (p : Plan). c.host < p.settings.hosts) (sym plan) may.actor;
        held = held_after old new seat (Coproc c.host) held parcel.packet Seal may line is;
        packet = sym (ap (λ (x : Held). x.packet) is);
        parcel = subst (λ (p : Plan). IsPacket p parcel) (sym plan) right;
      };
    }

-- ---- what may be sent

may_seal : (b : BookView) (host : ℕ) (x : ToSeal) → Run b.plan (past b.lines) → IsInHand b host x → MaySeal b.plan (now b) (Coproc host) x.parcel.packet
may_seal b host x r holds =
    let queue = seal_alone host x.held.queue (right_hands b.plan (past b.lines) r (Coproc host) x.held holds.actor tt holds.held) in
    record { actor = holds.actor; coprocessor = tt; need = x.held.need; holds = holds.held ∙ ap Some (held_is x.held x.parcel.packet Seal holds.packet queue) }

some_same : (x y : ToSeal) → Some x ≡ Some y → x ≡ y
some_same x y e = cc

module _ (b : BookView) (seat : ℕ) (c : CoprocView) (x : ToSeal) (may : MaySettle b seat c) (has : c.hand ≡ Some x) where
  pub holds : IsInHand b c.host x
  holds = subst (IsInHand b c.host) (some_same may.in_hand x (sym may.has ∙ has)) may.holds

  pub ready : Run b.plan (past b.lines) → MaySeal b.plan (now b) (Coproc c.host) x.parcel.packet
  ready r = may_seal b c.host x r holds

  -- ---- what was sent

  pub done : (new : BookView) → new ≡ with_line b seat (sealed_event b.plan.settings (now b).flow (Coproc c.host) x.parcel.packet) → IsSettled b new seat c (record c { hand = None })
  done new line =
      let there : new ≡ with_line b seat (sealed_event b.plan.settings (now b).flow (Coproc c.host) x.held.packet) =
      line ∙ ap (λ i. with_line b seat (sealed_event b.plan.settings (now b).flow (Coproc c.host) i)) holds.packet in
      record {
        in_hand = x;
        was = has;
        line = there;
        coprocessor = refl;
        empty = empty_after b new seat (sealed_event b.plan.settings (now b).flow (Coproc c.host) x.held.packet) there (Coproc c.host) refl;
      }
