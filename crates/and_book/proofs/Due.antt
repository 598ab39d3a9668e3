-- In a run an actor may act by what is kept where it is enabled; and the step that is due injects a packet of the plan, or holds at a node
-- of it.
use Rattle.std.proofs.Common.{false}
use Rattle.and_events.specs.Places.{actor_number, actor_count, node_place, IsActor, IsNode}
use Rattle.and_kept.specs.Numbers.{count_below}
use Rattle.and_book.specs.Enabling.{HasRipe, acts_at, acts_by}
use Rattle.and_book.proofs.Numbered.{at_number, at_acts}
use Rattle.std.proofs.Common.{◌≡◌, ℕ, ◌<◌, Bool, true, List, length, sym, ap, ◌∙◌, refl, subst, Option, Some, None}
use Rattle.std.specs.Prelude.{slice_get, ◌↔◌, IsTrue}
use Rattle.std.proofs.lemmas.Option.{slice_get_within}
use Rattle.and_events.specs.declared.event.Actor.{Actor}
use Rattle.and_events.specs.declared.event.Actor.TheVariants.{HostInstall, GateInstall, Worker, Coproc, Gateway, Controller, Driver}
use Rattle.and_events.specs.declared.event.Event.{Event}
use Rattle.and_events.specs.declared.event.Node.{Node}
use Rattle.and_events.specs.declared.event.Node.TheVariants.{Host, Gate}
use Rattle.and_events.specs.declared.plan.What.{What}
use Rattle.and_events.specs.declared.plan.What.TheVariants.{Install, Forward}
use Rattle.and_events.specs.declared.plan.Plan.{Plan}
use Rattle.and_events.specs.declared.plan.Step.{Step}
use Rattle.and_events.specs.declared.plan.Step.TheVariants as steps
use Rattle.and_events.specs.State.{State, state}
use Rattle.and_events.specs.Legal.{Enabled, CanHold, CanStep}
use Rattle.and_events.specs.Run.{Run}
use Rattle.and_events.specs.Sound.{IsSound}
use Rattle.and_laws.proofs.Steps.{does}
use Rattle.and_laws.specs.Scripted.{script_at}
use Rattle.and_laws.proofs.GoingOn.{AreFree}
use Rattle.and_laws.proofs.Sizes.{nodes as nodes_of, port_sizes}
use Rattle.and_laws.proofs.StepFacts.{held_there}
use Rattle.and_laws.proofs.Unstuck.{free_at_end}
use Rattle.and_pins.specs.declared.pin.Pin.{Pin}
use Rattle.and_pins.specs.Pinned.{ArePins}
use Rattle.and_book.specs.Inside.{holds_of, Kept, Stands}
use Rattle.and_book.specs.Enabling.{CanDo, CanAct, IsThere, MayHold}
use Rattle.and_book.proofs.Enabled.{installer_may, installer_was, works, worked}
use Rattle.and_book.proofs.Ripe.{is_ripe, was_ripe, none_kept, none_stands}
use Rattle.and_book.proofs.Resting.{rests, rested, ends, ended}

module _ (plan : Plan) (h : List Event) (sound : IsSound plan) (r : Run plan h) where
  abbrev s : State
  s = state plan h

  -- ---- the packet and the node of the step that is due

  inject_there : (i : ℕ) → slice_get plan.steps s.next ≡ Some (steps.Inject i) → i < length plan.packets
  inject_there i told = let d = (does plan h s.next (steps.Inject i) sound refl told).fits in slice_get_within plan.packets i d.1.0 d.1.1

  hold_there : (node : Node) (what : What) → slice_get plan.steps s.next ≡ Some (steps.Hold node what) → IsNode plan.settings node
  hold_there node what told = held_there plan (script_at plan h) node what (does plan h s.next (steps.Hold node what) sound refl told).fits

  due_there : (due : Option Step) → slice_get plan.steps s.next ≡ due → IsThere plan.settings plan.packets due
  due_there (Some (steps.Inject i)) told = inject_there i told
  due_there (Some (steps.Append e)) told = tt
  due_there (Some steps.Review) told = tt
  due_there (Some (steps.Hold node what)) told = hold_there node what told
  due_there (Some (steps.Free node what)) told = tt
  due_there (Some steps.Wait) told = tt
  due_there (Some (steps.Blackout vm host)) told = tt
  due_there (Some (steps.Resume vm)) told = tt
  due_there (Some steps.Finish) told = tt
  due_there None told = tt

  pub due_is_there : IsThere plan.settings plan.packets (slice_get plan.steps s.next)
  due_is_there = due_there (slice_get plan.steps s.next) refl

  -- ---- by number

  abbrev pub acts_now : Bool → Bool → ℕ → Bool
  acts_now controller driver = acts_at plan.settings s.programmes s.node_holds s.flow controller driver

  pub acts_as_kept : (k : Kept) → k.roads.settings ≡ plan.settings → Stands k s → (controller driver : Bool) → acts_by k.progress k.roads controller driver ≡ acts_now controller driver
  acts_as_kept k settings st controller driver =
      ap (λ v. acts_at v k.progress.programmes (holds_of k) k.roads.flow controller driver) settings
      ∙ (ap (λ p. acts_at plan.settings p (holds_of k) k.roads.flow controller driver) st.programmes
      ∙ (ap (λ m. acts_at plan.settings s.programmes m k.roads.flow controller driver) st.holds ∙ ap (λ f. acts_at plan.settings s.programmes s.node_holds f controller driver) st.flow))

  pub counted_as_kept : (k : Kept) → k.roads.settings ≡ plan.settings → Stands k s → (controller driver : Bool)
      → count_below (acts_by k.progress k.roads controller driver) (actor_count k.roads.settings) ≡ count_below (acts_now controller driver) (actor_count plan.settings)
  counted_as_kept k settings st controller driver =
      ap (λ p. count_below p (actor_count k.roads.settings)) (acts_as_kept k settings st controller driver) ∙ ap (λ v. count_below (acts_now controller driver) (actor_count v)) settings

  pub pins_as_kept : (k : Kept) → Stands k s → ArePins k.pins.pins k.ports → ArePins k.pins.pins s.ports
  pins_as_kept k st are = subst (ArePins k.pins.pins) st.ports are

  module _ (pins : List Pin) (are : ArePins pins s.ports) where
    abbrev due_step : Option Step
    due_step = slice_get plan.steps s.next

    -- ---- the step that is due

    abbrev CanDoNow : Option Step → Type 0
    CanDoNow due = CanDo plan.settings plan.packets s.programmes s.node_holds pins s.flow due

    may_hold : (node : Node) (what : What) → MayHold s.programmes (node_place plan.settings node) what → CanHold plan s node what
    may_hold node Forward may = tt
    may_hold node Install may = (may.0, may.1)

    can_hold : (node : Node) (what : What) → CanHold plan s node what → MayHold s.programmes (node_place plan.settings node) what
    can_hold node Forward can = tt
    can_hold node Install can = (can.0, can.1)

    ends_free : due_step ≡ Some steps.Finish → AreFree plan s
    ends_free told = free_at_end plan h sound r (does plan h s.next steps.Finish sound refl told).fits.holds

    does_due : (due : Option Step) → due_step ≡ due → CanDoNow due → (step : Step) × (due ≡ Some step) × CanStep plan s step
    does_due (Some (steps.Append e)) told can = (steps.Append e, refl, tt)
    does_due (Some (steps.Hold node what)) told can = (steps.Hold node what, refl, may_hold node what can)
    does_due (Some (steps.Free node what)) told can = (steps.Free node what, refl, tt)
    does_due (Some (steps.Inject i)) told can = (steps.Inject i, refl, (can.0, can.1, can.2, can.3))
    does_due (Some steps.Wait) told can = (steps.Wait, refl, rests plan h sound r can)
    does_due (Some steps.Finish) told can = (steps.Finish, refl, ends plan h sound r (ends_free told) (none_stands pins s.ports are can.1) can.0)
    does_due (Some steps.Review) told can = (steps.Review, refl, tt)
    does_due (Some (steps.Blackout vm host)) told can = (steps.Blackout vm host, refl, (can.0, can.1, can.2, can.3))
    does_due (Some (steps.Resume vm)) told can = (steps.Resume vm, refl, tt)
    does_due None told can = absurd can

    did_step : (step : Step) → CanStep plan s step → CanDoNow (Some step)
    did_step (steps.Append e) can = tt
    did_step (steps.Hold node what) can = can_hold node what can
    did_step (steps.Free node what) can = tt
    did_step (steps.Inject i) can = (can.0, can.1, can.2, can.3)
    did_step steps.Wait can = rested plan h sound r can
    did_step steps.Finish can = (ended plan h sound r can, none_kept pins s.ports are can.hairpins)
    did_step steps.Review can = tt
    did_step (steps.Blackout vm host) can = (can.0, can.1, can.2, can.3)
    did_step (steps.Resume vm) can = tt

    -- ---- who may act

    abbrev CanActNow : Actor → Type 0
    CanActNow a = CanAct plan.settings plan.packets s.programmes s.node_holds pins s.flow due_step a

    pub may_act : (a : Actor) → CanActNow a → Enabled plan s a
    may_act (HostInstall k) (is, can) = installer_may plan s (Host k) is can
    may_act (GateInstall k) (is, can) = installer_may plan s (Gate k) is can
    may_act (Worker k w) (is, can) = works plan s (Worker k w) is tt can
    may_act (Coproc k) (is, can) = works plan s (Coproc k) is tt can
    may_act (Gateway k) (is, can) = works plan s (Gateway k) is tt can
    may_act Controller (is, can) = is_ripe plan s pins are (port_sizes plan h) (nodes_of plan h) can
    may_act Driver (is, can) = does_due due_step refl can

    pub may_act_of : (a : Actor) → Enabled plan s a → CanActNow a
    may_act_of (HostInstall k) e = installer_was plan s (Host k) e
    may_act_of (GateInstall k) e = installer_was plan s (Gate k) e
    may_act_of (Worker k w) e = worked plan s (Worker k w) tt e
    may_act_of (Coproc k) e = worked plan s (Coproc k) tt e
    may_act_of (Gateway k) e = worked plan s (Gateway k) tt e
    may_act_of Controller e = (tt, was_ripe plan s pins are (port_sizes plan h) (nodes_of plan h) e)
    may_act_of Driver (step, told, can) = (tt, subst CanDoNow (sym told) (did_step step can))

    -- ---- by number

    module _ (controller driver : Bool) (unpins : IsTrue controller ↔ Enabled plan s Controller) (drives : IsTrue driver ↔ Enabled plan s Driver) where
      unpins_as : IsTrue controller ↔ HasRipe s.programmes pins
      unpins_as = ((λ t. (may_act_of Controller (unpins.0 t)).1), (λ can. unpins.1 (may_act Controller (tt, can))))

      does_as : IsTrue driver ↔ CanDoNow due_step
      does_as = ((λ t. (may_act_of Driver (drives.0 t)).1), (λ can. drives.1 (may_act Driver (tt, can))))

      -- an actor whose number acts is enabled, and no other one
      pub enabled_at : (a : Actor) → IsActor plan.settings a → acts_now controller driver (actor_number plan.settings a) ≡ true → Enabled plan s a
      enabled_at a is e = may_act a (is, at_acts plan.settings plan.packets s.programmes s.node_holds pins s.flow due_step controller driver unpins_as does_as a is e)

      pub not_enabled_at : (a : Actor) → IsActor plan.settings a → acts_now controller driver (actor_number plan.settings a) ≡ false → Enabled plan s a → ⊥
      not_enabled_at a is e enabled =
          let can = may_act_of a enabled in
          let acts = at_number plan.settings plan.packets s.programmes s.node_holds pins s.flow due_step controller driver unpins_as does_as a can.0 can.1 in
          absurd (let clash : true ≡ false = sym acts ∙ e in cc)

  -- ---- by what is kept

  pub enabled_by : (k : Kept) → k.roads.settings ≡ plan.settings → ArePins k.pins.pins k.ports → (due : Option Step) (a : Actor) (b : Bool) → Stands k s
      → due ≡ slice_get plan.steps s.next → (IsTrue b ↔ CanAct k.roads.settings plan.packets k.progress.programmes (holds_of k) k.pins.pins k.roads.flow due a) → IsTrue b ↔ Enabled plan s a
  enabled_by k settings are due a b st is can =
      let pins = k.pins.pins in
      let are_now = pins_as_kept k st are in
      let now_is : IsTrue b ↔ CanAct plan.settings plan.packets s.programmes s.node_holds pins s.flow (slice_get plan.steps s.next) a =
      subst (λ o. IsTrue b ↔ CanAct plan.settings plan.packets s.programmes s.node_holds pins s.flow o a) is
      (subst (λ f. IsTrue b ↔ CanAct plan.settings plan.packets s.programmes s.node_holds pins f due a) st.flow
      (subst (λ m. IsTrue b ↔ CanAct plan.settings plan.packets s.programmes m pins k.roads.flow due a) st.holds
      (subst (λ p. IsTrue b ↔ CanAct plan.settings plan.packets p (holds_of k) pins k.roads.flow due a) st.programmes
      (subst (λ v. IsTrue b ↔ CanAct v plan.packets k.progress.programmes (holds_of k) pins k.roads.flow due a) settings can)))) in
      ((λ t. may_act pins are_now a (now_is.0 t)), (λ e. now_is.1 (may_act_of pins are_now a e)))
