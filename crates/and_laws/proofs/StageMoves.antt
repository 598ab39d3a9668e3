-- What keeps the stages of packets: an actor lets a packet go, an actor puts it into a queue, an actor takes one, one is injected.
use Rattle.std.proofs.Common.{◌≡◌, ℕ, ◌+◌, ◌<◌, Bool, true, false, List, ◌∷◌, length, set, refl, sym, ap, ◌∙◌, subst, arith, Some, None, ⊎_elim}
use Rattle.std.proofs.lemmas.List.{get_or-set_same, get_or-set_other}
use Rattle.std.proofs.lemmas.Bool.{cases_eq}
use Rattle.and_events.specs.declared.event.Actor.{Actor}
use Rattle.and_events.specs.declared.event.Event.{Event}
use Rattle.and_events.specs.declared.event.Event.TheVariants.{Inject, Take}
use Rattle.and_events.specs.declared.event.Held.{Held}
use Rattle.and_events.specs.declared.event.Carried.{Carried}
use Rattle.and_events.specs.declared.event.Node.{Node}
use Rattle.and_events.specs.declared.event.Node.TheVariants.{Host}
use Rattle.and_events.specs.declared.event.Queue.{Queue}
use Rattle.and_events.specs.declared.event.Queue.TheVariants.{Out}
use Rattle.and_events.specs.declared.plan.Plan.{Plan}
use Rattle.and_events.specs.Places.{queue_place, hand_place, node_of, IsNode, HasQueue}
use Rattle.and_events.specs.Flow.{Stop, flow_after, queue_at, hand_at, pushed, carried_in, nothing_carried}
use Rattle.and_events.specs.State.{state, after, move_of, carried_at, home}
use Rattle.and_events.specs.Legal.{Legal, CanTake}
use Rattle.and_events.specs.Run.{injections, injected_by}
use Rattle.and_events.specs.Just.{egresses, passages_of}
use Rattle.and_laws.specs.Stages.{count_in, IsUndecided, StageOf, StageAt, Stages}
use Rattle.and_laws.proofs.Sizes.{sizes}
use Rattle.and_laws.proofs.Actors.{takes_at, same_node}
use Rattle.and_laws.proofs.Unique.{in_no_queue, in_no_other}
use Rattle.and_laws.proofs.Queues.{pushed_in, popped_in, front_counts, queue_within, same_queue}
use Rattle.and_laws.proofs.Needs.{given_up, taken_same, taken_other, take_within}
use Rattle.and_laws.proofs.Stages.{IsAside, About, undecided_kept, stage_same, Holder}

-- ---- an actor lets go what it has in hand

module _ (plan : Plan) (h : List Event) (e : Event) (a : Actor) (j : ℕ) (q' : Queue) (k : Holder plan h a j q') (about : About plan h e j) (st : Stages plan h) where
  -- the packet is in no queue
  not_queued : (i : ℕ) (q : Queue) (node : Node) → IsNode plan.settings node → HasQueue node q → 0 < count_in i (queue_at (state plan h).flow.queues (queue_place plan.settings node q)) → j ≡ i → ⊥
  not_queued i q node is has some same =
      let place = queue_place plan.settings node q in
      let there : place < length (state plan h).flow.queues = subst (λ m. place < m) (sym (sizes plan h).queues) (queue_within plan.settings node q is has) in
      let none = in_no_queue j (hand_place plan.settings a) k.held (state plan h).flow k.has k.is k.one place there in
      grind (arith, none, some, same)

  -- and in no other hand
  not_in_hand : (b : Actor) (g : Held) → hand_at (set (state plan h).flow.hands (hand_place plan.settings a) None) (hand_place plan.settings b) ≡ Some g → j ≡ g.packet → ⊥
  not_in_hand b g has same =
      in_no_other j (hand_place plan.settings a) k.held (state plan h).flow k.has k.is k.one (hand_place plan.settings b) g has (sym same)

  still_unborn : (i : ℕ) → injections (e ∷ h) i ≡ 0 → IsUndecided plan (e ∷ h) i
  still_unborn i none =
      let before = sym (about.injected i) ∙ none in
      undecided_kept plan h e i (about.others i (λ same. k.born (ap (injections h) same ∙ before))) (st.unborn i before)

  -- the packet ends
  pub stages_stop : (state plan (e ∷ h)).flow ≡ flow_after (state plan h).flow (Stop (hand_place plan.settings a) j) → Stages plan (e ∷ h)
  unfolding flow_after
  stages_stop flow =
      let f = (state plan h).flow in
      let same : (i : ℕ) → carried_at (state plan (e ∷ h)) i ≡ carried_at (state plan h) i = λ i. ap (λ x. carried_in x.carried i) flow in
      record {
        queues = λ i q node is has some.
            let old : 0 < count_in i (queue_at f.queues (queue_place plan.settings node q)) =
            subst (λ x. 0 < count_in i (queue_at x.queues (queue_place plan.settings node q))) flow some in
            stage_same plan h e i (about.others i (not_queued i q node is has old)) (same i) q node (st.queues i q node is has old);
        hands = λ b g isb tb has.
            let kept = subst (λ x. hand_at x.hands (hand_place plan.settings b) ≡ Some g) flow has in
            let old = given_up f.hands (hand_place plan.settings a) (hand_place plan.settings b) g kept in
            stage_same plan h e g.packet (about.others g.packet (not_in_hand b g kept)) (same g.packet) g.queue (node_of b) (st.hands b g isb tb old);
        unborn = still_unborn;
        whole = λ i known none. ap (λ (c : Carried). c.hops) (same i) ∙ st.whole i known (sym (about.injected i) ∙ none);
      }

  -- the packet goes into a queue, with this known of it
  pub stages_push : (to : Node) (into : Queue) (c : Carried) → IsNode plan.settings to → HasQueue to into → (state plan (e ∷ h)).flow ≡ record { queues = pushed (state plan h).flow.queues (queue_place plan.settings to into) j; hands = set (state plan h).flow.hands (hand_place plan.settings a) None; carried = set (state plan h).flow.carried j c } → StageOf plan (e ∷ h) j c into to → Stages plan (e ∷ h)
  stages_push to into c is_to has_into flow new =
      let f = (state plan h).flow in
      let place = queue_place plan.settings to into in
      let there : place < length f.queues = subst (λ m. place < m) (sym (sizes plan h).queues) (queue_within plan.settings to into is_to has_into) in
      let other : (i : ℕ) → (j ≡ i → ⊥) → carried_at (state plan (e ∷ h)) i ≡ carried_at (state plan h) i =
      λ i d. ap (λ x. carried_in x.carried i) flow ∙ get_or-set_other f.carried j i c nothing_carried (λ s. d (sym s)) in
      let here : carried_at (state plan (e ∷ h)) j ≡ c = ap (λ x. carried_in x.carried j) flow ∙ get_or-set_same f.carried j c nothing_carried k.known in
      let now : StageAt plan (e ∷ h) j into to = subst (λ x. StageOf plan (e ∷ h) j x into to) (sym here) new in
      record {
        queues = λ i q node is has some.
            let p = queue_place plan.settings node q in
            ⊎_elim
            (λ (old : 0 < count_in i (queue_at f.queues p)).
            let differs = not_queued i q node is has old in
            stage_same plan h e i (about.others i differs) (other i differs) q node (st.queues i q node is has old))
            (λ (it : (p ≡ place) × (j ≡ i)).
            let at = same_queue plan.settings node to q into is has is_to has_into it.0 in
            subst (λ i. StageAt plan (e ∷ h) i q node) it.1
            (subst (λ q. StageAt plan (e ∷ h) j q node) (sym at.is_queue) (subst (λ node. StageAt plan (e ∷ h) j into node) (sym at.is_node) now)))
            (pushed_in f.queues place j i p there (subst (λ x. 0 < count_in i (queue_at x.queues p)) flow some));
        hands = λ b g isb tb has.
            let kept = subst (λ x. hand_at x.hands (hand_place plan.settings b) ≡ Some g) flow has in
            let old = given_up f.hands (hand_place plan.settings a) (hand_place plan.settings b) g kept in
            let differs = not_in_hand b g kept in
            stage_same plan h e g.packet (about.others g.packet differs) (other g.packet differs) g.queue (node_of b) (st.hands b g isb tb old);
        unborn = still_unborn;
        whole = λ i known none.
            let before = sym (about.injected i) ∙ none in
            ap (λ (c : Carried). c.hops) (other i (λ same. k.born (ap (injections h) same ∙ before))) ∙ st.whole i known before;
      }

-- ---- takes

pub stages_take : (plan : Plan) (h : List Event) (b : Actor) (q : Queue) (j : ℕ) → CanTake plan (state plan h) b q j → Stages plan h → Stages plan (Take b q j ∷ h)
unfolding state after move_of flow_after egresses passages_of injections injected_by
stages_take plan h b q j l st =
    let f = (state plan h).flow in
    let place = queue_place plan.settings (node_of b) q in
    let x = hand_place plan.settings b in
    let there = take_within plan (state plan h) (sizes plan h) b q j l in
    let from = takes_at plan (state plan h) b q l.actor l.queue in
    let taken = st.queues j q (node_of b) from.node from.queue (front_counts j (queue_at f.queues place) l.front.0 l.front.1) in
    let aside : (i : ℕ) → IsAside plan h (Take b q j) i = λ i. record { left = refl; routed = refl } in
    record {
      queues = λ i p node is has some.
          stage_same plan h (Take b q j) i (aside i) refl p node (st.queues i p node is has (popped_in f.queues place i (queue_place plan.settings node p) some));
      hands = λ a g isa ta has.
          let y = hand_place plan.settings a in
          ⊎_elim
          (λ (same : x ≡ y).
          let is = taken_same f.hands x y _ g there same has in
          let node = same_node plan.settings b a l.actor isa from.takes ta same in
          let here : StageAt plan h j q (node_of a) = subst (λ z. StageAt plan h j q z) node taken in
          subst (λ (g : Held). StageAt plan (Take b q j ∷ h) g.packet g.queue (node_of a)) is (stage_same plan h (Take b q j) j (aside j) refl q (node_of a) here))
          (λ (differs : x ≡ y → ⊥).
          stage_same plan h (Take b q j) g.packet (aside g.packet) refl g.queue (node_of a) (st.hands a g isa ta (taken_other f.hands x y _ g differs has)))
          (cases_eq x y);
      unborn = λ i none. undecided_kept plan h (Take b q j) i (aside i) (st.unborn i (omega (arith, none)));
      whole = λ i known none. st.whole i known (omega (arith, none));
    }

-- ---- injections

zero_more : (m n : ℕ) → m + n ≡ 0 → n ≡ 0
zero_more m n e = omega (arith, e)

-- a packet that was not injected before enters its host's queue, or is lost there
pub stages_inject : (plan : Plan) (h : List Event) (step j : ℕ) (full : Bool) → Legal plan (state plan h) (Inject step j full) → j < length plan.packets → injections h j ≡ 0 → Stages plan h → Stages plan (Inject step j full ∷ h)
unfolding Legal state after move_of flow_after egresses passages_of injections injected_by
stages_inject plan h step j true l known none_yet st =
    let aside : (i : ℕ) → IsAside plan h (Inject step j true) i = λ i. record { left = refl; routed = refl } in
    record {
      queues = λ i q node is has some. stage_same plan h (Inject step j true) i (aside i) refl q node (st.queues i q node is has some);
      hands = λ a g isa ta has. stage_same plan h (Inject step j true) g.packet (aside g.packet) refl g.queue (node_of a) (st.hands a g isa ta has);
      unborn = λ i none. undecided_kept plan h (Inject step j true) i (aside i) (st.unborn i (zero_more _ _ none));
      whole = λ i known none. st.whole i known (zero_more _ _ none);
    }
stages_inject plan h step j false l known none_yet st =
    let f = (state plan h).flow in
    let at_home = home plan (state plan h) j in
    let place = queue_place plan.settings (Host at_home) Out in
    let is_home : at_home < plan.settings.hosts = l.0.2.2 in
    let aside : (i : ℕ) → IsAside plan h (Inject step j false) i = λ i. record { left = refl; routed = refl } in
    let kept : (i : ℕ) (q : Queue) (node : Node) → StageAt plan h i q node → StageAt plan (Inject step j false ∷ h) i q node =
    λ i q node s. stage_same plan h (Inject step j false) i (aside i) refl q node s in
    record {
      queues = λ i q node is has some.
          let p = queue_place plan.settings node q in
          ⊎_elim (λ (old : 0 < count_in i (queue_at f.queues p)). kept i q node (st.queues i q node is has old))
          (λ (now : (p ≡ place) × (j ≡ i)).
          let at = same_queue plan.settings node (Host at_home) q Out is has is_home tt now.0 in
          let here : StageAt plan h j Out node = (st.unborn j none_yet, st.whole j known none_yet) in
          subst (λ k. StageAt plan (Inject step j false ∷ h) k q node) now.1
          (subst (λ z. StageAt plan (Inject step j false ∷ h) j z node) (sym at.is_queue) (kept j Out node here)))
          (pushed_in f.queues place j i p l.1.0 some);
      hands = λ a g isa ta has. kept g.packet g.queue (node_of a) (st.hands a g isa ta has);
      unborn = λ i none. undecided_kept plan h (Inject step j false) i (aside i) (st.unborn i (zero_more _ _ none));
      whole = λ i known none. st.whole i known (zero_more _ _ none);
    }
