-- What an event leaves to the parts of the actors that did not act.
use Rattle.std.proofs.Common.{◌≡◌, ℕ, zero, suc, ◌<◌, ◌≤◌, List, [], ◌∷◌, ◌++◌, ◌⊎◌, inl, inr, ⊎_elim, length, take, drop, refl, sym, ap, ◌∙◌, subst, arith, Option, Some, None}
use Rattle.std.proofs.lemmas.Bool.{cases_eq}
use Rattle.std.proofs.lemmas.List.{take-append-drop}
use Rattle.and_policy.specs.declared.entry.Op.{Op}
use Rattle.and_parcel.specs.Parcels.{ParcelView}
use Rattle.and_events.specs.declared.event.Actor.{Actor}
use Rattle.and_events.specs.declared.event.Actor.TheVariants.{Coproc, Gateway}
use Rattle.and_events.specs.declared.event.Carried.{Carried}
use Rattle.and_events.specs.declared.event.Event.{Event}
use Rattle.and_events.specs.declared.event.Event.TheVariants.{Announce, Installed}
use Rattle.and_events.specs.declared.event.Held.{Held}
use Rattle.and_events.specs.declared.event.Node.{Node}
use Rattle.and_events.specs.declared.event.Node.TheVariants.{Host, Gate}
use Rattle.and_events.specs.declared.plan.Plan.{Plan}
use Rattle.and_events.specs.Places.{actor_of, installer_of, IsActor, IsNode, Handles}
use Rattle.and_events.specs.Run.{Run}
use Rattle.and_events.specs.Sound.{IsSound}
use Rattle.and_events.specs.Legal.{Legal}
use Rattle.and_events.specs.State.{state, announced_of, installed_of, programme_of}
use Rattle.and_worker.specs.declared.worker.InHand.{InHand}
use Rattle.and_worker.specs.Workers.{WorkerView}
use Rattle.and_worker.specs.Workers as workers
use Rattle.and_hover.specs.declared.coproc.ToSeal.{ToSeal}
use Rattle.and_hover.specs.declared.hover.InHand.{InHand as HoverHand}
use Rattle.and_hover.specs.Coprocs.{CoprocView}
use Rattle.and_hover.specs.Hovers.{HoverView, is_redirect}
use Rattle.and_worker.proofs.Growing.{stays_right}
use Rattle.and_others.proofs.Lasting.{hand_lasts, carried_lasts}
use Rattle.and_others.proofs.Growing.{announced_lasts, installed_by, installed_lasts, taken_lasts, numbers_below}
use Rattle.and_others.proofs.Caching.{cache_lasts}
use Rattle.and_replay.specs.Parting.{installed_ops, host_tables, announced_ops, IsBatch, Has, HasNothing, WorkerHas, CoprocHas, HoverHas, IsWorking, IsSealing, IsPassing}

pub take_less : {X : Type 0} (n m : ℕ) (xs : List X) → n ≤ m → take n (take m xs) ≡ take n xs
take_less zero m xs l = refl
take_less (suc n) zero xs l = absurd (omega (arith, l))
take_less (suc n) (suc m) [] l = refl
take_less (suc n) (suc m) (x ∷ xs) l = ap (λ ys. x ∷ ys) (take_less n m xs (omega (arith, l)))

abbrev InstallsNothing : Event → Type 0
InstallsNothing (Installed node upto) = ⊥
InstallsNothing _ = Unit {0}

-- the event installs nothing, or what a node announced
quiet_or : (plan : Plan) (h : List Event) (e : Event) → Run plan (e ∷ h)
    → InstallsNothing e ⊎ ((node : Node) × (upto : ℕ) × (e ≡ Installed node upto) × IsNode plan.settings node × (installed_of plan (state plan h) node < upto))
unfolding Run Legal
quiet_or plan h (Installed node upto) r = inr (node, upto, refl, r.1.0.0, omega (arith, r.1.0.1, r.1.1))
quiet_or plan h e r = inl tt

-- two nodes are one or not
node_cases : (a b : Node) → (a ≡ b) ⊎ (a ≡ b → ⊥)
node_cases (Host x) (Host y) = ⊎_elim (λ (e : x ≡ y). inl (ap Host e)) (λ (other : x ≡ y → ⊥). inr (λ e. other (cc))) (cases_eq x y)
node_cases (Gate x) (Gate y) = ⊎_elim (λ (e : x ≡ y). inl (ap Gate e)) (λ (other : x ≡ y → ⊥). inr (λ e. other (cc))) (cases_eq x y)
node_cases (Host x) (Gate y) = inr (λ e. cc)
node_cases (Gate x) (Host y) = inr (λ e. cc)

module _ (plan : Plan) (h : List Event) (e : Event) (sound : IsSound plan) (r : Run plan (e ∷ h)) where
  pub before : Run plan h
  unfolding Run
  before = r.0

  -- ---- nodes

  module _ (node : Node) (is : IsNode plan.settings node) where
    pub within : installed_of plan (state plan h) node ≤ length (programme_of plan (state plan h) node)
    within = let below = numbers_below plan h node sound before is in omega (arith, below.0, below.1)

    -- what is installed stays so where the event is no install of the node
    pub ops_same : ((upto : ℕ) → e ≡ Installed node upto → ⊥) → installed_ops plan (e ∷ h) node ≡ installed_ops plan h node
    ops_same other =
        ap (λ n. take n (programme_of plan (state plan (e ∷ h)) node)) (installed_lasts plan h e node sound r is other)
        ∙ taken_lasts plan h e node sound r is (installed_of plan (state plan h) node) within

    module _ (other : actor_of e ≡ installer_of node → ⊥) where
      no_install : (upto : ℕ) → e ≡ Installed node upto → ⊥
      no_install upto same = other (ap actor_of same)

      no_announce : (upto : ℕ) → e ≡ Announce node upto → ⊥
      no_announce upto same = other (ap actor_of same)

      pub ops_last : installed_ops plan (e ∷ h) node ≡ installed_ops plan h node
      ops_last = ops_same no_install

      installed_same : installed_of plan (state plan (e ∷ h)) node ≡ installed_of plan (state plan h) node
      installed_same = installed_lasts plan h e node sound r is no_install

      announced_same : announced_of plan (state plan (e ∷ h)) node ≡ announced_of plan (state plan h) node
      announced_same = announced_lasts plan h e node sound r is no_announce

      batch_same : announced_ops plan (e ∷ h) node ≡ announced_ops plan h node
      batch_same =
          ap (λ n. drop n (take (announced_of plan (state plan (e ∷ h)) node) (programme_of plan (state plan (e ∷ h)) node))) installed_same
          ∙ (ap (λ n. drop (installed_of plan (state plan h) node) (take n (programme_of plan (state plan (e ∷ h)) node))) announced_same
          ∙ ap (drop (installed_of plan (state plan h) node))
          (taken_lasts plan h e node sound r is (announced_of plan (state plan h) node) (numbers_below plan h node sound before is).1))

      pub batch_lasts : (x : Option (List Op)) → IsBatch plan h node x → IsBatch plan (e ∷ h) node x
      batch_lasts None b = installed_same ∙ (b ∙ sym announced_same)
      batch_lasts (Some ops) b = b ∙ sym batch_same

  pub tables_last : (host : ℕ) → host < plan.settings.hosts → (actor_of e ≡ installer_of (Host host) → ⊥) → host_tables plan (e ∷ h) host ≡ host_tables plan h host
  tables_last host is other = ap (λ ops. record { host = host; gateways = plan.settings.gateways; ops = ops }) (ops_last (Host host) is other)

  -- ---- hands

  module _ (a : Actor) (is : IsActor plan.settings a) (handles : Handles a) (other : actor_of e ≡ a → ⊥) where
    pub nothing_lasts : HasNothing plan h a → HasNothing plan (e ∷ h) a
    nothing_lasts none = hand_lasts plan h e a sound r is handles other ∙ none

    pub has_lasts : (held : Held) (parcel : ParcelView) (vni : ℕ) → Has plan h a held parcel vni → Has plan (e ∷ h) a held parcel vni
    has_lasts held parcel vni has = record {
      held = hand_lasts plan h e a sound r is handles other ∙ has.held;
      packet = has.packet;
      parcel = has.parcel;
      vni = has.vni ∙ ap (λ (c : Carried). c.net) (sym (carried_lasts plan h e a held sound r is handles other has.held));
    }

    pub worker_has_lasts : (o : Option InHand) → WorkerHas plan h a o → WorkerHas plan (e ∷ h) a o
    worker_has_lasts None has = nothing_lasts has
    worker_has_lasts (Some x) has = has_lasts x.held x.parcel x.vni has

    pub coproc_has_lasts : (o : Option ToSeal) → CoprocHas plan h a o → CoprocHas plan (e ∷ h) a o
    coproc_has_lasts None has = nothing_lasts has
    coproc_has_lasts (Some x) has = record { held = hand_lasts plan h e a sound r is handles other ∙ has.held; packet = has.packet; parcel = has.parcel }

    pub hover_has_lasts : (o : Option HoverHand) → HoverHas plan h a o → HoverHas plan (e ∷ h) a o
    hover_has_lasts None has = nothing_lasts has
    hover_has_lasts (Some x) has = (
      has_lasts x.held x.parcel x.vni has.0,
      has.1 ∙ ap (λ (c : Carried). is_redirect c.target) (sym (carried_lasts plan h e a x.held sound r is handles other has.0.held)),
    )

  -- ---- tables grow

  -- no less is installed
  rises : (node : Node) → IsNode plan.settings node → installed_of plan (state plan h) node ≤ installed_of plan (state plan (e ∷ h)) node
  rises node is =
      ⊎_elim
      (λ (quiet : InstallsNothing e). omega (arith, installed_lasts plan h e node sound r is (λ upto same. subst InstallsNothing same quiet)))
      (λ (it : (m : Node) × (upto : ℕ) × (e ≡ Installed m upto) × IsNode plan.settings m × (installed_of plan (state plan h) m < upto)).
      ⊎_elim
      (λ (same : node ≡ it.0).
      let by : installed_of plan (state plan (e ∷ h)) node ≡ it.1 =
      ap (λ x. installed_of plan (state plan (x ∷ h)) node) it.2 ∙ (ap (installed_of plan (state plan (Installed it.0 it.1 ∷ h))) same
      ∙ installed_by plan h it.0 it.1 sound (subst (λ x. Run plan (x ∷ h)) it.2 r)) in
      omega (arith, by, it.4, ap (installed_of plan (state plan h)) same))
      (λ (other : node ≡ it.0 → ⊥).
      omega (arith, installed_lasts plan h e node sound r is (λ upto again. other ((let clash : Installed node upto ≡ Installed it.0 it.1 = sym again ∙ it.2 in cc)))))
      (node_cases node it.0))
      (quiet_or plan h e r)

  pub ops_grow : (node : Node) → IsNode plan.settings node → (more : List Op) × (installed_ops plan (e ∷ h) node ≡ installed_ops plan h node ++ more)
  ops_grow node is =
      let n = installed_of plan (state plan h) node in
      let n' = installed_of plan (state plan (e ∷ h)) node in
      let p' = programme_of plan (state plan (e ∷ h)) node in
      let first : take n (take n' p') ≡ installed_ops plan h node = take_less n n' p' (rises node is) ∙ taken_lasts plan h e node sound r is n (within node is) in
      (drop n (take n' p'), sym (take-append-drop n (take n' p')) ∙ ap (λ xs. xs ++ drop n (take n' p')) first)

  -- ---- workers

  pub working_lasts : (w : WorkerView) → w.host < plan.settings.hosts → w.index < plan.settings.workers → (actor_of e ≡ workers.actor_of w → ⊥) → IsWorking plan h w → IsWorking plan (e ∷ h) w
  working_lasts w host index other is =
      let more = ops_grow (Host w.host) host in
      record {
        hand = worker_has_lasts (workers.actor_of w) (host, index) tt other w.hand is.hand;
        compared = omega (arith, is.compared, rises (Host w.host) host);
        right = stays_right (host_tables plan h w.host) (host_tables plan (e ∷ h) w.host) more.0 w.cache refl more.1 is.right;
        cache = is.cache ∙ sym (cache_lasts plan h e w.host w.index other);
      }

  pub sealing_lasts : (c : CoprocView) → c.host < plan.settings.hosts → (actor_of e ≡ Coproc c.host → ⊥) → IsSealing plan h c → IsSealing plan (e ∷ h) c
  sealing_lasts c is other has = coproc_has_lasts (Coproc c.host) is tt other c.hand has

  pub passing_lasts : (v : HoverView) → v.gateway < plan.settings.gateways → (actor_of e ≡ Gateway v.gateway → ⊥) → IsPassing plan h v → IsPassing plan (e ∷ h) v
  passing_lasts v is other p = record {
    hand = hover_has_lasts (Gateway v.gateway) is tt other v.hand p.hand;
    compared = omega (arith, p.compared, rises (Gate v.gateway) is);
  }
