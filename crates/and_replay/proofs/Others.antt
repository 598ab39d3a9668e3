-- The parts after an event of an actor: those of others are as they were, and its own is changed.
use Rattle.std.proofs.Common.{◌≡◌, ℕ, ◌*◌, ◌<◌, List, ◌∷◌, sym, ap, ◌∙◌, subst, arith, set, Option}
use Rattle.std.proofs.lemmas.Nat.{mul-add-lt}
use Rattle.and_policy.specs.declared.entry.Op.{Op}
use Rattle.and_events.specs.declared.event.Actor.{Actor}
use Rattle.and_events.specs.declared.event.Actor.TheVariants.{HostInstall, GateInstall, Worker, Coproc, Gateway}
use Rattle.and_events.specs.declared.event.Node.TheVariants.{Host, Gate}
use Rattle.and_events.specs.declared.plan.Plan.{Plan}
use Rattle.and_events.specs.declared.event.Event.{Event}
use Rattle.and_events.specs.Places.{actor_of, hand_place, IsActor}
use Rattle.and_events.specs.declared.plan.Settings.{Settings}
use Rattle.and_laws.proofs.Actors.{hand_number, same_actor}
use Rattle.and_events.specs.Run.{Run, past}
use Rattle.and_events.specs.Sound.{IsSound}
use Rattle.and_book.specs.Views.{BookView}
use Rattle.and_tables.specs.HostViews.{HostView}
use Rattle.and_worker.specs.Workers.{WorkerView}
use Rattle.and_worker.specs.Workers as workers
use Rattle.and_hover.specs.Coprocs.{CoprocView}
use Rattle.and_hover.specs.Hovers.{HoverView}
use Rattle.and_replay.specs.Parting.{AreCoprocs, AreGateBatches, AreGates, AreHostBatches, AreHosts, AreHovers, AreWorkers, IsBatch, IsCoprocAt, IsHoverAt, IsPassing, IsSealing, IsWorkerAt, IsWorking, host_tables, installed_ops}
use Rattle.and_replay.specs.Turns.{Adds}
use Rattle.and_replay.proofs.Adding.{back, carried_over, plan_after}
use Rattle.and_replay.proofs.Frames.{batch_lasts, ops_last, passing_lasts, sealing_lasts, tables_last, working_lasts}
use Rattle.and_replay.proofs.Rows.{mapped, replaced}

module _ (old new : BookView) (a : Actor) (adds : Adds old new a) (sound' : IsSound new.plan) (run : Run new.plan (past new.lines)) where
  abbrev e : Event
  e = adds.event

  abbrev h : List Event
  h = past old.lines

  abbrev plan : Plan
  plan = old.plan

  sound : IsSound plan
  sound = subst IsSound (plan_after old new 0 e adds.line) sound'

  r : Run plan (e ∷ h)
  r = back old new 0 e adds.line Run run

  -- the event is of no other actor
  not_by : (b : Actor) → (a ≡ b → ⊥) → actor_of e ≡ b → ⊥
  not_by b other is = other (sym adds.actor ∙ is)

  over : (P : Plan → List Event → Type 0) → P plan (e ∷ h) → P new.plan (past new.lines)
  over P p = carried_over old new 0 e adds.line P p

  -- ---- of others

  pub hosts_last : (ts : List HostView) → ((n : ℕ) → a ≡ HostInstall n → ⊥) → AreHosts plan h ts → AreHosts new.plan (past new.lines) ts
  hosts_last ts other all =
      over (λ p g. AreHosts p g ts)
      (mapped _ (λ n t. t ≡ host_tables plan (e ∷ h) n) plan.settings.hosts ts all
      (λ n t l is. is ∙ sym (tables_last plan h e sound r n l (not_by (HostInstall n) (other n)))))

  pub gates_last : (ts : List (List Op)) → ((n : ℕ) → a ≡ GateInstall n → ⊥) → AreGates plan h ts → AreGates new.plan (past new.lines) ts
  gates_last ts other all =
      over (λ p g. AreGates p g ts)
      (mapped _ (λ n t. t ≡ installed_ops plan (e ∷ h) (Gate n)) plan.settings.gateways ts all
      (λ n t l is. is ∙ sym (ops_last plan h e sound r (Gate n) l (not_by (GateInstall n) (other n)))))

  pub host_batches_last : (xs : List (Option (List Op))) → ((n : ℕ) → a ≡ HostInstall n → ⊥) → AreHostBatches plan h xs → AreHostBatches new.plan (past new.lines) xs
  host_batches_last xs other all =
      over (λ p g. AreHostBatches p g xs)
      (mapped _ (λ n x. IsBatch plan (e ∷ h) (Host n) x) plan.settings.hosts xs all
      (λ n x l is. batch_lasts plan h e sound r (Host n) l (not_by (HostInstall n) (other n)) x is))

  pub gate_batches_last : (xs : List (Option (List Op))) → ((n : ℕ) → a ≡ GateInstall n → ⊥) → AreGateBatches plan h xs → AreGateBatches new.plan (past new.lines) xs
  gate_batches_last xs other all =
      over (λ p g. AreGateBatches p g xs)
      (mapped _ (λ n x. IsBatch plan (e ∷ h) (Gate n) x) plan.settings.gateways xs all
      (λ n x l is. batch_lasts plan h e sound r (Gate n) l (not_by (GateInstall n) (other n)) x is))

  still_works : (n : ℕ) (w : WorkerView) → (a ≡ workers.actor_of w → ⊥) → IsWorkerAt plan h n w → IsWorkerAt plan (e ∷ h) n w
  still_works n w other is = record {
    host = is.host;
    index = is.index;
    place = is.place;
    working = working_lasts plan h e sound r w is.host is.index (not_by (workers.actor_of w) other) is.working;
  }

  still_seals : (n : ℕ) (c : CoprocView) → n < plan.settings.hosts → (a ≡ Coproc n → ⊥) → IsCoprocAt plan h n c → IsCoprocAt plan (e ∷ h) n c
  still_seals n c l other is = record {
    host = is.host;
    sealing = sealing_lasts plan h e sound r c (omega (arith, l, is.host)) (not_by (Coproc c.host) (λ same. other (same ∙ ap Coproc is.host))) is.sealing;
  }

  still_passes : (n : ℕ) (v : HoverView) → n < plan.settings.gateways → (a ≡ Gateway n → ⊥) → IsHoverAt plan h n v → IsHoverAt plan (e ∷ h) n v
  still_passes n v l other is = record {
    gateway = is.gateway;
    passing = passing_lasts plan h e sound r v (omega (arith, l, is.gateway)) (not_by (Gateway v.gateway) (λ same. other (same ∙ ap Gateway is.gateway))) is.passing;
  }

  pub workers_last : (ws : List WorkerView) → ((host index : ℕ) → a ≡ Worker host index → ⊥) → AreWorkers plan h ws → AreWorkers new.plan (past new.lines) ws
  workers_last ws other all =
      over (λ p g. AreWorkers p g ws)
      (mapped _ (IsWorkerAt plan (e ∷ h)) (plan.settings.hosts * plan.settings.workers) ws all (λ n w l is. still_works n w (other w.host w.index) is))

  pub coprocs_last : (cs : List CoprocView) → ((host : ℕ) → a ≡ Coproc host → ⊥) → AreCoprocs plan h cs → AreCoprocs new.plan (past new.lines) cs
  coprocs_last cs other all =
      over (λ p g. AreCoprocs p g cs) (mapped _ (IsCoprocAt plan (e ∷ h)) plan.settings.hosts cs all (λ n c l is. still_seals n c l (other n) is))

  pub hovers_last : (vs : List HoverView) → ((g : ℕ) → a ≡ Gateway g → ⊥) → AreHovers plan h vs → AreHovers new.plan (past new.lines) vs
  hovers_last vs other all =
      over (λ p g. AreHovers p g vs) (mapped _ (IsHoverAt plan (e ∷ h)) plan.settings.gateways vs all (λ n v l is. still_passes n v l (other n) is))

  -- ---- its own

  here : (P : Plan → List Event → Type 0) → P new.plan (past new.lines) → P plan (e ∷ h)
  here P p = back old new 0 e adds.line P p

  pub host_changed : (ts : List HostView) (i : ℕ) (t : HostView) → a ≡ HostInstall i → AreHosts plan h ts → t ≡ host_tables new.plan (past new.lines) i → AreHosts new.plan (past new.lines) (set ts i t)
  host_changed ts i t is all now =
      over (λ p g. AreHosts p g (set ts i t))
      (replaced _ (λ n x. x ≡ host_tables plan (e ∷ h) n) plan.settings.hosts ts i t all (here (λ p g. t ≡ host_tables p g i) now)
      (λ n x l other same. same ∙ sym (tables_last plan h e sound r n l (not_by (HostInstall n) (λ z. other (let both : HostInstall i ≡ HostInstall n = sym is ∙ z in cc))))))

  pub gate_changed : (ts : List (List Op)) (i : ℕ) (t : List Op) → a ≡ GateInstall i → AreGates plan h ts → t ≡ installed_ops new.plan (past new.lines) (Gate i) → AreGates new.plan (past new.lines) (set ts i t)
  gate_changed ts i t is all now =
      over (λ p g. AreGates p g (set ts i t))
      (replaced _ (λ n x. x ≡ installed_ops plan (e ∷ h) (Gate n)) plan.settings.gateways ts i t all (here (λ p g. t ≡ installed_ops p g (Gate i)) now)
      (λ n x l other same. same ∙ sym (ops_last plan h e sound r (Gate n) l (not_by (GateInstall n) (λ z. other (let both : GateInstall i ≡ GateInstall n = sym is ∙ z in cc))))))

  pub host_batch_changed : (xs : List (Option (List Op))) (i : ℕ) (x : Option (List Op)) → a ≡ HostInstall i → AreHostBatches plan h xs → IsBatch new.plan (past new.lines) (Host i) x → AreHostBatches new.plan (past new.lines) (set xs i x)
  host_batch_changed xs i x is all now =
      over (λ p g. AreHostBatches p g (set xs i x))
      (replaced _ (λ n y. IsBatch plan (e ∷ h) (Host n) y) plan.settings.hosts xs i x all (here (λ p g. IsBatch p g (Host i) x) now)
      (λ n y l other same. batch_lasts plan h e sound r (Host n) l (not_by (HostInstall n) (λ z. other (let both : HostInstall i ≡ HostInstall n = sym is ∙ z in cc))) y same))

  pub gate_batch_changed : (xs : List (Option (List Op))) (i : ℕ) (x : Option (List Op)) → a ≡ GateInstall i → AreGateBatches plan h xs → IsBatch new.plan (past new.lines) (Gate i) x → AreGateBatches new.plan (past new.lines) (set xs i x)
  gate_batch_changed xs i x is all now =
      over (λ p g. AreGateBatches p g (set xs i x))
      (replaced _ (λ n y. IsBatch plan (e ∷ h) (Gate n) y) plan.settings.gateways xs i x all (here (λ p g. IsBatch p g (Gate i) x) now)
      (λ n y l other same. batch_lasts plan h e sound r (Gate n) l (not_by (GateInstall n) (λ z. other (let both : GateInstall i ≡ GateInstall n = sym is ∙ z in cc))) y same))

  pub worker_changed : (ws : List WorkerView) (i : ℕ) (w w' : WorkerView) → a ≡ workers.actor_of w → IsWorkerAt plan h i w → w'.host ≡ w.host → w'.index ≡ w.index → IsWorking new.plan (past new.lines) w' → AreWorkers plan h ws
      → AreWorkers new.plan (past new.lines) (set ws i w')
  worker_changed ws i w w' is was host index now all =
      let at : workers.actor_of w' ≡ workers.actor_of w = ap (λ n. Worker n w'.index) host ∙ ap (Worker w.host) index in
      over (λ p g. AreWorkers p g (set ws i w'))
      (replaced _ (IsWorkerAt plan (e ∷ h)) (plan.settings.hosts * plan.settings.workers) ws i w' all
      (record {
        host = omega (arith, was.host, host);
        index = omega (arith, was.index, index);
        place = ap (hand_place plan.settings) at ∙ was.place;
        working = here (λ p g. IsWorking p g w') now;
      })
      (λ n x l other at_n. still_works n x (λ z. other (sym at_n.place ∙ (ap (hand_place plan.settings) (sym z ∙ is) ∙ was.place))) at_n))

  pub coproc_changed : (cs : List CoprocView) (i : ℕ) (c : CoprocView) → a ≡ Coproc i → c.host ≡ i → IsSealing new.plan (past new.lines) c → AreCoprocs plan h cs → AreCoprocs new.plan (past new.lines) (set cs i c)
  coproc_changed cs i c is host now all =
      over (λ p g. AreCoprocs p g (set cs i c))
      (replaced _ (IsCoprocAt plan (e ∷ h)) plan.settings.hosts cs i c all (record { host = host; sealing = here (λ p g. IsSealing p g c) now })
      (λ n x l other at_n. still_seals n x l (λ z. other (let both : Coproc i ≡ Coproc n = sym is ∙ z in cc)) at_n))

  pub hover_changed : (vs : List HoverView) (i : ℕ) (v : HoverView) → a ≡ Gateway i → v.gateway ≡ i → IsPassing new.plan (past new.lines) v → AreHovers plan h vs → AreHovers new.plan (past new.lines) (set vs i v)
  hover_changed vs i v is gateway now all =
      over (λ p g. AreHovers p g (set vs i v))
      (replaced _ (IsHoverAt plan (e ∷ h)) plan.settings.gateways vs i v all (record { gateway = gateway; passing = here (λ p g. IsPassing p g v) now })
      (λ n x l other at_n. still_passes n x l (λ z. other (let both : Gateway i ≡ Gateway n = sym is ∙ z in cc)) at_n))

-- ---- what stands at a place

-- with what a host's tables were made
abbrev pub origin_of : HostView → ℕ × ℕ
origin_of t = (t.host, t.gateways)

made : (t : HostView) (o : ℕ × ℕ) (xs : List Op) → origin_of t ≡ o → t.ops ≡ xs → t ≡ record { host = o.0; gateways = o.1; ops = xs }
made t o xs same ops = ap (λ (p : ℕ × ℕ). record { host = p.0; gateways = p.1; ops = t.ops }) same ∙ ap (λ ys. record { host = o.0; gateways = o.1; ops = ys }) ops

-- tables of a host after an install
pub host_now : (t was : HostView) (p p' : Plan) (k k' : List Event) (host : ℕ) → was ≡ host_tables p k host → origin_of t ≡ origin_of was → t.ops ≡ installed_ops p' k' (Host host) → p' ≡ p → t ≡ host_tables p' k' host
host_now t was p p' k k' host is origin ops same =
    let at : ℕ × ℕ = (host, p'.settings.gateways) in
    let both : origin_of t ≡ at = origin ∙ (ap origin_of is ∙ ap (λ (x : Plan). origin_of (host_tables x k host)) (sym same)) in
    made t at (installed_ops p' k' (Host host)) both ops

-- the worker at the place of this number's hand
pub found_worker : (p : Plan) (k : List Event) (host index n : ℕ) (w : WorkerView) → IsActor p.settings (Worker host index) → n ≡ hand_place p.settings (Worker host index) → IsWorkerAt p k n w → workers.actor_of w ≡ Worker host index
found_worker p k host index n w is place at =
    let b = workers.actor_of w in
    let same : hand_place p.settings b ≡ hand_place p.settings (Worker host index) = at.place ∙ place in
    same_actor p.settings b (Worker host index) (at.host, at.index) is (omega (arith, hand_number p.settings b tt, hand_number p.settings (Worker host index) tt, same))

pub host_of : (n i m j : ℕ) → Worker n i ≡ Worker m j → n ≡ m
host_of n i m j same = cc

pub index_of : (n i m j : ℕ) → Worker n i ≡ Worker m j → i ≡ j
index_of n i m j same = cc

pub place_within : (s : Settings) (host index n : ℕ) → IsActor s (Worker host index) → n ≡ hand_place s (Worker host index) → n < s.hosts * s.workers
place_within s host index n is place = let l = mul-add-lt host s.workers index s.hosts is.0 is.1 in omega (arith, l, place)
