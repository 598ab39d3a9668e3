-- What is not at rest has an actor that is enabled: its installer, whoever has a packet in hand, or a worker of the queue.
use Rattle.std.proofs.Common.{◌≡◌, ℕ, zero, suc, ◌+◌, ◌-◌, ◌*◌, ◌<◌, ◌≤◌, false, List, [], ◌∷◌, length, refl, sym, subst, arith, Option, Some, None, ⊎_elim, inl, inr, ◌⊎◌, suc-mul}
use Rattle.std.proofs.lemmas.List.{get_or_past}
use Rattle.std.proofs.lemmas.Bool.{cases_eq, cases_lt}
use Rattle.and_events.specs.declared.event.Actor.{Actor}
use Rattle.and_events.specs.declared.event.Actor.TheVariants.{HostInstall, GateInstall, Worker, Coproc, Gateway, Controller, Driver}
use Rattle.and_events.specs.declared.event.Event.{Event}
use Rattle.and_events.specs.declared.event.Held.{Held}
use Rattle.and_events.specs.declared.event.Node.{Node}
use Rattle.and_events.specs.declared.event.Node.TheVariants.{Host, Gate}
use Rattle.and_events.specs.declared.event.Queue.{Queue}
use Rattle.and_events.specs.declared.event.Queue.TheVariants.{Out, Wire, Seal}
use Rattle.and_events.specs.declared.plan.Settings.{Settings}
use Rattle.and_events.specs.declared.plan.Plan.{Plan}
use Rattle.and_events.specs.Places.{hand_count, hand_place, queue_place, IsActor, IsNode, HasQueue}
use Rattle.and_events.specs.Flow.{queue_at, hand_at}
use Rattle.and_events.specs.State.{State, state, programme_of, announced_of, installed_of}
use Rattle.and_events.specs.Legal.{CanAnnounce, CanInstall, CanTake, install_held, forward_held}
use Rattle.and_events.specs.Run.{Run}
use Rattle.and_laws.specs.Stages.{Takes}
use Rattle.and_laws.specs.Progress.{GoesOn}
use Rattle.and_laws.proofs.Programmed.{programmed}

-- ---- looking through what there is

pub search_below : {Q : Type 0} (n : ℕ) (P : ℕ → Type 0) → ((k : ℕ) → k < n → P k ⊎ Q) → ((k : ℕ) → k < n → P k) ⊎ Q
search_below zero P f = inl (λ k l. absurd (omega (arith, l)))
search_below {Q} (suc n) P f =
    ⊎_elim
    (λ (below : (k : ℕ) → k < n → P k).
    ⊎_elim
    (λ (last : P n). inl (λ k l.
    ⊎_elim (λ (e : k ≡ n). subst P (sym e) last) (λ (other : k ≡ n → ⊥). below k (omega (arith, l, other))) (cases_eq k n)))
    (λ (q : Q). inr q) (f n (omega arith)))
    (λ (q : Q). inr q) (search_below n P (λ k l. f k (omega (arith, l))))

pub search_nodes : {Q : Type 0} (s : Settings) (P : Node → Type 0) → ((node : Node) → IsNode s node → P node ⊎ Q) → ((node : Node) → IsNode s node → P node) ⊎ Q
search_nodes {Q} s P f =
    ⊎_elim
    (λ (hosts : (k : ℕ) → k < s.hosts → P (Host k)).
    ⊎_elim (λ (gates : (k : ℕ) → k < s.gateways → P (Gate k)). inl (both hosts gates)) (λ (q : Q). inr q)
    (search_below s.gateways (λ k. P (Gate k)) (λ k l. f (Gate k) l)))
    (λ (q : Q). inr q) (search_below s.hosts (λ k. P (Host k)) (λ k l. f (Host k) l))
  where
    both : ((k : ℕ) → k < s.hosts → P (Host k)) → ((k : ℕ) → k < s.gateways → P (Gate k)) → (node : Node) → IsNode s node → P node
    both hosts gates (Host k) is = hosts k is
    both hosts gates (Gate k) is = gates k is

pub search_queues : {T : Type 0} (P : Queue → Type 0) → ((q : Queue) → P q ⊎ T) → ((q : Queue) → P q) ⊎ T
search_queues {T} P f =
    ⊎_elim
    (λ (out : P Out).
    ⊎_elim (λ (wire : P Wire). ⊎_elim (λ (seal : P Seal). inl (each out wire seal)) (λ (t : T). inr t) (f Seal)) (λ (t : T). inr t) (f Wire))
    (λ (t : T). inr t) (f Out)
  where
    each : P Out → P Wire → P Seal → (q : Queue) → P q
    each out wire seal Out = out
    each out wire seal Wire = wire
    each out wire seal Seal = seal

-- ---- hands

-- the actor whose hand is at the place
pub record HandOf (s : Settings) (k : ℕ) : Type 0 where
  pub actor : Actor
  pub is : IsActor s actor
  pub takes : Takes actor
  pub place : hand_place s actor ≡ k

record RowOf (hosts workers k : ℕ) : Type 0 where
  pub row : ℕ
  pub column : ℕ
  pub in_rows : row < hosts
  pub in_row : column < workers
  pub is : row * workers + column ≡ k

row_of : (hosts workers k : ℕ) → k < hosts * workers → RowOf hosts workers k
row_of zero workers k l = absurd (omega (arith, l))
row_of (suc hosts) workers k l =
    ⊎_elim
    (λ (m : k < hosts * workers).
    let r = row_of hosts workers k m in
    record { row = r.row; column = r.column; in_rows = omega (arith, r.in_rows); in_row = r.in_row; is = r.is })
    (λ (m : hosts * workers ≤ k).
    record { row = hosts; column = k - hosts * workers; in_rows = omega arith; in_row = omega (arith, l, m, suc-mul hosts workers); is = omega (arith, m) })
    (cases_lt k (hosts * workers))

pub hand_of : (s : Settings) (k : ℕ) → k < hand_count s → HandOf s k
hand_of s k l =
    let rows = s.hosts * s.workers in
    ⊎_elim
    (λ (m : k < rows).
    let r = row_of s.hosts s.workers k m in
    record { actor = Worker r.row r.column; is = (r.in_rows, r.in_row); takes = tt; place = r.is })
    (λ (m : rows ≤ k).
    ⊎_elim (λ (n : k < rows + s.hosts). record { actor = Coproc (k - rows); is = omega (arith, m, n); takes = tt; place = omega (arith, m) })
    (λ (n : rows + s.hosts ≤ k). record { actor = Gateway (k - (rows + s.hosts)); is = omega (arith, l, n); takes = tt; place = omega (arith, n) })
    (cases_lt k (rows + s.hosts)))
    (cases_lt k rows)

module _ (plan : Plan) (s : State) where
  holder_goes : (a : Actor) (g : Held) → IsActor plan.settings a → Takes a → hand_at s.flow.hands (hand_place plan.settings a) ≡ Some g → GoesOn plan s
  holder_goes (Worker h w) g is t has = record { actor = Worker h w; is = is; enabled = inl (is, (g, has)) }
  holder_goes (Coproc h) g is t has = record { actor = Coproc h; is = is; enabled = inl (is, (g, has)) }
  holder_goes (Gateway k) g is t has = record { actor = Gateway k; is = is; enabled = inl (is, (g, has)) }
  holder_goes (HostInstall h) g is t has = absurd t
  holder_goes (GateInstall k) g is t has = absurd t
  holder_goes Controller g is t has = absurd t
  holder_goes Driver g is t has = absurd t

  hand_or : (k : ℕ) → k < hand_count plan.settings → (o : Option Held) → hand_at s.flow.hands k ≡ o → (hand_at s.flow.hands k ≡ None) ⊎ GoesOn plan s
  hand_or k l None e = inl e
  hand_or k l (Some g) e =
      let a = hand_of plan.settings k l in
      inr (holder_goes a.actor g a.is a.takes (subst (λ x. hand_at s.flow.hands x ≡ Some g) (sym a.place) e))

  -- every hand is empty, or an actor is enabled
  pub hands_or : length s.flow.hands ≡ hand_count plan.settings → ((k : ℕ) → hand_at s.flow.hands k ≡ None) ⊎ GoesOn plan s
  hands_or size =
      ⊎_elim
      (λ (all : (k : ℕ) → k < hand_count plan.settings → hand_at s.flow.hands k ≡ None).
      inl (λ k.
      ⊎_elim (λ (l : k < hand_count plan.settings). all k l)
      (λ (l : hand_count plan.settings ≤ k). let past : length s.flow.hands ≤ k = omega (arith, size, l) in get_or_past s.flow.hands k None past)
      (cases_lt k (hand_count plan.settings))))
      (λ (g : GoesOn plan s). inr g)
      (search_below (hand_count plan.settings) (λ k. hand_at s.flow.hands k ≡ None) (λ k l. hand_or k l (hand_at s.flow.hands k) refl))

  -- ---- queues

  module _ (some : 0 < plan.settings.workers) (none : (k : ℕ) → hand_at s.flow.hands k ≡ None) where
    worker_goes : (h : ℕ) (q : Queue) (i : ℕ) → h < plan.settings.hosts → CanTake plan s (Worker h 0) q i → GoesOn plan s
    worker_goes h q i is can = record { actor = Worker h 0; is = (is, some); enabled = inr (q, i, can) }

    wire_or : (h : ℕ) → h < plan.settings.hosts → forward_held plan s (Host h) ≡ false → (xs : List ℕ) → queue_at s.flow.queues (queue_place plan.settings (Host h) Wire) ≡ xs → (queue_at s.flow.queues (queue_place plan.settings (Host h) Wire) ≡ []) ⊎ GoesOn plan s
    wire_or h is free [] e = inl e
    wire_or h is free (i ∷ rest) e =
        inr (worker_goes h Wire i is (record { actor = (is, some); free = none (hand_place plan.settings (Worker h 0)); running = free; queue = tt; front = (rest, e) }))

    out_or : (h : ℕ) → h < plan.settings.hosts → forward_held plan s (Host h) ≡ false → queue_at s.flow.queues (queue_place plan.settings (Host h) Wire) ≡ [] → (xs : List ℕ) → queue_at s.flow.queues (queue_place plan.settings (Host h) Out) ≡ xs → (queue_at s.flow.queues (queue_place plan.settings (Host h) Out) ≡ []) ⊎ GoesOn plan s
    out_or h is free clear [] e = inl e
    out_or h is free clear (i ∷ rest) e =
        inr (worker_goes h Out i is (record { actor = (is, some); free = none (hand_place plan.settings (Worker h 0)); running = free; queue = clear; front = (rest, e) }))

    seal_or : (h : ℕ) → h < plan.settings.hosts → forward_held plan s (Host h) ≡ false → (xs : List ℕ) → queue_at s.flow.queues (queue_place plan.settings (Host h) Seal) ≡ xs → (queue_at s.flow.queues (queue_place plan.settings (Host h) Seal) ≡ []) ⊎ GoesOn plan s
    seal_or h is free [] e = inl e
    seal_or h is free (i ∷ rest) e =
        inr (record {
          actor = Coproc h;
          is = is;
          enabled = inr (Seal, i, record { actor = is; free = none (hand_place plan.settings (Coproc h)); running = free; queue = tt; front = (rest, e) });
        })

    gate_or : (g : ℕ) → g < plan.settings.gateways → forward_held plan s (Gate g) ≡ false → (xs : List ℕ) → queue_at s.flow.queues (queue_place plan.settings (Gate g) Wire) ≡ xs → (queue_at s.flow.queues (queue_place plan.settings (Gate g) Wire) ≡ []) ⊎ GoesOn plan s
    gate_or g is free [] e = inl e
    gate_or g is free (i ∷ rest) e =
        inr (record {
          actor = Gateway g;
          is = is;
          enabled = inr (Wire, i, record { actor = is; free = none (hand_place plan.settings (Gateway g)); running = free; queue = tt; front = (rest, e) });
        })

    -- the queue is empty, or an actor is enabled
    pub queue_or : (node : Node) (q : Queue) → IsNode plan.settings node → HasQueue node q → forward_held plan s node ≡ false → (queue_at s.flow.queues (queue_place plan.settings node q) ≡ []) ⊎ GoesOn plan s
    queue_or (Host h) Wire is has free = wire_or h is free _ refl
    queue_or (Host h) Seal is has free = seal_or h is free _ refl
    queue_or (Host h) Out is has free =
        ⊎_elim
        (λ (clear : queue_at s.flow.queues (queue_place plan.settings (Host h) Wire) ≡ []). out_or h is free clear _ refl)
        (λ (g : GoesOn plan s). inr g) (wire_or h is free _ refl)
    queue_or (Gate g) Wire is has free = gate_or g is free _ refl
    queue_or (Gate g) Out is has free = absurd has
    queue_or (Gate g) Seal is has free = absurd has

-- ---- installs

announces : (plan : Plan) (s : State) (node : Node) → IsNode plan.settings node → CanAnnounce plan s node → GoesOn plan s
announces plan s (Host h) is can = record { actor = HostInstall h; is = is; enabled = inl can }
announces plan s (Gate g) is can = record { actor = GateInstall g; is = is; enabled = inl can }

installs : (plan : Plan) (s : State) (node : Node) → IsNode plan.settings node → CanInstall plan s node → GoesOn plan s
installs plan s (Host h) is can = record { actor = HostInstall h; is = is; enabled = inr can }
installs plan s (Gate g) is can = record { actor = GateInstall g; is = is; enabled = inr can }

-- all of the node's programme is installed, or its installer is enabled
pub install_or : (plan : Plan) (h : List Event) → Run plan h → (node : Node) → IsNode plan.settings node → install_held plan (state plan h) node ≡ false → (installed_of plan (state plan h) node ≡ length (programme_of plan (state plan h) node)) ⊎ GoesOn plan (state plan h)
install_or plan h r node is free =
    let s = state plan h in
    let p = programmed plan h r node is in
    ⊎_elim (λ (l : installed_of plan s node < announced_of plan s node). inr (installs plan s node is (is, l)))
    (λ (l : announced_of plan s node ≤ installed_of plan s node).
    let same : announced_of plan s node ≡ installed_of plan s node = omega (arith, l, p.installed) in
    ⊎_elim (λ (m : announced_of plan s node < length (programme_of plan s node)). inr (announces plan s node is (is, free, same, m)))
    (λ (m : length (programme_of plan s node) ≤ announced_of plan s node). inl (omega (arith, same, m, p.announced)))
    (cases_lt (announced_of plan s node) (length (programme_of plan s node))))
    (cases_lt (installed_of plan s node) (announced_of plan s node))
