-- The condition of `wait` or of the end holds, or an actor is enabled.
use Rattle.std.proofs.Common.{◌≡◌, ℕ, suc, ◌+◌, ◌-◌, ◌*◌, ◌<◌, ◌≤◌, Bool, true, false, ◌||◌, cond, List, [], ◌∷◌, length, refl, sym, ap, ◌∙◌, subst, arith, Option, Some, None, ⊎_elim, inl, inr, ◌⊎◌}
use Rattle.std.specs.Prelude.{◌==◌, option_map}
use Rattle.std.specs.List.{All, list_any, find, position_from}
use Rattle.std.proofs.lemmas.List.{get_or_default, take_all}
use Rattle.std.proofs.lemmas.Iterator.Adapters.{position_from-zero}
use Rattle.std.proofs.lemmas.Bool.{cases_lt}
use Rattle.std.proofs.lemmas.Grind.{common_steps}
use Rattle.and_policy.specs.declared.entry.Entry.{Entry}
use Rattle.and_policy.specs.declared.entry.Entry.TheVariants as entry_kinds
use Rattle.and_policy.specs.declared.port.Port.{Port}
use Rattle.and_policy.specs.Logs.{Vm, added, is_live}
use Rattle.and_policy.specs.Programmes.{entries, prefix, adds, added_at}
use Rattle.and_events.specs.declared.event.Event.{Event}
use Rattle.and_events.specs.declared.event.Node.{Node}
use Rattle.and_events.specs.declared.event.Node.TheVariants.{Host, Gate}
use Rattle.and_events.specs.declared.event.Queue.{Queue}
use Rattle.and_events.specs.declared.event.Queue.TheVariants.{Out, Wire, Seal}
use Rattle.and_events.specs.declared.plan.Settings.{Settings}
use Rattle.and_events.specs.declared.plan.Plan.{Plan}
use Rattle.and_events.specs.Places.{queue_place, queue_count, IsNode, HasQueue}
use Rattle.and_events.specs.Flow.{queue_at, hand_at}
use Rattle.and_events.specs.Ports.{port_at, IsHairpin}
use Rattle.and_events.specs.State.{State, state, programme_of, installed_of}
use Rattle.and_events.specs.Legal.{IsAtRest, IsOver, KnowsVm, install_held, forward_held}
use Rattle.and_events.specs.Run.{Run}
use Rattle.and_events.specs.Sound.{IsSound}
use Rattle.and_laws.specs.LivePorts.{FitsPorts}
use Rattle.and_laws.specs.Progress.{GoesOn}
use Rattle.and_laws.proofs.Sizes.{sizes}
use Rattle.and_laws.proofs.Lives.{not_added}
use Rattle.and_laws.proofs.Programmed.{programmed}
use Rattle.and_laws.proofs.Enabling.{search_nodes, search_queues, hands_or, queue_or, install_or}

-- ---- at rest, and over

-- nothing is held at a node of the plan
pub record AreFree (plan : Plan) (s : State) : Type 0 where
  pub install : (node : Node) → IsNode plan.settings node → install_held plan s node ≡ false
  pub forward : (node : Node) → IsNode plan.settings node → forward_held plan s node ≡ false

pub record QueueOf (s : Settings) (k : ℕ) : Type 0 where
  pub node : Node
  pub queue : Queue
  pub is : IsNode s node
  pub has : HasQueue node queue
  pub place : queue_place s node queue ≡ k

pub queue_of : (s : Settings) (k : ℕ) → k < queue_count s → QueueOf s k
queue_of s k l =
    ⊎_elim (λ (m : k < s.hosts). record { node = Host k; queue = Out; is = m; has = tt; place = refl })
    (λ (m : s.hosts ≤ k).
    ⊎_elim (λ (n : k < 2 * s.hosts). record { node = Host (k - s.hosts); queue = Seal; is = omega (arith, m, n); has = tt; place = omega (arith, m) })
    (λ (n : 2 * s.hosts ≤ k).
    ⊎_elim (λ (o : k < 3 * s.hosts). record { node = Host (k - 2 * s.hosts); queue = Wire; is = omega (arith, n, o); has = tt; place = omega (arith, n) })
    (λ (o : 3 * s.hosts ≤ k). record { node = Gate (k - 3 * s.hosts); queue = Wire; is = omega (arith, l, o); has = tt; place = omega (arith, o) })
    (cases_lt k (3 * s.hosts)))
    (cases_lt k (2 * s.hosts)))
    (cases_lt k s.hosts)

module _ (plan : Plan) (h : List Event) (sound : IsSound plan) (r : Run plan h) where
  abbrev Goes : Type 0
  Goes = GoesOn plan (state plan h)

  abbrev IsInstalledAt : Node → Type 0
  IsInstalledAt node = installed_of plan (state plan h) node ≡ length (programme_of plan (state plan h) node)

  abbrev IsEmptyAt : Node → Queue → Type 0
  IsEmptyAt node q = queue_at (state plan h).flow.queues (queue_place plan.settings node q) ≡ []

  -- where its installs are not held, all is installed
  installed_or : (node : Node) → IsNode plan.settings node → (b : Bool) → install_held plan (state plan h) node ≡ b → (b ≡ false → IsInstalledAt node) ⊎ Goes
  installed_or node is true e = inl (λ f. absurd (cc))
  installed_or node is false e = ⊎_elim (λ (l : IsInstalledAt node). inl (λ f. l)) (λ (g : Goes). inr g) (install_or plan h r node is e)

  all_installed : ((node : Node) → IsNode plan.settings node → install_held plan (state plan h) node ≡ false → IsInstalledAt node) ⊎ Goes
  all_installed =
      search_nodes plan.settings (λ node. install_held plan (state plan h) node ≡ false → IsInstalledAt node)
      (λ node is. installed_or node is (install_held plan (state plan h) node) refl)

  some_workers : 0 < plan.settings.workers
  some_workers = omega (arith, sound.settings.workers.0)

  module _ (none : (k : ℕ) → hand_at (state plan h).flow.hands k ≡ None) where
    -- where forwarding is not held, the queue is empty
    empty_or : (node : Node) (q : Queue) → IsNode plan.settings node → HasQueue node q → (b : Bool) → forward_held plan (state plan h) node ≡ b → (b ≡ false → IsEmptyAt node q) ⊎ Goes
    empty_or node q is has true e = inl (λ f. absurd (cc))
    empty_or node q is has false e =
        ⊎_elim (λ (l : IsEmptyAt node q). inl (λ f. l)) (λ (g : Goes). inr g) (queue_or plan (state plan h) some_workers none node q is has e)

    abbrev AreEmptyAt : Node → Type 0
    AreEmptyAt node = (q : Queue) → HasQueue node q → forward_held plan (state plan h) node ≡ false → IsEmptyAt node q

    queue_empty : (node : Node) (q : Queue) → IsNode plan.settings node → (HasQueue node q → forward_held plan (state plan h) node ≡ false → IsEmptyAt node q) ⊎ Goes
    queue_empty (Gate g) Out is = inl (λ has. absurd has)
    queue_empty (Gate g) Seal is = inl (λ has. absurd has)
    queue_empty (Gate g) Wire is =
        ⊎_elim (λ (l : forward_held plan (state plan h) (Gate g) ≡ false → IsEmptyAt (Gate g) Wire). inl (λ has. l)) (λ (o : Goes). inr o)
        (empty_or (Gate g) Wire is tt (forward_held plan (state plan h) (Gate g)) refl)
    queue_empty (Host x) q is =
        ⊎_elim (λ (l : forward_held plan (state plan h) (Host x) ≡ false → IsEmptyAt (Host x) q). inl (λ has. l)) (λ (o : Goes). inr o)
        (empty_or (Host x) q is tt (forward_held plan (state plan h) (Host x)) refl)

    node_empty : (node : Node) → IsNode plan.settings node → AreEmptyAt node ⊎ Goes
    node_empty node is = search_queues (λ q. HasQueue node q → forward_held plan (state plan h) node ≡ false → IsEmptyAt node q) (λ q. queue_empty node q is)

    all_empty : ((node : Node) → IsNode plan.settings node → AreEmptyAt node) ⊎ Goes
    all_empty = search_nodes plan.settings AreEmptyAt node_empty

  no_hands : ((k : ℕ) → hand_at (state plan h).flow.hands k ≡ None) → All (λ o. o ≡ None) (state plan h).flow.hands
  no_hands none k d l = get_or_default (state plan h).flow.hands k d None l ∙ none k

  -- the condition of `wait` holds, or an actor is enabled
  pub rest_or : IsAtRest plan (state plan h) ⊎ Goes
  rest_or =
      ⊎_elim
      (λ (installed : (node : Node) → IsNode plan.settings node → install_held plan (state plan h) node ≡ false → IsInstalledAt node).
      ⊎_elim
      (λ (none : (k : ℕ) → hand_at (state plan h).flow.hands k ≡ None).
      ⊎_elim
      (λ (empty : (node : Node) → IsNode plan.settings node → (q : Queue) → HasQueue node q → forward_held plan (state plan h) node ≡ false → IsEmptyAt node q).
      inl (record { installed = installed; hands = no_hands none; queues = λ node q is has unheld. empty node is q has unheld }))
      (λ (g : Goes). inr g) (all_empty none))
      (λ (g : Goes). inr g) (hands_or plan (state plan h) (sizes plan h).hands))
      (λ (g : Goes). inr g) all_installed

  -- nothing is left to do but for hairpins, or an actor is enabled
  pub over_or : AreFree plan (state plan h) → (((node : Node) → IsNode plan.settings node → IsInstalledAt node) → ((host vm : ℕ) → IsHairpin (port_at (state plan h).ports host vm) → ⊥) ⊎ Goes) → IsOver plan (state plan h) ⊎ Goes
  over_or free pins =
      ⊎_elim
      (λ (rest : IsAtRest plan (state plan h)).
      let installed : (node : Node) → IsNode plan.settings node → IsInstalledAt node = λ node is. rest.installed node is (free.install node is) in
      ⊎_elim
      (λ (no_pins : (host vm : ℕ) → IsHairpin (port_at (state plan h).ports host vm) → ⊥).
      inl (record {
        queues = λ k d l.
            let nothing : List ℕ = [] in
            let q = queue_of plan.settings k (omega (arith, l, (sizes plan h).queues)) in
            get_or_default (state plan h).flow.queues k d nothing l
            ∙ subst (λ p. queue_at (state plan h).flow.queues p ≡ []) q.place (rest.queues q.node q.queue q.is q.has (free.forward q.node q.is));
        hands = rest.hands;
        installed = installed;
        hairpins = no_pins;
      }))
      (λ (g : Goes). inr g) (pins installed))
      (λ (g : Goes). inr g) rest_or

  -- ---- VMs that a host knows

  -- a host that has the log installed knows every VM that was added
  pub knows_all : (host vm q : ℕ) → host < plan.settings.hosts → added_at (state plan h).programmes.log vm ≡ Some q → q ≤ length (state plan h).programmes.log → IsInstalledAt (Host host) → KnowsVm plan (state plan h) host vm
  knows_all host vm q is_host is within installed =
      let s = state plan h in
      let p = programme_of plan s (Host host) in
      let whole : prefix p (installed_of plan s (Host host)) ≡ s.programmes.log =
      ap (prefix p) installed ∙ ap entries (take_all (length p) p (omega arith)) ∙ (programmed plan h r (Host host) is_host).log in
      (q, is, is_host, omega (arith, within, ap (length {A = Entry}) whole))

-- ---- a live VM was added

found_from : (t : Entry → Bool) (xs : List Entry) (i : ℕ) → list_any t xs ≡ true → (j : ℕ) × (position_from t i xs ≡ Some j) × (j < i + length xs)
found_from t [] i e = absurd (let no_way : false ≡ true = e in cc)
found_from t (x ∷ xs) i e = step (t x) e (λ f. found_from t xs (i + 1) f)
  where
    step : (b : Bool) → (b || list_any t xs) ≡ true → (list_any t xs ≡ true → (j : ℕ) × (position_from t (i + 1) xs ≡ Some j) × (j < i + 1 + length xs)) → (j : ℕ) × (cond b (Some i) (position_from t (i + 1) xs) ≡ Some j) × (j < i + suc (length xs))
    step true f later = (i, refl, omega arith)
    step false f later = let l = later f in (l.0, l.1, omega (arith, l.2))

adds_any : (vm : ℕ) (k : List Entry) → list_any (adds vm) k ≡ list_any (λ v. v.number == vm) (added k)
adds_any vm [] = refl
adds_any vm (entry_kinds.AddVm v net mac ip host ∷ k) = ap (λ b. (v == vm) || b) (adds_any vm k)
adds_any vm (_ ∷ k) = adds_any vm k

live_is_added : (k : List Entry) (vm : ℕ) (b : Bool) → list_any (λ v. v.number == vm) (added k) ≡ b → is_live k vm ≡ true → b ≡ true
live_is_added k vm true e live = refl
live_is_added k vm false e live = absurd (let no_way : false ≡ true = sym (not_added k vm e) ∙ live in cc)

-- a live VM's entry has its number in the log
pub record NumberOf (k : List Entry) (vm : ℕ) : Type 0 where
  pub number : ℕ
  pub is : added_at k vm ≡ Some number
  pub within : number ≤ length k

pub number_of : (k : List Entry) (vm : ℕ) → is_live k vm ≡ true → NumberOf k vm
number_of k vm live =
    let any : list_any (adds vm) k ≡ true = adds_any vm k ∙ live_is_added k vm (list_any (λ v. v.number == vm) (added k)) refl live in
    let found = found_from (adds vm) k 0 any in
    record { number = suc found.0; is = ap (option_map suc) (position_from-zero (adds vm) k ∙ found.1); within = omega (arith, found.2) }

pub find_live : (q : Vm → Bool) (xs : List Vm) (x : Vm) → find q xs ≡ Some x → list_any (λ v. v.number == x.number) xs ≡ true
find_live q [] x e = absurd (let nothing : None ≡ Some x = e in cc)
find_live q (y ∷ xs) x e = step (q y) e (λ f. find_live q xs x f)
  where
    or_last : (a b : Bool) → b ≡ true → (a || b) ≡ true
    or_last true b e = refl
    or_last false b e = e

    same_number : y ≡ x → (y.number == x.number) ≡ true
    same_number e = let n : y.number ≡ x.number = ap (λ (v : Vm). v.number) e in grind (arith, common_steps)

    step : (b : Bool) → cond b (Some y) (find q xs) ≡ Some x → (find q xs ≡ Some x → list_any (λ v. v.number == x.number) xs ≡ true) → ((y.number == x.number) || list_any (λ v. v.number == x.number) xs) ≡ true
    step true f later = let e : y ≡ x = cc in let n = same_number e in rw n
    step false f later = or_last (y.number == x.number) (list_any (λ v. v.number == x.number) xs) (later f)

pub home_of : (hosts : ℕ) (b : Bool) (at to : Option ℕ) (ports : List Port) → b ≡ true → FitsPorts hosts b at to ports → (host : ℕ) × (at ≡ Some host) × (host < hosts)
home_of hosts true None to ports e f = absurd f
home_of hosts true (Some host) None ports e f = (host, refl, f.0)
home_of hosts true (Some host) (Some to) ports e f = (host, refl, f.0)
home_of hosts false at to ports e f = absurd (let no_way : false ≡ true = e in cc)
