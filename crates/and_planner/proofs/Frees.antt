-- At the end each thing that is still held is freed.
use Rattle.std.proofs.Common.{◌≡◌, ℕ, zero, suc, ◌+◌, ◌*◌, length-append, ◌<◌, ◌≤◌, Bool, true, false, ◌&&◌, ◌||◌, List, [], ◌∷◌, ◌++◌, length, nat_lt, None, refl, sym, ap, ◌∙◌, subst, arith}
use Rattle.std.specs.Prelude.{if◌then◌else◌, not}
use Rattle.std.specs.List.{All, list_any}
use Rattle.std.proofs.lemmas.List.Elements.{All-filter, All-head}
use Rattle.std.proofs.lemmas.Bool.Decides.{nat_tests}
use Rattle.std.proofs.lemmas.Map.Views.{any-filter_same}
use Rattle.and_events.specs.declared.event.Node.{Node}
use Rattle.and_events.specs.declared.event.Node.TheVariants.{Host, Gate}
use Rattle.and_events.specs.declared.plan.What.{What}
use Rattle.and_events.specs.declared.plan.What.TheVariants.{Install, Forward}
use Rattle.and_events.specs.declared.plan.Item.TheVariants as items
use Rattle.and_events.specs.declared.plan.Step.{Step}
use Rattle.and_events.specs.declared.plan.Step.TheVariants as steps
use Rattle.and_events.specs.declared.plan.Settings.{Settings}
use Rattle.and_events.specs.declared.plan.Plan.{Plan}
use Rattle.and_events.specs.Planned.{frees_at, frees_below, frees}
use Rattle.and_events.specs.Script.{Script, HeldAt, same_node, same_what, is_hold, holds_at, is_node, item_fault, script_after}
use Rattle.and_planner.proofs.Walks.{Walk, walk_on, one_step}

-- ---- what a Free does to what is held

abbrev freed : Script → Node → What → Script
freed p node what = script_after p (items.Free node what)

same_node_refl : (a : Node) → same_node a a ≡ true
same_node_refl (Host h) = grind (arith, nat_tests)
same_node_refl (Gate g) = grind (arith, nat_tests)

same_what_refl : (a : What) → same_what a a ≡ true
same_what_refl Install = refl
same_what_refl Forward = refl

same_node_is : (a b : Node) → same_node a b ≡ true → a ≡ b
same_node_is (Host a) (Host b) h = let e : a ≡ b = grind (arith, nat_tests, h) in ap Host e
same_node_is (Gate a) (Gate b) h = let e : a ≡ b = grind (arith, nat_tests, h) in ap Gate e
same_node_is (Host a) (Gate b) h = absurd (cc)
same_node_is (Gate a) (Host b) h = absurd (cc)

same_what_is : (a b : What) → same_what a b ≡ true → a ≡ b
same_what_is Install Install h = refl
same_what_is Forward Forward h = refl
same_what_is Install Forward h = absurd (cc)
same_what_is Forward Install h = absurd (cc)

same_node_sym : (a b : Node) → same_node a b ≡ same_node b a
same_node_sym (Host a) (Host b) = grind (arith, nat_tests)
same_node_sym (Gate a) (Gate b) = grind (arith, nat_tests)
same_node_sym (Host a) (Gate b) = refl
same_node_sym (Gate a) (Host b) = refl

same_what_sym : (a b : What) → same_what a b ≡ same_what b a
same_what_sym Install Install = refl
same_what_sym Forward Forward = refl
same_what_sym Install Forward = refl
same_what_sym Forward Install = refl

both_true : (a b : Bool) → (a && b) ≡ true → (a ≡ true) × (b ≡ true)
both_true true b h = (refl, h)
both_true false b h = absurd (cc)

not_this : (b : Bool) → b ≡ false → not b ≡ true
not_this b h = rw h refl

not_that : (b : Bool) → b ≡ true → not b ≡ false
not_that b h = rw h refl

-- what is this thing is not another
not_another : (node node' : Node) (what what' : What) (h : HeldAt) → (same_node node node' && same_what what what') ≡ false
    → is_hold node' what' h ≡ true → is_hold node what h ≡ false
not_another node node' what what' h apart found =
    let (n, w) = both_true (same_node h.node node') (same_what h.what what') found in
    let at : h.node ≡ node' = same_node_is h.node node' n in
    let of : h.what ≡ what' = same_what_is h.what what' w in
    rw (at, of, same_node_sym node' node, same_what_sym what' what) apart

-- another thing is held as before, and the thing itself no more
other_held : (p : Script) (node node' : Node) (what what' : What) → (same_node node node' && same_what what what') ≡ false
    → holds_at (freed p node what) node' what' ≡ holds_at p node' what'
other_held p node node' what what' other =
    any-filter_same (is_hold node' what') (λ h. not (is_hold node what h)) true
    (λ h found. not_this (is_hold node what h) (not_another node node' what what' h other found)) p.holds

none_held : (p : Script) (node : Node) (what : What) → holds_at (freed p node what) node what ≡ false
none_held p node what =
    any-filter_same (is_hold node what) (λ h. not (is_hold node what h)) false (λ h found. not_that (is_hold node what h) found) p.holds

-- ---- one thing at one node

-- the plain state c is p without what is held at this thing
record Without (s : Settings) (p c : Script) (node : Node) (what : What) : Type 0 where
  pub log : c.log ≡ p.log
  pub here : holds_at c node what ≡ false
  pub other : (node' : Node) (what' : What) → (same_node node node' && same_what what what') ≡ false → holds_at c node' what' ≡ holds_at p node' what'
  pub nodes : All (λ h. is_node s h.node ≡ true) c.holds

abbrev freeing : Bool → Node → What → List Step
freeing b node what = if b then steps.Free node what ∷ [] else []

free_fits : (s : Settings) (p : Script) (node : Node) (what : What) → is_node s node ≡ true → holds_at p node what ≡ true → item_fault s p (items.Free node what) ≡ None
free_fits s p node what is held = rw (is, held) refl

free_one : (plan : Plan) (p : Script) (n : ℕ) (node : Node) (what : What) (b : Bool) → holds_at p node what ≡ b → is_node plan.settings node ≡ true
    → All (λ h. is_node plan.settings h.node ≡ true) p.holds
    → (c : Script) × Walk plan p n (freeing b node what) c n × Without plan.settings p c node what
free_one plan p n node what true held is nodes = (
  freed p node what,
  one_step plan p n (steps.Free node what) (free_fits plan.settings p node what is held),
  record {
    log = refl;
    here = none_held p node what;
    other = λ node' what' apart. other_held p node node' what what' apart;
    nodes = All-filter (λ h. not (is_hold node what h)) (λ h. is_node plan.settings h.node ≡ true) p.holds nodes;
  },
)
free_one plan p n node what false held is nodes =
    (p, (refl, refl), record { log = refl; here = held; other = λ node' what' apart. refl; nodes = nodes })

-- ---- all at one node, and then node by node

-- the plain state c is p without what is held at the nodes that are done
record Freed (s : Settings) (p c : Script) (done : Node → Bool) : Type 0 where
  pub log : c.log ≡ p.log
  pub kept : (node : Node) (what : What) → done node ≡ false → holds_at c node what ≡ holds_at p node what
  pub gone : (node : Node) (what : What) → done node ≡ true → holds_at c node what ≡ false
  pub nodes : All (λ h. is_node s h.node ≡ true) c.holds

abbrev or_this : (Node → Bool) → Node → Node → Bool
or_this done node node' = done node' || same_node node node'

-- both things at one node
free_both : (plan : Plan) (p : Script) (n : ℕ) (node : Node) (a b : Bool) → holds_at p node Install ≡ a → holds_at p node Forward ≡ b → is_node plan.settings node ≡ true
    → All (λ h. is_node plan.settings h.node ≡ true) p.holds
    → (c : Script) × Walk plan p n (freeing a node Install ++ freeing b node Forward) c n × (c.log ≡ p.log) × (holds_at c node Install ≡ false) × (holds_at c node Forward ≡ false)
    × ((node' : Node) (what' : What) → same_node node node' ≡ false → holds_at c node' what' ≡ holds_at p node' what') × All (λ h. is_node plan.settings h.node ≡ true) c.holds
free_both plan p n node a b ha hb is nodes =
    let (c, wc, kc) = free_one plan p n node Install a ha is nodes in
    let forward : holds_at c node Forward ≡ b = kc.other node Forward (rw (same_node_refl node) refl) ∙ hb in
    let (d, wd, kd) = free_one plan c n node Forward b forward is kc.nodes in (
      d,
      walk_on plan p n (freeing a node Install) c n (freeing b node Forward) d n wc wd,
      kd.log ∙ kc.log,
      kd.other node Install (rw (same_node_refl node) refl) ∙ kc.here,
      kd.here,
      (λ node' what' apart. kd.other node' what' (rw apart refl) ∙ kc.other node' what' (rw apart refl)),
      kd.nodes,
    )

both_gone : (c : Script) (node : Node) (what : What) → holds_at c node Install ≡ false → holds_at c node Forward ≡ false → holds_at c node what ≡ false
both_gone c node Install i f = i
both_gone c node Forward i f = f

or_false : (a b : Bool) → (a || b) ≡ false → (a ≡ false) × (b ≡ false)
or_false false b h = (refl, h)
or_false true b h = absurd (cc)

done_or_that : (a b : Bool) → (a || b) ≡ true → b ≡ false → a ≡ true
done_or_that true b h e = refl
done_or_that false b h e = absurd (let t : true ≡ false = sym h ∙ e in cc)

free_node : (plan : Plan) (p c : Script) (n : ℕ) (done : Node → Bool) (node : Node) → done node ≡ false → is_node plan.settings node ≡ true → Freed plan.settings p c done
    → (d : Script) × Walk plan c n (frees_at p node) d n × Freed plan.settings p d (or_this done node)
free_node plan p c n done node fresh is f =
    let (d, w, log, install, forward, other, nodes) = free_both plan c n node (holds_at p node Install) (holds_at p node Forward) (f.kept node Install fresh) (f.kept node Forward fresh) is f.nodes in (
      d,
      w,
      record {
        log = log ∙ f.log;
        kept = λ node' what' h. let (old, apart) = or_false (done node') (same_node node node') h in other node' what' apart ∙ f.kept node' what' old;
        gone = λ node' what' h. gone_now d node' what' (same_node node node') refl h install forward other;
        nodes = nodes;
      },
    )
  where
    gone_now : (d : Script) (node' : Node) (what' : What) (b : Bool) → same_node node node' ≡ b → or_this done node node' ≡ true
        → holds_at d node Install ≡ false → holds_at d node Forward ≡ false
        → ((node'' : Node) (what'' : What) → same_node node node'' ≡ false → holds_at d node'' what'' ≡ holds_at c node'' what'')
        → holds_at d node' what' ≡ false
    gone_now d node' what' true e h install forward other =
        subst (λ m. holds_at d m what' ≡ false) (same_node_is node node' e) (both_gone d node what' install forward)
    gone_now d node' what' false e h install forward other =
        other node' what' e ∙ f.gone node' what' (done_or_that (done node') (same_node node node') h e)

-- nodes below a number, one after another
free_below : (plan : Plan) (p c : Script) (n : ℕ) (node : ℕ → Node) (done : ℕ → Node → Bool)
    → ((i : ℕ) → done i (node i) ≡ false) → ((i : ℕ) (node' : Node) → done (suc i) node' ≡ or_this (done i) (node i) node')
    → Freed plan.settings p c (done 0) → (k : ℕ) → ((i : ℕ) → i < k → is_node plan.settings (node i) ≡ true)
    → (d : Script) × Walk plan c n (frees_below node p k) d n × Freed plan.settings p d (done k)
free_below plan p c n node done fresh more f zero are = (c, (refl, refl), f)
free_below plan p c n node done fresh more f (suc k) are =
    let (d, w, g) = free_below plan p c n node done fresh more f k (λ i within. are i (grind (arith, within))) in
    let (e, v, h) = free_node plan p d n (done k) (node k) (fresh k) (are k (grind arith)) g in (
      e,
      walk_on plan c n (frees_below node p k) d n (frees_at p (node k)) e n w v,
      record {
        log = h.log;
        kept = λ node' what' old. h.kept node' what' (sym (more k node') ∙ old);
        gone = λ node' what' new. h.gone node' what' (sym (more k node') ∙ new);
        nodes = h.nodes;
      },
    )

-- ---- all

abbrev hosts_done : ℕ → Node → Bool
hosts_done n (Host h) = nat_lt h n
hosts_done n (Gate g) = false

abbrev gates_done : Settings → ℕ → Node → Bool
gates_done s n (Host h) = nat_lt h s.hosts
gates_done s n (Gate g) = nat_lt g n

fresh_host : (i : ℕ) → hosts_done i (Host i) ≡ false
fresh_host i = grind (arith, nat_tests)

next_host : (i : ℕ) (node : Node) → hosts_done (suc i) node ≡ or_this (hosts_done i) (Host i) node
next_host i (Host h) = grind (arith, nat_tests)
next_host i (Gate g) = refl

or_no : (b : Bool) → b ≡ (b || false)
or_no true = refl
or_no false = refl

fresh_gate : (s : Settings) (i : ℕ) → gates_done s i (Gate i) ≡ false
fresh_gate s i = grind (arith, nat_tests)

next_gate : (s : Settings) (i : ℕ) (node : Node) → gates_done s (suc i) node ≡ or_this (gates_done s i) (Gate i) node
next_gate s i (Host h) = or_no (nat_lt h s.hosts)
next_gate s i (Gate g) = grind (arith, nat_tests)

first_done : (s : Settings) (node : Node) → hosts_done s.hosts node ≡ gates_done s 0 node
first_done s (Host h) = refl
first_done s (Gate g) = grind (arith, nat_tests)

all_done : (s : Settings) (node : Node) → is_node s node ≡ true → gates_done s s.gateways node ≡ true
all_done s (Host h) is = is
all_done s (Gate g) is = is

below_is : (a b : ℕ) → a < b → nat_lt a b ≡ true
below_is a b h = grind (arith, nat_tests, h)

nothing : (s : Settings) (holds : List HeldAt) → All (λ h. is_node s h.node ≡ true) holds
    → ((node : Node) (what : What) → gates_done s s.gateways node ≡ true → list_any (is_hold node what) holds ≡ false) → holds ≡ []
nothing s [] nodes gone = refl
nothing s (h ∷ rest) nodes gone =
    let is : is_node s h.node ≡ true = All-head (λ x. is_node s x.node ≡ true) h rest nodes in
    let no_hold : list_any (is_hold h.node h.what) (h ∷ rest) ≡ false = gone h.node h.what (all_done s h.node is) in
    absurd (let t : true ≡ false = sym (rw (same_node_refl h.node, same_what_refl h.what) refl) ∙ no_hold in cc)

-- each thing that is held is freed, and nothing is held then
pub all_freed : (plan : Plan) (p : Script) (n : ℕ) → All (λ h. is_node plan.settings h.node ≡ true) p.holds
    → (d : Script) × Walk plan p n (frees plan.settings p) d n × (d.log ≡ p.log) × (d.holds ≡ [])
all_freed plan p n nodes =
    let s : Settings = plan.settings in
    let start : Freed plan.settings p p (hosts_done 0) = record { log = refl; kept = λ node what h. refl; gone = λ node what h. none_below_zero node what h; nodes = nodes } in
    let (c, w, f) = free_below plan p p n Host hosts_done fresh_host next_host start plan.settings.hosts (λ i within. below_is i plan.settings.hosts within) in
    let g : Freed plan.settings p c (gates_done plan.settings 0) = record {
      log = f.log;
      kept = λ node what h. f.kept node what (first_done plan.settings node ∙ h);
      gone = λ node what h. f.gone node what (first_done plan.settings node ∙ h);
      nodes = f.nodes;
    } in
    let (d, v, h) = free_below plan p c n Gate (gates_done plan.settings) (fresh_gate plan.settings) (next_gate plan.settings) g plan.settings.gateways (λ i within. below_is i plan.settings.gateways within) in
    (d, walk_on plan p n (frees_below Host p plan.settings.hosts) c n (frees_below Gate p plan.settings.gateways) d n w v, h.log, nothing plan.settings d.holds h.nodes h.gone)
  where
    none_below_zero : (node : Node) (what : What) → hosts_done 0 node ≡ true → holds_at p node what ≡ false
    none_below_zero (Host h) what e = absurd (let f : false ≡ true = sym (grind (arith, nat_tests)) ∙ e in cc)
    none_below_zero (Gate g) what e = absurd (cc)

-- ---- how many there are

freeing_few : (b : Bool) (node : Node) (what : What) → length (freeing b node what) ≤ 1
freeing_few true node what = grind arith
freeing_few false node what = grind arith

frees_few : (p : Script) (node : ℕ → Node) (k : ℕ) → length (frees_below node p k) ≤ 2 * k
frees_few p node zero = grind arith
frees_few p node (suc k) =
    let one = freeing_few (holds_at p (node k) Install) (node k) Install in
    let two = freeing_few (holds_at p (node k) Forward) (node k) Forward in
    let before = frees_few p node k in
    rw (length-append (frees_below node p k) (frees_at p (node k)), length-append (freeing (holds_at p (node k) Install) (node k) Install) (freeing (holds_at p (node k) Forward) (node k) Forward))
    (grind (arith, one, two, before))

-- at most two for each node
pub few_frees : (s : Settings) (p : Script) → length (frees s p) ≤ 2 * s.hosts + 2 * s.gateways
few_frees s p =
    let one = frees_few p Host s.hosts in
    let two = frees_few p Gate s.gateways in
    rw (length-append (frees_below Host p s.hosts) (frees_below Gate p s.gateways)) (grind (arith, one, two))
