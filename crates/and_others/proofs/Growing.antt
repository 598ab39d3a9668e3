-- What an event leaves of a node's programme and numbers, and what the two install events do.
use Rattle.std.proofs.Common.{◌≡◌, ℕ, zero, suc, ◌<◌, ◌≤◌, List, [], ◌∷◌, ◌++◌, length, take, map, Option, Some, None, refl, sym, ap, ◌∙◌, arith, append_assoc, append-nil}
use Rattle.std.specs.Prelude.{slice_get, slice_set, slice_index_or}
use Rattle.std.proofs.lemmas.List.{get_or-set_same, get_or-set_other, take-append-le}
use Rattle.and_policy.specs.declared.entry.Op.{Op}
use Rattle.and_policy.specs.declared.entry.Op.TheVariants as ops
use Rattle.and_events.specs.declared.event.Event.{Event}
use Rattle.and_events.specs.declared.event.Event.TheVariants.{Append, Review, Resume, Announce, Installed}
use Rattle.and_events.specs.declared.event.Node.{Node}
use Rattle.and_events.specs.declared.event.Node.TheVariants.{Host, Gate}
use Rattle.and_events.specs.declared.plan.Plan.{Plan}
use Rattle.and_events.specs.declared.plan.Settings.{Settings}
use Rattle.and_events.specs.declared.plan.Step.{Step}
use Rattle.and_events.specs.declared.plan.Step.TheVariants as steps
use Rattle.and_events.specs.Legal.{Legal}
use Rattle.and_events.specs.Places.{node_count, node_place, IsNode}
use Rattle.and_events.specs.declared.event.Given.{Given}
use Rattle.and_events.specs.Programming.{Programmes, Word, Quiet, Logs, Orders, Announces, Installs, programmes_after, with_orders, programme_at, announced_at, installed_at}
use Rattle.and_events.specs.Run.{Run}
use Rattle.and_events.specs.Sound.{IsSound}
use Rattle.and_events.specs.State.{State, state, after, word_of, word_of_step, programme_of, announced_of, installed_of}
use Rattle.and_laws.proofs.Programmed.{programmed}
use Rattle.and_laws.proofs.Sizes.{nodes}

-- ---- places of nodes

same_place : (s : Settings) (n m : Node) → IsNode s n → IsNode s m → node_place s n ≡ node_place s m → n ≡ m
same_place s (Host h) (Host h') is is' e = ap Host e
same_place s (Gate g) (Gate g') is is' e = let same : g ≡ g' = omega (arith, e) in ap Gate same
same_place s (Host h) (Gate g) is is' e = absurd (omega (arith, is, e))
same_place s (Gate g) (Host h) is is' e = absurd (omega (arith, is', e))

place_within : (s : Settings) (n : Node) → IsNode s n → node_place s n < node_count s
place_within s (Host h) is = omega arith
place_within s (Gate g) is = omega arith

-- ---- programmes grow at their ends

-- the second list begins with the first
abbrev Begins : List Op → List Op → Type 0
Begins p q = (more : List Op) × (q ≡ p ++ more)

same : (p : List Op) → Begins p p
same p = ([], sym (append-nil p))

then : (p q r : List Op) → Begins p q → Begins q r → Begins p r
then p q r a b = (a.0 ++ b.0, b.1 ∙ ap (λ x. x ++ b.0) a.1 ∙ append_assoc p a.0 b.0)

each_more : (rows : List (List Op)) (n : ℕ) (op : Op) → Begins (slice_index_or rows n []) (slice_index_or (map (λ p. p ++ op ∷ []) rows) n [])
each_more [] n op = same []
each_more (p ∷ rows) zero op = (op ∷ [], refl)
each_more (p ∷ rows) (suc n) op = each_more rows n op

one_more : (rows : List (List Op)) (host n : ℕ) (op : Op) → Begins (slice_index_or rows n []) (slice_index_or (slice_set rows host (slice_index_or rows host [] ++ op ∷ [])) n [])
one_more [] host n op = same []
one_more (p ∷ rows) zero zero op = (op ∷ [], refl)
one_more (p ∷ rows) zero (suc n) op = same (slice_index_or rows n [])
one_more (p ∷ rows) (suc host) zero op = same p
one_more (p ∷ rows) (suc host) (suc n) op = one_more rows host n op

with_each : (os : List Given) (rows : List (List Op)) (n : ℕ) → Begins (slice_index_or rows n []) (slice_index_or (with_orders rows os) n [])
with_each [] rows n = same (slice_index_or rows n [])
with_each (g ∷ os) rows n =
    let next : List (List Op) = slice_set rows g.host (slice_index_or rows g.host [] ++ ops.Offload g.order ∷ []) in
    then (slice_index_or rows n []) (slice_index_or next n []) (slice_index_or (with_orders next os) n []) (one_more rows g.host n (ops.Offload g.order)) (with_each os next n)

grown : (p : Programmes) (w : Word) (n : ℕ) → Begins (programme_at p n) (programme_at (programmes_after p w) n)
unfolding programmes_after
grown p Quiet n = same (programme_at p n)
grown p (Logs e) n = each_more p.ops n (ops.Entry e)
grown p (Orders os) n = with_each os p.ops n
grown p (Announces k upto) n = same (programme_at p n)
grown p (Installs k upto) n = same (programme_at p n)

pub programme_grows : (plan : Plan) (h : List Event) (e : Event) (node : Node) → IsSound plan → Run plan (e ∷ h) → IsNode plan.settings node
    → (more : List Op) × (programme_of plan (state plan (e ∷ h)) node ≡ programme_of plan (state plan h) node ++ more)
unfolding state after
programme_grows plan h e node sound r is = grown (state plan h).programmes (word_of plan (state plan h) e) (node_place plan.settings node)

-- what was taken of it is still its beginning
pub taken_lasts : (plan : Plan) (h : List Event) (e : Event) (node : Node) → IsSound plan → Run plan (e ∷ h) → IsNode plan.settings node → (n : ℕ) → n ≤ length (programme_of plan (state plan h) node)
    → take n (programme_of plan (state plan (e ∷ h)) node) ≡ take n (programme_of plan (state plan h) node)
taken_lasts plan h e node sound r is n within =
    let grows = programme_grows plan h e node sound r is in
    ap (take n) grows.1 ∙ take-append-le n (programme_of plan (state plan h) node) grows.0 within

-- ---- numbers

-- no more is installed than is announced, and no more is announced than there is
pub numbers_below : (plan : Plan) (h : List Event) (node : Node) → IsSound plan → Run plan h → IsNode plan.settings node
    → (installed_of plan (state plan h) node ≤ announced_of plan (state plan h) node) × (announced_of plan (state plan h) node ≤ length (programme_of plan (state plan h) node))
numbers_below plan h node sound r is = let p = programmed plan h r node is in (p.installed, p.announced)

-- the word announces nothing at this place; it installs nothing there
abbrev AnnouncesElsewhere : ℕ → Word → Type 0
AnnouncesElsewhere n (Announces k upto) = k ≡ n → ⊥
AnnouncesElsewhere n _ = Unit {0}

abbrev InstallsElsewhere : ℕ → Word → Type 0
InstallsElsewhere n (Installs k upto) = k ≡ n → ⊥
InstallsElsewhere n _ = Unit {0}

announced_kept : (p : Programmes) (w : Word) (n : ℕ) → AnnouncesElsewhere n w → announced_at (programmes_after p w) n ≡ announced_at p n
unfolding programmes_after
announced_kept p Quiet n other = refl
announced_kept p (Logs e) n other = refl
announced_kept p (Orders os) n other = refl
announced_kept p (Announces k upto) n other = get_or-set_other p.announced k n upto 0 (λ e. other (sym e))
announced_kept p (Installs k upto) n other = refl

installed_kept : (p : Programmes) (w : Word) (n : ℕ) → InstallsElsewhere n w → installed_at (programmes_after p w) n ≡ installed_at p n
unfolding programmes_after
installed_kept p Quiet n other = refl
installed_kept p (Logs e) n other = refl
installed_kept p (Orders os) n other = refl
installed_kept p (Announces k upto) n other = refl
installed_kept p (Installs k upto) n other = get_or-set_other p.installed k n upto 0 (λ e. other (sym e))

-- a step says neither
step_elsewhere : (plan : Plan) (s : State) (n : ℕ) (o : Option Step) → AnnouncesElsewhere n (word_of_step plan s o) × InstallsElsewhere n (word_of_step plan s o)
step_elsewhere plan s n (Some (steps.Append e)) = (tt, tt)
step_elsewhere plan s n (Some steps.Review) = (tt, tt)
step_elsewhere plan s n (Some (steps.Resume vm)) = (tt, tt)
step_elsewhere plan s n (Some step) = (tt, tt)
step_elsewhere plan s n None = (tt, tt)

announces_elsewhere : (plan : Plan) (s : State) (e : Event) (node : Node) → Legal plan s e → IsNode plan.settings node → ((upto : ℕ) → e ≡ Announce node upto → ⊥) → AnnouncesElsewhere (node_place plan.settings node) (word_of plan s e)
unfolding Legal word_of
announces_elsewhere plan s (Append n) node l is other = (step_elsewhere plan s (node_place plan.settings node) (slice_get plan.steps n)).0
announces_elsewhere plan s (Review n) node l is other = (step_elsewhere plan s (node_place plan.settings node) (slice_get plan.steps n)).0
announces_elsewhere plan s (Resume n) node l is other = (step_elsewhere plan s (node_place plan.settings node) (slice_get plan.steps n)).0
announces_elsewhere plan s (Announce m upto) node l is other = λ e. other upto (ap (λ k. Announce k upto) (same_place plan.settings m node l.0.0 is e))
announces_elsewhere plan s (Installed m upto) node l is other = tt
announces_elsewhere plan s e node l is other = tt

installs_elsewhere : (plan : Plan) (s : State) (e : Event) (node : Node) → Legal plan s e → IsNode plan.settings node → ((upto : ℕ) → e ≡ Installed node upto → ⊥) → InstallsElsewhere (node_place plan.settings node) (word_of plan s e)
unfolding Legal word_of
installs_elsewhere plan s (Append n) node l is other = (step_elsewhere plan s (node_place plan.settings node) (slice_get plan.steps n)).1
installs_elsewhere plan s (Review n) node l is other = (step_elsewhere plan s (node_place plan.settings node) (slice_get plan.steps n)).1
installs_elsewhere plan s (Resume n) node l is other = (step_elsewhere plan s (node_place plan.settings node) (slice_get plan.steps n)).1
installs_elsewhere plan s (Announce m upto) node l is other = tt
installs_elsewhere plan s (Installed m upto) node l is other = λ e. other upto (ap (λ k. Installed k upto) (same_place plan.settings m node l.0.0 is e))
installs_elsewhere plan s e node l is other = tt

pub announced_lasts : (plan : Plan) (h : List Event) (e : Event) (node : Node) → IsSound plan → Run plan (e ∷ h) → IsNode plan.settings node → ((upto : ℕ) → e ≡ Announce node upto → ⊥)
    → announced_of plan (state plan (e ∷ h)) node ≡ announced_of plan (state plan h) node
unfolding Run state after
announced_lasts plan h e node sound r is other =
    announced_kept (state plan h).programmes (word_of plan (state plan h) e) (node_place plan.settings node) (announces_elsewhere plan (state plan h) e node r.1 is other)

pub installed_lasts : (plan : Plan) (h : List Event) (e : Event) (node : Node) → IsSound plan → Run plan (e ∷ h) → IsNode plan.settings node → ((upto : ℕ) → e ≡ Installed node upto → ⊥)
    → installed_of plan (state plan (e ∷ h)) node ≡ installed_of plan (state plan h) node
unfolding Run state after
installed_lasts plan h e node sound r is other =
    installed_kept (state plan h).programmes (word_of plan (state plan h) e) (node_place plan.settings node) (installs_elsewhere plan (state plan h) e node r.1 is other)

-- ---- the two install events

pub announced_by : (plan : Plan) (h : List Event) (node : Node) (upto : ℕ) → IsSound plan → Run plan (Announce node upto ∷ h) → announced_of plan (state plan (Announce node upto ∷ h)) node ≡ upto
unfolding Run Legal state after word_of programmes_after
announced_by plan h node upto sound r =
    let there = place_within plan.settings node r.1.0.0 in
    get_or-set_same (state plan h).programmes.announced (node_place plan.settings node) upto 0 (omega (arith, there, (nodes plan h).announced))

pub installed_by : (plan : Plan) (h : List Event) (node : Node) (upto : ℕ) → IsSound plan → Run plan (Installed node upto ∷ h) → installed_of plan (state plan (Installed node upto ∷ h)) node ≡ upto
unfolding Run Legal state after word_of programmes_after
installed_by plan h node upto sound r =
    let there = place_within plan.settings node r.1.0.0 in
    get_or-set_same (state plan h).programmes.installed (node_place plan.settings node) upto 0 (omega (arith, there, (nodes plan h).installed))

-- an announcement leaves what is installed of every node, and an install what is announced
pub announce_leaves_installed : (plan : Plan) (h : List Event) (node : Node) (upto : ℕ) (other : Node) → installed_of plan (state plan (Announce node upto ∷ h)) other ≡ installed_of plan (state plan h) other
unfolding state after word_of programmes_after
announce_leaves_installed plan h node upto other = refl

pub installed_leaves_announced : (plan : Plan) (h : List Event) (node : Node) (upto : ℕ) (other : Node) → announced_of plan (state plan (Installed node upto ∷ h)) other ≡ announced_of plan (state plan h) other
unfolding state after word_of programmes_after
installed_leaves_announced plan h node upto other = refl
