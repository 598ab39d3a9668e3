-- Orders of a run that has ended: what its nodes have installed, without the log's entries.
use Rattle.std.proofs.Common.{◌≡◌, ℕ, zero, suc, ◌+◌, ◌*◌, ◌<◌, ◌≤◌, true, false, List, [], ◌∷◌, length, get_or, take, refl, sym, ap, ◌∙◌, subst, arith, Option, Some, None, ⊎_elim}
use Rattle.std.specs.Prelude.{Bool, ◌-◌, slice_get}
use Rattle.std.specs.List.{sum, count_by}
use Rattle.std.proofs.lemmas.Bool.{cases_lt}
use Rattle.std.proofs.lemmas.List.{take_all}
use Rattle.std.proofs.lemmas.List.Sums.{sum_by-cons}
use Rattle.std.proofs.lemmas.Option.{get_or_from_slice_get, slice_get-get_or}
use Rattle.and_policy.specs.declared.entry.Entry.{Entry}
use Rattle.and_policy.specs.declared.entry.Op.{Op}
use Rattle.and_policy.specs.declared.entry.Op.TheVariants as ops
use Rattle.and_policy.specs.Programmes.{entries}
use Rattle.and_events.specs.declared.event.Event.{Event}
use Rattle.and_events.specs.declared.event.Event.TheVariants.{Append, Review, Resume, Finish, Announce, Installed}
use Rattle.and_events.specs.declared.event.Line.{Line}
use Rattle.and_events.specs.declared.event.Node.{Node}
use Rattle.and_events.specs.declared.event.Node.TheVariants.{Host, Gate}
use Rattle.and_events.specs.declared.plan.Settings.{Settings}
use Rattle.and_events.specs.declared.plan.Step.{Step}
use Rattle.and_events.specs.declared.plan.Step.TheVariants as steps
use Rattle.and_events.specs.declared.plan.Plan.{Plan}
use Rattle.and_events.specs.Legal.{Legal, IsOver}
use Rattle.and_events.specs.Places.{node_count, node_place, IsNode, IsSmall}
use Rattle.and_events.specs.Programming.{programmes_after, programme_at, installed_at}
use Rattle.and_events.specs.Run.{Run, past}
use Rattle.and_events.specs.Sound.{IsSound}
use Rattle.and_events.specs.State.{State, state, start, after, word_of, word_of_step}
use Rattle.and_laws.proofs.Following.{follows}
use Rattle.and_laws.proofs.Programmed.{programmed}
use Rattle.and_laws.proofs.Sizes.{nodes}
use Rattle.and_laws.proofs.Steps.{does}
use Rattle.and_report.specs.Installed.{is_end, has_ended, installed_by, NamesNode}
use Rattle.and_report.specs.Tally.{is_order, orders_among}
use Rattle.and_report.proofs.Counting.{count_next}
use Rattle.and_report.proofs.OrderLemmas.{programmes_len}
use Rattle.and_report.proofs.Past.{past_more}

-- ---- the end

last_at : (lines : List Line) (i : ℕ) (d line : Line) → length lines ≡ i + 1 → slice_get lines i ≡ Some line → has_ended (past lines) ≡ is_end line.event
last_at lines i d line long is =
    let within : i < length lines = omega (arith, long) in
    ap has_ended (ap past (sym (take_all (i + 1) lines (omega (arith, long)))) ∙ past_more lines i d within) ∙ ap (λ l. is_end l.event) (get_or_from_slice_get lines i line d is)

pub last_ends : (lines : List Line) (line : Line) → slice_get lines (length lines - 1) ≡ Some line → has_ended (past lines) ≡ is_end line.event
last_ends [] line is = absurd (cc)
last_ends (l ∷ lines) line is = last_at (l ∷ lines) (length (l ∷ lines) - 1) l line (omega arith) is

pub none_ends : (lines : List Line) → slice_get lines (length lines - 1) ≡ None → has_ended (past lines) ≡ false
none_ends [] is = refl
none_ends (l ∷ lines) is = let none = sym (slice_get-get_or (l ∷ lines) (length (l ∷ lines) - 1) l (omega arith)) ∙ is in absurd (cc)

-- ---- what is installed

by_step : (plan : Plan) (s : State) (step : Option Step) → (programmes_after s.programmes (word_of_step plan s step)).installed ≡ s.programmes.installed
unfolding programmes_after
by_step plan s (Some (steps.Append e)) = refl
by_step plan s (Some steps.Review) = refl
by_step plan s (Some (steps.Resume vm)) = refl
by_step plan s _ = refl

after_event : (plan : Plan) (s : State) (e : Event) → (programmes_after s.programmes (word_of plan s e)).installed ≡ installed_by plan.settings s.programmes.installed e
unfolding programmes_after word_of
after_event plan s (Append n) = by_step plan s (slice_get plan.steps n)
after_event plan s (Review n) = by_step plan s (slice_get plan.steps n)
after_event plan s (Resume n) = by_step plan s (slice_get plan.steps n)
after_event plan s (Announce node upto) = refl
after_event plan s (Installed node upto) = refl
after_event plan s _ = refl

pub installed_next : (plan : Plan) (h : List Event) (e : Event) → (state plan (e ∷ h)).programmes.installed ≡ installed_by plan.settings (state plan h).programmes.installed e
unfolding state after
installed_next plan h e = after_event plan (state plan h) e

pub installed_len : (plan : Plan) (h : List Event) → length (state plan h).programmes.installed ≡ node_count plan.settings
installed_len plan h = (nodes plan h).installed

pub names_node : (plan : Plan) (s : State) (e : Event) → Legal plan s e → NamesNode plan.settings e
unfolding Legal
names_node plan s (Installed node upto) l = l.0.0
names_node plan s _ l = tt

pub settings_small : (plan : Plan) → IsSound plan → IsSmall plan.settings
settings_small plan sound =
    record { hosts = sound.settings.hosts.1; gateways = sound.settings.gateways.1; workers = sound.settings.workers.1 }

-- ---- orders and entries

operations : (p : List Op) → length p ≡ count_by is_order p + length (entries p)
operations [] = refl
operations (ops.Entry e ∷ p) = omega (arith, operations p, count_next is_order (ops.Entry e) p)
operations (ops.Offload order ∷ p) = omega (arith, operations p, count_next is_order (ops.Offload order) p)

-- the node at a place
node_here : (s : Settings) (n : ℕ) → n < node_count s → (node : Node) × IsNode s node × (node_place s node ≡ n)
node_here s n within =
    ⊎_elim
    (λ (l : n < s.hosts). (Host n, l, refl))
    (λ (l : s.hosts ≤ n). (Gate (n - s.hosts), omega (arith, l, within), omega (arith, l)))
    (cases_lt n s.hosts)

-- the node at this place has installed its whole programme, which without its orders is as long as the plan's log
abbrev IsWhole : Plan → State → ℕ → Type 0
IsWhole plan s n = installed_at s.programmes n ≡ count_by is_order (programme_at s.programmes n) + length plan.log

whole_at : (plan : Plan) (h : List Event) → IsSound plan → Run plan h → has_ended h ≡ true → (n : ℕ) → n < node_count plan.settings → IsWhole plan (state plan h) n
unfolding Run Legal state after word_of programmes_after
whole_at plan [] sound r ended n within = absurd (cc)
whole_at plan (Finish step ∷ h) sound r ended n within =
    let s = state plan h in
    let over : IsOver plan s = r.1.2 in
    let (node, is, place) = node_here plan.settings n within in
    let log = (follows plan h sound r.0).log ∙ (does plan h step steps.Finish sound r.1.0 r.1.1).fits.log in
    let programme = programme_at s.programmes (node_place plan.settings node) in
    subst (IsWhole plan s) place
    (omega (arith, over.installed node is, operations programme, ap (length {A = Entry}) (programmed plan h r.0 node is).log, ap (length {A = Entry}) log))
whole_at plan (_ ∷ h) sound r ended n within = absurd (cc)

sum_whole : (log : ℕ) (programmes : List (List Op)) (installed : List ℕ) → length installed ≡ length programmes
    → ((n : ℕ) → n < length programmes → get_or installed n 0 ≡ count_by is_order (get_or programmes n []) + log) → sum installed ≡ orders_among programmes + length programmes * log
sum_whole log [] [] as_many each = omega arith
sum_whole log [] (i ∷ installed) as_many each = absurd (cc)
sum_whole log (p ∷ programmes) [] as_many each = absurd (cc)
sum_whole log (p ∷ programmes) (i ∷ installed) as_many each =
    let here : i ≡ count_by is_order p + log = each 0 (omega arith) in
    let rest = sum_whole log programmes installed (omega (arith, as_many)) (λ n less. each (suc n) (omega (arith, less))) in
    omega (arith, here, rest, sum_by-cons (λ x. x) i installed, sum_by-cons (count_by is_order) p programmes)

-- the numbers of what is installed count the orders, and the log once a node
pub ended_orders : (plan : Plan) (h : List Event) → IsSound plan → Run plan h → has_ended h ≡ true
    → sum (state plan h).programmes.installed ≡ orders_among (state plan h).programmes.ops + node_count plan.settings * length plan.log
ended_orders plan h sound r ended =
    let p = (state plan h).programmes in
    let many : length p.ops ≡ node_count plan.settings = programmes_len plan h in
    sum_whole (length plan.log) p.ops p.installed (installed_len plan h ∙ sym many) (λ n less. whole_at plan h sound r ended n (subst (λ k. n < k) many less))
    ∙ ap (λ k. orders_among p.ops + k * length plan.log) many
