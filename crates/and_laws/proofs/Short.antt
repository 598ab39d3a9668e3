-- No programme has more operations than steps were done: each order of a review was paid for by a packet's Egress.
use Rattle.std.proofs.Common.{◌≡◌, ℕ, zero, suc, ◌+◌, ◌<◌, ◌≤◌, true, false, cond, List, [], ◌∷◌, ◌++◌, length, map, get_or, set, replicate, refl, ap, ◌∙◌, arith, Option, Some, None, length-append, ⊎_elim}
use Rattle.std.specs.Prelude.{nat_le}
use Rattle.std.specs.List.{filter, filter_map, cons_option, sum_by}
use Rattle.std.proofs.lemmas.List.{get_or-set_same, get_or-set_other, get_or_past, get_or-replicate, length-replicate, set_past}
use Rattle.std.proofs.lemmas.List.Sums.{length-filter, count_by-le-length, sum_by-take-le}
use Rattle.std.proofs.lemmas.List.Folds.{sum_by-replicate}
use Rattle.std.proofs.lemmas.Bool.{cases_eq, cases_lt}
use Rattle.std.proofs.lemmas.Grind.{common_steps}
use Rattle.and_policy.specs.declared.entry.Entry.{Entry}
use Rattle.and_policy.specs.declared.entry.Op.{Op}
use Rattle.and_policy.specs.declared.entry.Op.TheVariants as ops
use Rattle.and_policy.specs.declared.port.UsageKey.{UsageKey}
use Rattle.and_events.specs.declared.event.Actor.{Actor}
use Rattle.and_events.specs.declared.event.End.{End}
use Rattle.and_events.specs.declared.event.End.TheVariants.{Queued, Full, Hops}
use Rattle.and_events.specs.declared.event.Departure.{Departure}
use Rattle.and_events.specs.declared.event.Departure.TheVariants.{NoVm, Spoofed, Denied, Allowed}
use Rattle.and_events.specs.declared.event.Endpoint.{Endpoint}
use Rattle.and_events.specs.declared.event.Endpoint.TheVariants as endpoints
use Rattle.and_events.specs.declared.event.Passage.TheVariants as passages
use Rattle.and_events.specs.declared.event.Return.TheVariants as returns
use Rattle.and_events.specs.declared.event.Arrival.TheVariants as arrivals
use Rattle.and_events.specs.declared.event.Event.{Event}
use Rattle.and_events.specs.declared.event.Event.TheVariants.{Append, Review, Hold, Free, Wait, Inject, Blackout, Resume, Finish, Announce, Installed, Take, Egress, Sealed, Route, Redirect, Ingress, Unpin}
use Rattle.and_events.specs.declared.plan.Settings.{Settings}
use Rattle.and_events.specs.declared.plan.Plan.{Plan}
use Rattle.and_events.specs.Places.{capacity_at, hand_place, node_of, node_count, queue_count, hand_count}
use Rattle.and_events.specs.Flow.{Move, hand_at}
use Rattle.and_events.specs.declared.event.Given.{Given}
use Rattle.and_events.specs.Programming.{Programmes, Word, Quiet, Logs, Orders, Announces, Installs, programmes_after, programme_at, with_orders}
use Rattle.and_events.specs.Usage.{Used, UsageMove, Unused, Uses, Cleared, usage_after, with_use, same_key, key_before, order_for, orders_of}
use Rattle.and_events.specs.State.{State, state, start, after, move_of, word_of, step_of, usage_move_of, usage_by, next_after, departs, send, source_net, carried_at, dest_endpoint, dest_net}
use Rattle.and_events.specs.Legal.{Legal}
use Rattle.and_events.specs.Run.{Run}
use Rattle.and_laws.proofs.Sizes.{sizes}
use Rattle.and_laws.proofs.LegalMoves.{legal_moves}
use Rattle.and_laws.proofs.Leaving.{leaving_count, from_out, out_queued, enters, let_go, leaving_after, orderly, decides_out}

abbrev pub programme_in : List (List Op) → ℕ → List Op
programme_in programmes n = get_or programmes n []

-- ---- what a word does to a programme

-- how many operations it gives at most
abbrev pub gives : Word → ℕ
gives (Logs e) = 1
gives (Orders os) = length os
gives _ = 0

logged : (e : Entry) (programmes : List (List Op)) (n : ℕ) → length (programme_in (map (λ p. p ++ ops.Entry e ∷ []) programmes) n) ≤ length (programme_in programmes n) + 1
logged e [] n = omega arith
logged e (p ∷ ps) zero = omega (arith, length-append p (ops.Entry e ∷ []))
logged e (p ∷ ps) (suc n) = logged e ps n

ordered_one : (programmes : List (List Op)) (host n : ℕ) (op : Op) → length (programme_in (set programmes host (programme_in programmes host ++ op ∷ [])) n) ≤ length (programme_in programmes n) + 1
ordered_one programmes host n op =
    let old = programme_in programmes host in
    let new = old ++ op ∷ [] in
    let none : List Op = [] in
    ⊎_elim
    (λ (e : n ≡ host).
    ⊎_elim
    (λ (l : host < length programmes).
    let at : length (programme_in (set programmes host new) n) ≡ length new =
    ap (λ k. length (programme_in (set programmes host new) k)) e ∙ ap length (get_or-set_same programmes host new none l) in
    let was : length (programme_in programmes n) ≡ length old = ap (λ k. length (programme_in programmes k)) e in
    omega (arith, at, was, length-append old (op ∷ [])))
    (λ (l : length programmes ≤ host). omega (arith, ap (λ ps. length (programme_in ps n)) (set_past programmes host new l)))
    (cases_lt host (length programmes)))
    (λ (other : n ≡ host → ⊥). omega (arith, ap length (get_or-set_other programmes host n new none other))) (cases_eq n host)

ordered : (os : List Given) (programmes : List (List Op)) (n : ℕ) → length (programme_in (with_orders programmes os) n) ≤ length (programme_in programmes n) + length os
ordered [] programmes n = omega arith
ordered (g ∷ gs) programmes n =
    omega (arith, ordered gs (set programmes g.host (programme_in programmes g.host ++ ops.Offload g.order ∷ [])) n, ordered_one programmes g.host n (ops.Offload g.order))

programme_after : (p : Programmes) (w : Word) (n : ℕ) → length (programme_at (programmes_after p w) n) ≤ length (programme_at p n) + gives w
unfolding programmes_after
programme_after p Quiet n = omega arith
programme_after p (Logs e) n = logged e p.ops n
programme_after p (Orders os) n = ordered os p.ops n
programme_after p (Announces node upto) n = omega arith
programme_after p (Installs node upto) n = omega arith

-- ---- the usage

abbrev used_after : ℕ → UsageMove → ℕ
used_after n Unused = n
used_after n (Uses key bytes) = n + 1
used_after n Cleared = 0

one_use : (key : UsageKey) (bytes : ℕ) (usage : List Used) → length (with_use key bytes usage) ≤ length usage + 1
one_use key bytes [] = omega arith
one_use key bytes (u ∷ us) =
    let rest = one_use key bytes us in
    elim (same_key key u.key) as (λ b. length (cond b (record { key = key; bytes = u.bytes + bytes } ∷ us) (cond (key_before key u.key) (record { key = key; bytes = bytes } ∷ u ∷ us) (u ∷ with_use key bytes us))) ≤ suc (length us) + 1) [
      | true ↦ omega arith
      | false ↦ elim (key_before key u.key) as (λ b. length (cond b (record { key = key; bytes = bytes } ∷ u ∷ us) (u ∷ with_use key bytes us)) ≤ suc (length us) + 1) [ true ↦ omega arith | false ↦ omega (arith, rest) ]
    ]

usage_length : (usage : List Used) (m : UsageMove) → length (usage_after usage m) ≤ used_after (length usage) m
unfolding usage_after
usage_length usage Unused = omega arith
usage_length usage (Uses key bytes) = one_use key bytes usage
usage_length usage Cleared = omega arith

cons_length : {Y : Type 0} (o : Option Y) (ys : List Y) (n : ℕ) → length ys ≤ n → length (cons_option o ys) ≤ suc n
cons_length None ys n l = omega arith
cons_length (Some y) ys n l = omega arith

mapped_length : {X Y : Type 0} (f : X → Option Y) (xs : List X) → length (filter_map f xs) ≤ length xs
mapped_length f [] = omega arith
mapped_length f (x ∷ xs) = cons_length (f x) (filter_map f xs) (length xs) (mapped_length f xs)

pub orders_few : (s : Settings) (log : List Entry) (usage : List Used) → length (orders_of s log usage) ≤ length usage
orders_few s log usage =
    let over = λ (u : Used). nat_le s.threshold u.bytes in
    omega (arith, mapped_length (order_for s log) (filter over usage), length-filter over usage, count_by-le-length over usage)

-- ---- events

no_enter : (s : Settings) (a i : ℕ) (end : End) (target : Endpoint) (net : ℕ) → enters (send s a i end target net) ≡ 0
no_enter s a i Queued target net = refl
no_enter s a i Full target net = refl
no_enter s a i Hops target net = refl

-- an Egress lets its packet go, and uses at most one key
abbrev GrowsBy : Plan → State → Move → UsageMove → Type 0
GrowsBy plan s m u = used_after (length s.usage) u + enters m ≤ length s.usage + let_go s.flow m

send_lets_go : (plan : Plan) (s : State) (a : Actor) (i n : ℕ) (end : End) (target : Endpoint) (net : ℕ) → from_out (hand_at s.flow.hands (hand_place plan.settings a)) ≡ 1 → n + 1 + enters (send plan.settings (hand_place plan.settings a) i end target net) ≤ n + let_go s.flow (send plan.settings (hand_place plan.settings a) i end target net)
send_lets_go plan s a i n Queued target net from = omega (arith, from)
send_lets_go plan s a i n Full target net from = omega (arith, from)
send_lets_go plan s a i n Hops target net from = omega (arith, from)

grows_depart : (plan : Plan) (s : State) (a : Actor) (i : ℕ) (d : Departure) → from_out (hand_at s.flow.hands (hand_place plan.settings a)) ≡ 1 → GrowsBy plan s (departs plan.settings (source_net plan i) (hand_place plan.settings a) i (node_of a) d) (usage_by plan (node_of a) i d)
grows_depart plan s a i NoVm from = omega arith
grows_depart plan s a i Spoofed from = omega arith
grows_depart plan s a i (Denied n) from = omega arith
grows_depart plan s a i (Allowed by true dest Queued) from = omega (arith, from)
grows_depart plan s a i (Allowed by true dest Full) from = omega (arith, from)
grows_depart plan s a i (Allowed by true dest Hops) from = omega (arith, from)
grows_depart plan s a i (Allowed by false dest end) from =
    send_lets_go plan s a i (length s.usage) end (dest_endpoint dest) (dest_net (source_net plan i) dest) from

grows : (plan : Plan) (s : State) (e : Event) → Legal plan s e → gives (word_of plan s e) + used_after (length s.usage) (usage_move_of plan e) + enters (move_of plan s e) + s.next ≤ length s.usage + let_go s.flow (move_of plan s e) + next_after s.next (step_of e)
unfolding Legal word_of usage_move_of move_of step_of
grows plan s (Append n) (entry, (is, told, can)) = rw told (omega arith)
grows plan s (Review n) (is, told, can) = rw told (omega (arith, orders_few plan.settings s.programmes.log s.usage))
grows plan s (Hold n) l = omega arith
grows plan s (Free n) l = omega arith
grows plan s (Wait n) l = omega arith
grows plan s (Inject n i true) l = omega arith
grows plan s (Inject n i false) l = omega arith
grows plan s (Blackout n) l = omega arith
grows plan s (Resume n) (vm, (is, told, can)) = rw told (omega arith)
grows plan s (Finish n) l = omega arith
grows plan s (Announce node upto) l = omega arith
grows plan s (Installed node upto) l = omega arith
grows plan s (Take a q i) l = omega arith
grows plan s (Egress a i at way d) l = omega (arith, grows_depart plan s a i d (decides_out plan s a i at l.0))
grows plan s (Sealed a i end) l = omega (arith, no_enter plan.settings (hand_place plan.settings a) i end (carried_at s i).target (carried_at s i).net)
grows plan s (Route a i at (passages.Send by net host end)) l = omega (arith, no_enter plan.settings (hand_place plan.settings a) i end (endpoints.Host host) net)
grows plan s (Route a i at (passages.Dropped by)) l = omega arith
grows plan s (Route a i at (passages.NoOwner by)) l = omega arith
grows plan s (Route a i at (passages.Hops by)) l = omega arith
grows plan s (Redirect a i at returns.NoOwner) l = omega arith
grows plan s (Redirect a i at (returns.Send host end)) l = omega (arith, no_enter plan.settings (hand_place plan.settings a) i end (endpoints.Host host) (carried_at s i).net)
grows plan s (Redirect a i at returns.Hops) l = omega arith
grows plan s (Ingress a i at way arrivals.NoOwner) l = omega arith
grows plan s (Ingress a i at way (arrivals.Running vm by pass)) l = omega arith
grows plan s (Ingress a i at way (arrivals.Blackout vm)) l = omega arith
grows plan s (Ingress a i at way (arrivals.Hairpin vm host end)) l = omega (arith, no_enter plan.settings (hand_place plan.settings a) i end (endpoints.Host host) (carried_at s i).net)
grows plan s (Ingress a i at way (arrivals.Absent vm gateway end)) l = omega (arith, no_enter plan.settings (hand_place plan.settings a) i end (endpoints.Redirect gateway) (carried_at s i).net)
grows plan s (Unpin host vm) l = omega arith

-- ---- runs

nothing_programmed : (n k : ℕ) → length (programme_in (replicate n []) k) ≡ 0
nothing_programmed n k =
    let none : List Op = [] in
    let past = get_or_past (replicate n none) k none in
    grind (arith, common_steps, get_or-replicate n k none none, past, length-replicate n none)

pub nothing_leaves : (hosts queues hands : ℕ) → out_queued hosts (replicate queues []) + sum_by from_out (replicate hands None) ≡ 0
nothing_leaves hosts queues hands =
    let none : List ℕ = [] in
    omega (
      arith,
      sum_by-take-le (length {A = ℕ}) (replicate queues none) hosts,
      sum_by-replicate (length {A = ℕ}) queues none,
      sum_by-replicate from_out hands None,
    )

-- the operations of a programme, the keys that were used since the last review and the packets not yet decided of
pub programmed : (plan : Plan) (h : List Event) → Run plan h → (n : ℕ) → length (programme_at (state plan h).programmes n) + length (state plan h).usage + leaving_count plan.settings.hosts (state plan h).flow ≤ (state plan h).next
unfolding Run state start after
programmed plan [] r n =
    omega (
      arith,
      nothing_programmed (node_count plan.settings) n,
      nothing_leaves plan.settings.hosts (queue_count plan.settings) (hand_count plan.settings),
    )
programmed plan (e ∷ h) r n =
    let s = state plan h in
    let m = move_of plan s e in
    omega (
      arith,
      programmed plan h r.0 n,
      grows plan s e r.1,
      programme_after s.programmes (word_of plan s e) n,
      usage_length s.usage (usage_move_of plan e),
      leaving_after plan.settings.hosts (capacity_at plan.settings) s.flow m (orderly plan s e r.1) (legal_moves plan s e (sizes plan h) r.1),
    )
