-- Every programme without its orders is the log, and what is installed was announced.
use Rattle.std.proofs.Common.{◌≡◌, ℕ, ◌<◌, ◌≤◌, List, [], ◌∷◌, ◌++◌, length, get_or, set, refl, sym, ap, ◌∙◌, subst, arith, Option, Some, None, length-append, append-nil}
use Rattle.std.proofs.lemmas.List.{get_or-map, get_or-replicate}
use Rattle.std.specs.Prelude.{slice_get}
use Rattle.and_policy.specs.declared.entry.Entry.{Entry}
use Rattle.and_policy.specs.declared.entry.Op.{Op}
use Rattle.and_policy.specs.declared.entry.Op.TheVariants as ops
use Rattle.and_policy.specs.declared.entry.Order.{Order}
use Rattle.and_policy.specs.Programmes.{entries}
use Rattle.and_events.specs.declared.event.Node.{Node}
use Rattle.and_events.specs.declared.event.Node.TheVariants.{Host, Gate}
use Rattle.and_events.specs.declared.event.Event.{Event}
use Rattle.and_events.specs.declared.event.Event.TheVariants.{Append, Review, Resume, Announce, Installed}
use Rattle.and_events.specs.declared.plan.Step.{Step}
use Rattle.and_events.specs.declared.plan.Step.TheVariants as steps
use Rattle.and_events.specs.declared.plan.Settings.{Settings}
use Rattle.and_events.specs.declared.plan.Plan.{Plan}
use Rattle.and_events.specs.Places.{node_count, node_place, IsNode}
use Rattle.and_events.specs.declared.event.Given.{Given}
use Rattle.and_events.specs.Programming.{Programmes, Word, Quiet, Logs, Orders, Announces, Installs, programmes_after, with_orders, programme_at, announced_at, installed_at}
use Rattle.and_events.specs.State.{State, state, start, after, word_of, word_of_step}
use Rattle.and_events.specs.Legal.{Legal}
use Rattle.and_events.specs.Run.{Run}
use Rattle.and_laws.specs.Programmed.{AreProgrammed}
use Rattle.and_laws.proofs.Rows.{set_at}
use Rattle.and_laws.proofs.Sizes.{nodes}

-- ---- programmes that grow

pub entries-append : (xs ys : List Op) → entries (xs ++ ys) ≡ entries xs ++ entries ys
entries-append [] ys = refl
entries-append (ops.Entry e ∷ xs) ys = ap (λ k. e ∷ k) (entries-append xs ys)
entries-append (ops.Offload o ∷ xs) ys = entries-append xs ys

-- a programme has the log, and is no shorter than it was
pub record Grows (k : List Entry) (before after : List Op) : Type 0 where
  pub log : entries before ≡ k → entries after ≡ k
  pub longer : length before ≤ length after

grows_by_order : (log : List Entry) (xs : List Op) (o : Order) → Grows log xs (xs ++ ops.Offload o ∷ [])
grows_by_order log xs o =
    record { log = λ e. entries-append xs (ops.Offload o ∷ []) ∙ append-nil (entries xs) ∙ e; longer = omega (arith, length-append xs (ops.Offload o ∷ [])) }

grows_at : (log : List Entry) (programmes : List (List Op)) (host n : ℕ) (o : Order) → Grows log (get_or programmes n []) (get_or (set programmes host (get_or programmes host [] ++ ops.Offload o ∷ [])) n [])
grows_at log programmes host n o =
    let empty : List Op = [] in
    let same : Grows log (get_or programmes n []) (get_or programmes n []) = record { log = λ e. e; longer = omega arith } in
    set_at programmes host n (get_or programmes host [] ++ ops.Offload o ∷ []) empty (Grows log (get_or programmes n [])) same
    (λ is. subst (λ m. Grows log (get_or programmes m []) (get_or programmes host [] ++ ops.Offload o ∷ [])) is (grows_by_order log (get_or programmes host []) o))

pub grows_by_orders : (log : List Entry) (os : List Given) (programmes : List (List Op)) (n : ℕ) → Grows log (get_or programmes n []) (get_or (with_orders programmes os) n [])
grows_by_orders log [] programmes n = record { log = λ e. e; longer = omega arith }
grows_by_orders log (g ∷ os) programmes n =
    let now = grows_at log programmes g.host n g.order in
    let later = grows_by_orders log os (set programmes g.host (get_or programmes g.host [] ++ ops.Offload g.order ∷ [])) n in
    record { log = λ e. later.log (now.log e); longer = omega (arith, now.longer, later.longer) }

-- ---- words

-- the node at this place is programmed
record At (p : Programmes) (n : ℕ) : Type 0 where
  pub log : entries (programme_at p n) ≡ p.log
  pub installed : installed_at p n ≤ announced_at p n
  pub announced : announced_at p n ≤ length (programme_at p n)

-- a node announces all of its programme, and installs what it announced
abbrev CanSay : Programmes → Word → Type 0
CanSay p (Announces n upto) = (announced_at p n ≡ installed_at p n) × (upto ≡ length (programme_at p n))
CanSay p (Installs n upto) = upto ≡ announced_at p n
CanSay p _ = Unit {0}

programmed_after : (p : Programmes) (w : Word) (n : ℕ) → CanSay p w → n < length p.ops → At p n → At (programmes_after p w) n
unfolding programmes_after
programmed_after p Quiet n can within a = a
programmed_after p (Logs e) n can within a =
    let is = get_or-map (λ xs. xs ++ ops.Entry e ∷ []) p.ops n [] [] within in
    let more = length-append (programme_at p n) (ops.Entry e ∷ []) in
    record {
      log = ap entries is ∙ entries-append (programme_at p n) (ops.Entry e ∷ []) ∙ ap (λ k. k ++ e ∷ []) a.log;
      installed = a.installed;
      announced = omega (arith, a.announced, ap (length {A = Op}) is, more);
    }
programmed_after p (Orders os) n can within a =
    let g = grows_by_orders p.log os p.ops n in
    record { log = g.log a.log; installed = a.installed; announced = omega (arith, a.announced, g.longer) }
programmed_after p (Announces k upto) n can within a =
    record {
      log = a.log;
      installed = set_at p.announced k n upto 0 (λ x. installed_at p n ≤ x) a.installed (λ is. omega (arith, a.installed, a.announced, can.1, ap (λ m. length (programme_at p m)) is));
      announced = set_at p.announced k n upto 0 (λ x. x ≤ length (programme_at p n)) a.announced (λ is. omega (arith, can.1, ap (λ m. length (programme_at p m)) is));
    }
programmed_after p (Installs k upto) n can within a =
    record { log = a.log; installed = set_at p.installed k n upto 0 (λ x. x ≤ announced_at p n) a.installed (λ is. omega (arith, can, ap (λ m. announced_at p m) is)); announced = a.announced }

-- ---- events

can_say_step : (plan : Plan) (s : State) (o : Option Step) → CanSay s.programmes (word_of_step plan s o)
can_say_step plan s (Some (steps.Append e)) = tt
can_say_step plan s (Some steps.Review) = tt
can_say_step plan s (Some (steps.Resume vm)) = tt
can_say_step plan s (Some step) = tt
can_say_step plan s None = tt

legal_words : (plan : Plan) (s : State) (e : Event) → Legal plan s e → CanSay s.programmes (word_of plan s e)
unfolding Legal word_of
legal_words plan s (Append n) l = can_say_step plan s (slice_get plan.steps n)
legal_words plan s (Review n) l = can_say_step plan s (slice_get plan.steps n)
legal_words plan s (Resume n) l = can_say_step plan s (slice_get plan.steps n)
legal_words plan s (Announce node upto) l = (l.0.2, l.1)
legal_words plan s (Installed node upto) l = l.1
legal_words plan s e l = tt

programmed_at : (plan : Plan) (h : List Event) → Run plan h → (n : ℕ) → n < node_count plan.settings → At (state plan h).programmes n
unfolding Run state start after
programmed_at plan [] r n within =
    let empty : List Op = [] in
    let programme = get_or-replicate (node_count plan.settings) n empty empty within in
    let number = get_or-replicate {A = ℕ} (node_count plan.settings) n 0 0 within in
    record { log = ap entries programme; installed = omega (arith, number); announced = omega (arith, number) }
programmed_at plan (e ∷ h) r n within =
    programmed_after (state plan h).programmes (word_of plan (state plan h) e) n (legal_words plan (state plan h) e r.1)
    (subst (λ k. n < k) (sym (nodes plan h).ops) within) (programmed_at plan h r.0 n within)

place_is_there : (s : Settings) (node : Node) → IsNode s node → node_place s node < node_count s
place_is_there s (Host h) is = omega arith
place_is_there s (Gate g) is = omega arith

pub programmed : (plan : Plan) (h : List Event) → Run plan h → AreProgrammed plan h
programmed plan h r node is =
    let a = programmed_at plan h r (node_place plan.settings node) (place_is_there plan.settings node is) in
    record { log = a.log; installed = a.installed; announced = a.announced }
