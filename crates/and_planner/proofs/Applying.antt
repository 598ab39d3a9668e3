-- What the checks of an item that fits say of the state.
use Rattle.std.proofs.Common.{◌≡◌, ℕ, ◌<◌, Bool, true, false, ◌==◌, ◌||◌, List, [], ◌∷◌, ◌++◌, Option, Some, None, cond, nat_lt, map, refl, sym, ◌∙◌, arith, ◌+◌, add-one}
use Rattle.std.specs.Prelude.{not, option_map, unwrap_or}
use Rattle.std.specs.List.{All, list_any, find, filter}
use Rattle.std.proofs.lemmas.Bool.Decides.{nat_tests}
use Rattle.std.proofs.lemmas.List.{append_assoc}
use Rattle.std.proofs.lemmas.List.Elements.{All-append, All-from_recursion, All-filter, All-head, All-tail}
use Rattle.and_policy.specs.declared.entry.Entry.{Entry}
use Rattle.and_policy.specs.declared.entry.Entry.TheVariants.{Place}
use Rattle.and_policy.specs.declared.entry.EntryFault.{EntryFault}
use Rattle.and_policy.specs.declared.entry.EntryFault.TheVariants as entry_faults
use Rattle.and_policy.specs.Fitting.{fits}
use Rattle.and_policy.specs.Logs.{is_live}
use Rattle.and_events.specs.declared.event.Node.{Node}
use Rattle.and_events.specs.declared.plan.Step.{Step}
use Rattle.and_events.specs.declared.plan.Item.TheVariants as items
use Rattle.and_events.specs.declared.plan.ItemFault.{ItemFault}
use Rattle.and_events.specs.declared.plan.ItemFault.TheVariants as faults
use Rattle.and_events.specs.declared.plan.Settings.{Settings}
use Rattle.and_events.specs.Planned.{frees_at, frees_below}
use Rattle.and_events.specs.Script.{Script, Moving, item_fault, entry_first, is_moving, target_of}
use Rattle.and_planner.specs.declared.moves.Move.{Move}
use Rattle.and_planner.specs.Standing.{moving_of}
use Rattle.and_planner.proofs.Mapped.{find-map}

-- an entry whose item fits, fits the log
first_none : (x : Option EntryFault) (y : Option ItemFault) → entry_first x y ≡ None → x ≡ None
first_none None y fit = refl
first_none (Some fault) y fit = absurd (cc)

pub entry_fits : (s : Settings) (p : Script) (e : Entry) → item_fault s p (items.Entry e) ≡ None → fits (Some s.hosts) p.log e ≡ None
entry_fits s p e fit = first_none (fits (Some s.hosts) p.log e) _ fit

-- ---- blackouts

is_below : (a b : ℕ) → nat_lt a b ≡ true → a < b
is_below a b h = grind (arith, nat_tests, h)

below_is : (a b : ℕ) → a < b → nat_lt a b ≡ true
below_is a b h = grind (arith, nat_tests, h)

-- its target is a host
pause_host : (s : Settings) (p : Script) (vm host : ℕ) (a b : Bool) → is_live p.log vm ≡ a → nat_lt host s.hosts ≡ b → item_fault s p (items.Blackout vm host) ≡ None → b ≡ true
pause_host s p vm host true true live at fit = refl
pause_host s p vm host true false live at fit =
    let fails : item_fault s p (items.Blackout vm host) ≡ Some (faults.Entry entry_faults.NoHost) = rw (live, at) refl in
    absurd (let bad : Some (faults.Entry entry_faults.NoHost) ≡ None = sym fails ∙ fit in cc)
pause_host s p vm host false b live at fit =
    let fails : item_fault s p (items.Blackout vm host) ≡ Some (faults.Entry entry_faults.NoVm) = rw live refl in
    absurd (let bad : Some (faults.Entry entry_faults.NoVm) ≡ None = sym fails ∙ fit in cc)

pub pauses_within : (s : Settings) (p : Script) (vm host : ℕ) → item_fault s p (items.Blackout vm host) ≡ None
    → All (λ m. m.to < s.hosts) p.moving → All (λ m. m.to < s.hosts) (p.moving ++ record { vm = vm; to = host } ∷ [])
pauses_within s p vm host fit within =
    All-append (λ m. m.to < s.hosts) p.moving (record { vm = vm; to = host } ∷ []) within
    (All-from_recursion (λ m. m.to < s.hosts) (record { vm = vm; to = host } ∷ [])
    (is_below host s.hosts (pause_host s p vm host (is_live p.log vm) (nat_lt host s.hosts) refl refl fit), tt))

pub ends_within : (hosts vm : ℕ) (moving : List Moving) → All (λ m. m.to < hosts) moving → All (λ m. m.to < hosts) (filter (λ m. not (m.vm == vm)) moving)
ends_within hosts vm moving within = All-filter (λ m. not (m.vm == vm)) (λ m. m.to < hosts) moving within

-- a VM that may run again is live, and on its way
resume_live : (s : Settings) (p : Script) (vm : ℕ) (a b : Bool) → is_live p.log vm ≡ a → is_moving p vm ≡ b → item_fault s p (items.Resume vm) ≡ None → (a ≡ true) × (b ≡ true)
resume_live s p vm true true live moving fit = (refl, refl)
resume_live s p vm true false live moving fit =
    let fails : item_fault s p (items.Resume vm) ≡ Some faults.NotPaused = rw (live, moving) refl in
    absurd (let bad : Some faults.NotPaused ≡ None = sym fails ∙ fit in cc)
resume_live s p vm false b live moving fit =
    let fails : item_fault s p (items.Resume vm) ≡ Some (faults.Entry entry_faults.NoVm) = rw live refl in
    absurd (let bad : Some (faults.Entry entry_faults.NoVm) ≡ None = sym fails ∙ fit in cc)

-- where it is going
pub target_is : (p : Script) (vm : ℕ) (o : Option Moving) → find (λ m. m.vm == vm) p.moving ≡ o → target_of p vm ≡ option_map (λ m. m.to) o
target_is p vm None at = rw at refl
target_is p vm (Some m) at = rw at refl

pub target_some : (vm : ℕ) (moves : List Move) (found : Move) → find (λ m. m.vm == vm) moves ≡ Some found
    → found.to ≡ unwrap_or (option_map (λ m. m.to) (find (λ m. m.vm == vm) (map moving_of moves))) 0
target_some vm moves found at = rw (find-map moving_of (λ m. m.vm == vm) moves, at) refl

pub target_none : (vm : ℕ) (moves : List Move) → find (λ m. m.vm == vm) moves ≡ None → 0 ≡ unwrap_or (option_map (λ m. m.to) (find (λ m. m.vm == vm) (map moving_of moves))) 0
target_none vm moves at = rw (find-map moving_of (λ m. m.vm == vm) moves, at) refl

target_within : (hosts : ℕ) (moving : List Moving) (vm : ℕ) → All (λ m. m.to < hosts) moving → list_any (λ m. m.vm == vm) moving ≡ true
    → unwrap_or (option_map (λ m. m.to) (find (λ m. m.vm == vm) moving)) 0 < hosts
target_within hosts [] vm within some = absurd (cc)
target_within hosts (m ∷ ms) vm within some =
    at_first (m.vm == vm) some (All-head (λ m. m.to < hosts) m ms within) (λ later. target_within hosts ms vm (All-tail (λ m. m.to < hosts) m ms within) later)
  where
    at_first : (b : Bool) → (b || list_any (λ m. m.vm == vm) ms) ≡ true → m.to < hosts
        → (list_any (λ m. m.vm == vm) ms ≡ true → unwrap_or (option_map (λ m. m.to) (find (λ m. m.vm == vm) ms)) 0 < hosts)
        → unwrap_or (option_map (λ m. m.to) (cond b (Some m) (find (λ m. m.vm == vm) ms))) 0 < hosts
    at_first true some here later = here
    at_first false some here later = later some

-- the entry that brings it there fits the log
place_fits : (hosts vm host : ℕ) (p : Script) → is_live p.log vm ≡ true → nat_lt host hosts ≡ true → fits (Some hosts) p.log (Place vm host) ≡ None
place_fits hosts vm host p live within = rw (live, within) refl

pub resume_fits : (s : Settings) (p : Script) (vm host : ℕ) → item_fault s p (items.Resume vm) ≡ None → All (λ m. m.to < s.hosts) p.moving
    → host ≡ unwrap_or (option_map (λ m. m.to) (find (λ m. m.vm == vm) p.moving)) 0 → fits (Some s.hosts) p.log (Place vm host) ≡ None
resume_fits s p vm host fit within at =
    let (live, moving) = resume_live s p vm (is_live p.log vm) (is_moving p vm) refl refl fit in
    place_fits s.hosts vm host p live (below_is host s.hosts (rw at (target_within s.hosts p.moving vm within moving)))

-- ---- what is freed at the end

-- at one node more
pub frees-step : (node : ℕ → Node) (p : Script) (n : ℕ) (before now after : List Step) → now ≡ before ++ frees_below node p n → after ≡ now ++ frees_at p (node n)
    → after ≡ before ++ frees_below node p (n + 1)
frees-step node p n before now after so_far step = rw (add-one, step, so_far) (append_assoc before (frees_below node p n) (frees_at p (node n)))
