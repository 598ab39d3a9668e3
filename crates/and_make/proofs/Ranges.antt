-- The scenario of a drill is in its ranges, and its script and its capture are short.
use Rattle.std.proofs.Common.{◌≡◌, ℕ, zero, suc, ◌+◌, ◌/◌, ◌%◌, ◌<◌, ◌≤◌, Bool, true, false, eqb, List, [], ◌∷◌, ◌++◌, length, refl, sym, ap, ◌∙◌, arith, add-one, length-append}
use Rattle.std.specs.Prelude.{if◌then◌else◌, Some}
use Rattle.std.specs.List.{All}
use Rattle.std.proofs.lemmas.Bool.{eqb-true}
use Rattle.std.proofs.lemmas.List.Elements.{All-append, All-nil, All-cons, All-push}
use Rattle.rand_pcg.specs.Lcg.{Lcg}
use Rattle.and_policy.specs.declared.entry.Entry.TheVariants as entries
use Rattle.and_events.specs.declared.plan.Item.{Item}
use Rattle.and_events.specs.declared.plan.Item.TheVariants as items
use Rattle.and_events.specs.Sound.{AreSettings, IsRule}
use Rattle.and_planner.specs.Scenarios.{IsItem, IsScenario}
use Rattle.and_make.specs.Lists.{below}
use Rattle.and_make.specs.Vms.{name_of}
use Rattle.and_make.specs.Frames.{frames_from, words, generator}
use Rattle.and_make.specs.Script.{settings, network, vm, entering, sealing, dropping, beginning, tcp_rule, tick_after, blackout_after, resume_after, moving, target_of, items_of, script, scenario}
use Rattle.and_make.proofs.Drawing.{left, left_none, left_more, after_three}

-- ---- lists

All_below : {A : Type 0} (P : A → Type 0) (f : ℕ → A) (n : ℕ) → ((k : ℕ) → k < n → P (f k)) → All P (below f n)
unfolding below
All_below P f zero all = All-nil P
All_below P f (suc n) all = All-push P (below f n) (f n) (All_below P f n (λ k lt. all k (omega arith))) (all n (omega arith))

length_below : {A : Type 0} (f : ℕ → A) (n : ℕ) → length (below f n) ≡ n
unfolding below
length_below f zero = refl
length_below f (suc n) = let e = length_below f n in let whole = length-append (below f n) (f n ∷ []) in omega (arith, e, whole)

All_if : {A : Type 0} (P : A → Type 0) (b : Bool) (x : A) → P x → All P (if b then x ∷ [] else [])
All_if P true x is = All-cons P x [] is (All-nil P)
All_if P false x is = All-nil P

length_if : {A : Type 0} (b : Bool) (x : A) (low high : ℕ) → (b ≡ true → low + 1 ≤ high) → low ≤ high → length (if b then x ∷ [] else []) + low ≤ high
length_if true x low high on off = let one = on refl in omega (arith, one)
length_if false x low high on off = omega arith

-- ---- items

networks_are : (k : ℕ) → k < 4 → IsItem 40 (network k)
networks_are k lt = ((omega arith, omega arith), tt)

vms_are : (v : ℕ) → v < 40 → IsItem 40 (vm v)
vms_are v lt = ((lt, (omega arith, omega arith), omega arith), tt)

entering_is : (k : ℕ) → k < 4 → IsItem 40 (entering k)
entering_is k lt =
    let rule : IsRule (tcp_rule 80 89) =
    record {
      number = (omega arith, omega arith);
      source = omega arith;
      destination = omega arith;
      source_ports = omega arith;
      destination_ports = omega arith;
      sealed = λ e. let no : ⊥ = cc in absurd no;
    } in
    (((omega arith, omega arith), rule), tt)

sealing_is : IsItem 40 sealing
sealing_is = (
  (
    (omega arith, omega arith),
    record {
      number = (omega arith, omega arith);
      source = omega arith;
      destination = omega arith;
      source_ports = omega arith;
      destination_ports = omega arith;
      sealed = λ e. (refl, refl);
    },
  ),
  tt,
)

dropping_is : IsItem 40 dropping
dropping_is = (((omega arith, omega arith), (omega arith, omega arith), omega arith, tt), tt)

beginning_is : All (IsItem 40) beginning
unfolding beginning
beginning_is =
    let P : Item → Type 0 = IsItem 40 in
    All-append P (below network 4 ++ below vm 40 ++ below entering 4) (sealing ∷ dropping ∷ items.Wait ∷ [])
    (All-append P (below network 4 ++ below vm 40) (below entering 4)
    (All-append P (below network 4) (below vm 40) (All_below P network 4 networks_are) (All_below P vm 40 vms_are))
    (All_below P entering 4 entering_is))
    (All-cons P sealing (dropping ∷ items.Wait ∷ []) sealing_is (All-cons P dropping (items.Wait ∷ []) dropping_is (All-cons P items.Wait [] tt (All-nil P))))

items_are : (i : ℕ) → All (IsItem 40) (items_of i)
unfolding items_of
items_are i =
    let P : Item → Type 0 = IsItem 40 in
    let here : moving i < 40 = omega arith in
    All-append P (items.Send (Some 1) ∷ tick_after i ++ blackout_after i) (resume_after i)
    (All-append P (items.Send (Some 1) ∷ tick_after i) (blackout_after i)
    (All-cons P (items.Send (Some 1)) (tick_after i) tt (All_if P (eqb ((i + 1) % 64) 0) (items.Entry entries.Tick) (tt, tt)))
    (All_if P (eqb ((i + 1) % 500) 250) (items.Blackout (moving i) (target_of i)) here))
    (All_if P (eqb ((i + 1) % 500) 300) (items.Resume (moving i)) here)

script_is : (n : ℕ) → All (IsItem 40) (script n)
unfolding script
script_is zero = beginning_is
script_is (suc n) = All-append (IsItem 40) (script n) (items_of n) (script_is n) (items_are n)

-- ---- how many

length_beginning : length beginning ≡ 51
unfolding beginning
length_beginning =
    let a = length_below network 4 in
    let b = length_below vm 40 in
    let c = length_below entering 4 in
    let ab = length-append (below network 4) (below vm 40) in
    let abc = length-append (below network 4 ++ below vm 40) (below entering 4) in
    let all = length-append (below network 4 ++ below vm 40 ++ below entering 4) (sealing ∷ dropping ∷ items.Wait ∷ []) in
    omega (arith, a, b, c, ab, abc, all)

ticks : (i : ℕ) → length (tick_after i) + i / 64 ≤ (i + 1) / 64
ticks i = length_if (eqb ((i + 1) % 64) 0) (items.Entry entries.Tick) (i / 64) ((i + 1) / 64) (λ e. let r = eqb-true ((i + 1) % 64) 0 e in omega (arith, r)) (omega arith)

blackouts : (i : ℕ) → length (blackout_after i) + (i + 250) / 500 ≤ (i + 251) / 500
blackouts i =
    length_if (eqb ((i + 1) % 500) 250) (items.Blackout (moving i) (target_of i)) ((i + 250) / 500) ((i + 251) / 500)
    (λ e. let r = eqb-true ((i + 1) % 500) 250 e in omega (arith, r)) (omega arith)

resumes : (i : ℕ) → length (resume_after i) + (i + 200) / 500 ≤ (i + 201) / 500
resumes i =
    length_if (eqb ((i + 1) % 500) 300) (items.Resume (moving i)) ((i + 200) / 500) ((i + 201) / 500)
    (λ e. let r = eqb-true ((i + 1) % 500) 300 e in omega (arith, r)) (omega arith)

length_items : (i : ℕ) → length (items_of i) ≡ 1 + length (tick_after i) + length (blackout_after i) + length (resume_after i)
unfolding items_of
length_items i =
    let two = length-append (items.Send (Some 1) ∷ tick_after i) (blackout_after i) in
    let three = length-append (items.Send (Some 1) ∷ tick_after i ++ blackout_after i) (resume_after i) in
    counted (length (tick_after i)) (length (blackout_after i)) (length (resume_after i)) _ _ two three
  where
    counted : (a b c ab abc : ℕ) → ab ≡ suc a + b → abc ≡ ab + c → abc ≡ 1 + a + b + c
    counted a b c ab abc two three = omega arith

-- so many items are in the script of n packets, or fewer
few : ℕ → ℕ
few n = 51 + n + n / 64 + (n + 250) / 500 + (n + 200) / 500

script_is_short : (n : ℕ) → length (script n) ≤ few n
unfolding script few
script_is_short zero = let e = length_beginning in omega (arith, e)
script_is_short (suc n) =
    let whole = length-append (script n) (items_of n) in
    more n (length (script n)) (length (items_of n)) _ (length (tick_after n)) (length (blackout_after n)) (length (resume_after n)) (script_is_short n) whole (length_items n)
    (ticks n) (blackouts n) (resumes n)
  where
    more : (n before here all t b r : ℕ) → before ≤ 51 + n + n / 64 + (n + 250) / 500 + (n + 200) / 500 → all ≡ before + here → here ≡ 1 + t + b + r
        → t + n / 64 ≤ (n + 1) / 64 → b + (n + 250) / 500 ≤ (n + 251) / 500 → r + (n + 200) / 500 ≤ (n + 201) / 500
        → all ≤ 51 + suc n + suc n / 64 + (suc n + 250) / 500 + (suc n + 200) / 500
    more n before here all t b r x1 x2 x3 x4 x5 x6 = omega arith

script_fits : (n : ℕ) → n ≤ 50000 → length (script n) ≤ 65536
unfolding few
script_fits n le = let e = script_is_short n in omega (arith, e)

-- ---- the whole

settings_are : AreSettings settings
settings_are =
    record {
      hosts = (omega arith, omega arith);
      gateways = (omega arith, omega arith);
      workers = (omega arith, omega arith);
      hop_limit = (omega arith, omega arith);
      out_queue = (omega arith, omega arith);
      wire_queue = (omega arith, omega arith);
      seal_queue = (omega arith, omega arith);
      threshold = (omega arith, omega arith);
      life = (omega arith, omega arith);
    }

scenario_is : (n : ℕ) → n ≤ 50000 → IsScenario (scenario n)
scenario_is n le =
    let forty = length_below name_of 40 in
    record {
      settings = settings_are;
      names = omega (arith, forty);
      few = script_fits n le;
      items = rw forty (script_is n);
    }

-- what is equal to it is so too
pub made_is : (n : ℕ) (names : List (List ℕ)) (items : List Item) → n ≤ 50000 → names ≡ below name_of 40 → items ≡ script n
    → IsScenario (record { settings = settings; names = names; items = items })
made_is n names items le a b = rw (a, b) (scenario_is n le)

length_left : (i n : ℕ) (g : Lcg) → length (left i n g) ≡ n
length_left i zero g = ap length (left_none i g)
length_left i (suc n) g =
    let e = length_left (i + 1) n (after_three g) in
    ap (λ (k : ℕ). length (left i k g)) (sym (add-one n)) ∙ ap length (left_more i n g) ∙ ap suc e

pub length_frames : (n : ℕ) → length (frames_from 0 (words n)) ≡ n
unfolding left
length_frames n = length_left 0 n (generator n)
