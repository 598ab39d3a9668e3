-- The enabled actors, in the order of their numbers.
use Rattle.std.proofs.Common.{◌≡◌, ℕ, zero, suc, ◌+◌, ◌-◌, ◌<◌, ◌≤◌, ◌⊎◌, inl, inr, ⊎_elim, Bool, true, false, List, [], ◌∷◌, length, refl, sym, ap, ◌∙◌, subst, arith, Option, Some, None}
use Rattle.std.specs.Prelude.{slice_get, ◌↔◌, IsTrue, IfSome, IfNone}
use Rattle.std.specs.List.{All, Contains}
use Rattle.std.proofs.lemmas.Bool.{cases_lt}
use Rattle.std.proofs.lemmas.List.Elements.{All-nil, All-cons, All-head, All-weaker, All-contains}
use Rattle.std.proofs.lemmas.Option.{slice_get_within, slice_get_past, get_or_from_slice_get}
use Rattle.and_events.specs.declared.event.Actor.{Actor}
use Rattle.and_events.specs.declared.event.Actor.TheVariants.{HostInstall, GateInstall, Controller, Driver}
use Rattle.and_events.specs.declared.event.Event.{Event}
use Rattle.and_events.specs.declared.plan.Plan.{Plan}
use Rattle.and_events.specs.declared.plan.Settings.{Settings}
use Rattle.and_events.specs.Legal.{Enabled}
use Rattle.and_events.specs.Ordered.{IsFirst}
use Rattle.and_events.specs.Places.{node_count, hand_count, actor_number, actor_count, IsActor}
use Rattle.and_events.specs.Run.{Run}
use Rattle.and_events.specs.Sound.{IsSound}
use Rattle.and_events.specs.State.{State, state}
use Rattle.and_laws.proofs.Actors.{hand_number, same_actor}
use Rattle.and_laws.proofs.Enabling.{hand_of}
use Rattle.and_kept.specs.Numbers.{count_below, one_if}
use Rattle.and_kept.proofs.NumbersLemmas.{count_suc, count_grows}
use Rattle.and_pins.specs.declared.pin.Pin.{Pin}
use Rattle.and_pins.specs.Pinned.{ArePins}
use Rattle.and_book.specs.Views.{AreEnabled, Ascend, NoneEnabled}
use Rattle.and_book.proofs.Due.{acts_now, enabled_at, not_enabled_at}
use Rattle.and_book.proofs.Numbered.{number_below}

-- ---- actors by number

pub record WithNumber (v : Settings) (n : ℕ) : Type 0 where
  pub actor : Actor
  pub is : IsActor v actor
  pub number : actor_number v actor ≡ n

with_number : (v : Settings) (n : ℕ) → n < actor_count v → WithNumber v n
with_number v n l =
    ⊎_elim (λ (m : n < v.hosts). record { actor = HostInstall n; is = m; number = refl })
    (λ (m : v.hosts ≤ n).
    ⊎_elim (λ (k : n < node_count v). record { actor = GateInstall (n - v.hosts); is = omega (arith, m, k); number = omega (arith, m) })
    (λ (k : node_count v ≤ n).
    ⊎_elim (λ (in_hand : n - node_count v < hand_count v).
    let h = hand_of v (n - node_count v) in_hand in
    record { actor = h.actor; is = h.is; number = hand_number v h.actor h.takes ∙ omega (arith, h.place, k) })
    (λ (past : hand_count v ≤ n - node_count v).
    ⊎_elim (λ (o : n < node_count v + hand_count v + 1). record { actor = Controller; is = tt; number = omega (arith, o, past, k) })
    (λ (o : node_count v + hand_count v + 1 ≤ n). record { actor = Driver; is = tt; number = omega (arith, o, l) })
    (cases_lt n (node_count v + hand_count v + 1)))
    (cases_lt (n - node_count v) (hand_count v)))
    (cases_lt n (node_count v)))
    (cases_lt n v.hosts)

-- ---- what a list of the enabled actors says

in_list : {X : Type 0} (xs : List X) (k : ℕ) (x : X) → slice_get xs k ≡ Some x → Contains xs x
in_list xs k x e = (k, slice_get_within xs k x e, get_or_from_slice_get xs k x x e)

in_rest : {X : Type 0} (y : X) (ys : List X) (x : X) → Contains (y ∷ ys) x → (y ≡ x) ⊎ Contains ys x
in_rest y ys x (zero, l, e) = inl e
in_rest y ys x (suc k, l, e) = inr (k, omega (arith, l), e)

module _ (plan : Plan) (s : State) where
  head_is : (b : Actor) (rest : List Actor) (a : Actor) → Some a ≡ slice_get (b ∷ rest) 0 → b ≡ a
  head_is b rest a e = cc

  pub some_listed : (actors : List Actor) (a : Actor) → AreEnabled plan s actors → Some a ≡ slice_get actors 0 → IsActor plan.settings a × Enabled plan s a × IsFirst plan s a
  unfolding Ascend
  some_listed [] a are e = absurd (cc)
  some_listed (b ∷ rest) a are e =
      let known = All-head (λ c. IsActor plan.settings c × Enabled plan s c) b rest are.each in
      subst (λ x. IsActor plan.settings x × Enabled plan s x × IsFirst plan s x) (head_is b rest a e) (
        known.0,
        known.1,
        λ c is enabled. ⊎_elim (λ (same : b ≡ c). omega (arith, ap (actor_number plan.settings) same))
            (λ (later : Contains rest c). omega (arith, All-contains (λ d. actor_number plan.settings b < actor_number plan.settings d) rest c are.ascend.0 later))
            (in_rest b rest c (are.every c is enabled)),
      )

  pub none_listed : (actors : List Actor) → AreEnabled plan s actors → None ≡ slice_get actors 0 → NoneEnabled plan s
  none_listed [] are e a is enabled = let nowhere = are.every a is enabled in absurd (omega (arith, nowhere.1))
  none_listed (b ∷ rest) are e a is enabled = absurd (cc)

  pub first_if : (o : Option Actor) → ((actors : List Actor) × AreEnabled plan s actors × (o ≡ slice_get actors 0)) → IfSome o (λ a. IsFirst plan s a)
  first_if (Some a) (actors, are, e) = (some_listed actors a are e).2
  first_if None it = tt

  pub none_if : (o : Option Actor) → ((actors : List Actor) × AreEnabled plan s actors × (o ≡ slice_get actors 0)) → IfNone o (NoneEnabled plan s)
  none_if (Some a) it = tt
  none_if None (actors, are, e) = none_listed actors are e

-- ---- there is one

in_longer : {X : Type 0} (y : X) (ys : List X) (x : X) → Contains ys x → Contains (y ∷ ys) x
in_longer y ys x (k, l, e) = (suc k, omega (arith, l), e)

module _ (v : Settings) where
  abbrev Less : Actor → Actor → Type 0
  Less a b = actor_number v a < actor_number v b

  same_head : (x : Actor) (xs : List Actor) (y : Actor) (ys : List Actor) → All (Less x) xs → All (Less y) ys → (y ≡ x) ⊎ Contains ys x → (x ≡ y) ⊎ Contains xs y → x ≡ y
  same_head x xs y ys low low' (inl e) there = sym e
  same_head x xs y ys low low' (inr in_ys) (inl e) = e
  same_head x xs y ys low low' (inr in_ys) (inr in_xs) = absurd (omega (arith, All-contains (Less y) ys x low' in_ys, All-contains (Less x) xs y low in_xs))

  in_later : (x y : Actor) (ys : List Actor) (a : Actor) → x ≡ y → Less x a → (y ≡ a) ⊎ Contains ys a → Contains ys a
  in_later x y ys a same less (inl e) = absurd (omega (arith, less, ap (actor_number v) (same ∙ e)))
  in_later x y ys a same less (inr there) = there

  same_members : (xs ys : List Actor) → Ascend v xs → Ascend v ys → ((a : Actor) → Contains xs a → Contains ys a) → ((a : Actor) → Contains ys a → Contains xs a) → xs ≡ ys
  unfolding Ascend
  same_members [] [] up up' to from = refl
  same_members [] (y ∷ ys) up up' to from = let nowhere = from y (0, omega arith, refl) in absurd (omega (arith, nowhere.1))
  same_members (x ∷ xs) [] up up' to from = let nowhere = to x (0, omega arith, refl) in absurd (omega (arith, nowhere.1))
  same_members (x ∷ xs) (y ∷ ys) up up' to from =
      let same = same_head x xs y ys up.0 up'.0 (in_rest y ys x (to x (0, omega arith, refl))) (in_rest x xs y (from y (0, omega arith, refl))) in
      let rest = same_members xs ys up.1 up'.1
      (λ a there. in_later x y ys a same (All-contains (Less x) xs a up.0 there) (in_rest y ys a (to a (in_longer x xs a there))))
      (λ a there. in_later y x xs a (sym same) (All-contains (Less y) ys a up'.0 there) (in_rest x xs a (from a (in_longer y ys a there)))) in
      cc

pub only_list : (plan : Plan) (s : State) (xs ys : List Actor) → AreEnabled plan s xs → AreEnabled plan s ys → xs ≡ ys
only_list plan s xs ys are are' =
    same_members plan.settings xs ys are.ascend are'.ascend
    (λ a there. let one = All-contains (λ b. IsActor plan.settings b × Enabled plan s b) xs a are.each there in are'.every a one.0 one.1)
    (λ a there. let one = All-contains (λ b. IsActor plan.settings b × Enabled plan s b) ys a are'.each there in are.every a one.0 one.1)

-- ---- the list

module _ (plan : Plan) (h : List Event) (sound : IsSound plan) (r : Run plan h) (pins : List Pin) (are : ArePins pins (state plan h).ports) (controller driver : Bool) (unpins : IsTrue controller ↔ Enabled plan (state plan h) Controller) (drives : IsTrue driver ↔ Enabled plan (state plan h) Driver) where
  abbrev number : Actor → ℕ
  number a = actor_number plan.settings a

  abbrev acts : ℕ → Bool
  acts = acts_now plan h sound r controller driver

  -- how many act below a number
  abbrev many : ℕ → ℕ
  many n = count_below acts n

  abbrev IsOne : Actor → Type 0
  IsOne a = IsActor plan.settings a × Enabled plan (state plan h) a

  -- the enabled actors from a number on, each at the place that the count gives
  record Lists (m : ℕ) : Type 0 where
    actors : List Actor
    each : All IsOne actors
    later : All (λ a. m ≤ number a) actors
    places : (a : Actor) → IsActor plan.settings a → Enabled plan (state plan h) a → m ≤ number a → slice_get actors (many (number a) - many m) ≡ Some a
    ascend : Ascend plan.settings actors
    long : length actors + many m ≡ many (actor_count plan.settings)

  no_more : (m : ℕ) → m ≡ actor_count plan.settings → Lists m
  unfolding Ascend
  no_more m end = record {
    actors = [];
    each = All-nil IsOne;
    later = All-nil (λ a. m ≤ number a);
    places = λ a is enabled le. absurd (omega (arith, number_below plan.settings a is, le, end));
    ascend = tt;
    long = omega (arith, ap many end);
  }

  one_more : (m : ℕ) (w : WithNumber plan.settings m) → acts m ≡ true → Lists (m + 1) → Lists m
  unfolding Ascend
  one_more m w here more =
      let one : many (m + 1) ≡ many m + 1 = omega (arith, count_suc acts m, ap one_if here) in
      let first : IsOne w.actor = (w.is, enabled_at plan h sound r pins are controller driver unpins drives w.actor w.is (ap acts w.number ∙ here)) in
      record {
        actors = w.actor ∷ more.actors;
        each = All-cons IsOne w.actor more.actors first more.each;
        later = All-cons (λ a. m ≤ number a) w.actor more.actors (omega (arith, w.number))
            (All-weaker (λ a. m + 1 ≤ number a) (λ a. m ≤ number a) (λ a le. omega (arith, le)) more.actors more.later);
        places = λ a is enabled le. ⊎_elim
            (λ (here : number a < m + 1).
            let same : w.actor ≡ a = same_actor plan.settings w.actor a w.is is (omega (arith, w.number, here, le)) in
            let at : number a ≡ m = omega (arith, here, le) in
            let start : many (number a) - many m ≡ 0 = omega (arith, ap many at) in
            let some : Actor → Option Actor = Some in rw start (ap some same))
            (λ (later : m + 1 ≤ number a).
            let next : many (number a) - many m ≡ suc (many (number a) - many (m + 1)) = omega (arith, one, count_grows acts (m + 1) (number a) later) in
            rw next (more.places a is enabled later))
            (cases_lt (number a) (m + 1));
        ascend = (All-weaker (λ a. m + 1 ≤ number a) (λ a. number w.actor < number a) (λ a le. omega (arith, le, w.number)) more.actors more.later, more.ascend);
        long = omega (arith, one, more.long);
      }

  one_less : (m : ℕ) → acts m ≡ false → Lists (m + 1) → Lists m
  one_less m here more =
      let none : many (m + 1) ≡ many m = omega (arith, count_suc acts m, ap one_if here) in
      record {
        actors = more.actors;
        each = more.each;
        later = All-weaker (λ a. m + 1 ≤ number a) (λ a. m ≤ number a) (λ a le. omega (arith, le)) more.actors more.later;
        places = λ a is enabled le. ⊎_elim
            (λ (at : number a < m + 1).
            let same : number a ≡ m = omega (arith, at, le) in
            absurd (not_enabled_at plan h sound r pins are controller driver unpins drives a is (ap acts same ∙ here) enabled))
            (λ (later : m + 1 ≤ number a).
            let index : many (number a) - many m ≡ many (number a) - many (m + 1) = omega (arith, none) in
            rw index (more.places a is enabled later))
            (cases_lt (number a) (m + 1));
        ascend = more.ascend;
        long = omega (arith, none, more.long);
      }

  one_before : (m : ℕ) → m < actor_count plan.settings → Lists (m + 1) → Lists m
  one_before m l more =
      elim (acts m) as (λ b. (acts m ≡ b → Lists m)) [
        | true ↦ λ e. one_more m (with_number plan.settings m l) e more
        | false ↦ λ e. one_less m e more
      ] refl

  from : (d m : ℕ) → m + d ≡ actor_count plan.settings → Lists m
  from zero m e = no_more m (omega (arith, e))
  from (suc d) m e = one_before m (omega (arith, e)) (from d (m + 1) (omega (arith, e)))

  whole : Lists 0
  whole = from (actor_count plan.settings) 0 (omega arith)

  none_below : many 0 ≡ 0
  unfolding count_below
  none_below = refl

  place_of : (a : Actor) → IsActor plan.settings a → Enabled plan (state plan h) a → slice_get whole.actors (many (number a)) ≡ Some a
  place_of a is enabled =
      let at : many (number a) - many 0 ≡ many (number a) = omega (arith, none_below) in
      subst (λ k. slice_get whole.actors k ≡ Some a) at (whole.places a is enabled (omega arith))

  are_enabled : AreEnabled plan (state plan h) whole.actors
  are_enabled = record {
    each = whole.each;
    every = λ a is enabled. in_list whole.actors (many (number a)) a (place_of a is enabled);
    ascend = whole.ascend;
  }

  pub count_listed : (n : ℕ) → n ≡ many (actor_count plan.settings) → (actors : List Actor) × AreEnabled plan (state plan h) actors × (n ≡ length actors)
  count_listed n e = (whole.actors, are_enabled, omega (arith, e, whole.long, none_below))

  pub place_listed : (k : ℕ) (a : Actor) → IsActor plan.settings a → acts (number a) ≡ true → many (number a) ≡ k
      → (actors : List Actor) × AreEnabled plan (state plan h) actors × (Some a ≡ slice_get actors k)
  place_listed k a is act e = (
    whole.actors,
    are_enabled,
    sym (subst (λ n. slice_get whole.actors n ≡ Some a) e (place_of a is (enabled_at plan h sound r pins are controller driver unpins drives a is act))),
  )

  pub past_listed : (k : ℕ) → many (actor_count plan.settings) ≤ k → (actors : List Actor) × AreEnabled plan (state plan h) actors × (None ≡ slice_get actors k)
  past_listed k le = (whole.actors, are_enabled, sym (slice_get_past whole.actors k (omega (arith, le, whole.long, none_below))))
