-- Each step keeps the rule, and tells what it is said to tell.
use Rattle.std.proofs.Common.{◌≡◌, ◌≢◌, ◌⊎◌, inl, inr, ⊎_elim, ℕ, ◌+◌, ◌-◌, ◌%◌, ◌^◌, ◌<◌, true, false, List, [], ◌∷◌, ◌++◌, length, get_or, set, sym, refl, ap, ◌∙◌, subst, arith, length-append, append-nil, Option, Some, None}
use Rattle.std.specs.Prelude.{All}
use Rattle.std.proofs.lemmas.Bool.{false≢true}
use Rattle.std.proofs.lemmas.List.{map-set, map-append, length-map}
use Rattle.std.proofs.lemmas.List.Elements.{All-nil}
use mathlib.Core.Logic.{dite}
use mathlib.Core.Option.{none, some}
use mathlib.Core.Option as maybe
use native.Mathlib.Decide.{ℕ_discrete}
use lib.ListN.{get_elem?}
use Rattle.atomic_table.specs.Table.{State, step, keeps, takes, gives, put_back, rest, Allows, Splits, Joins}
use Rattle.atomic_table.proofs.Lists.{at_set, at_longer, at_map, set_here, set_else, set_again, one_turn}
use Rattle.and_turn.specs.declared.view.Known.{Known}
use Rattle.and_turn.specs.declared.view.Stage.{Stage}
use Rattle.and_turn.specs.declared.view.Stage.TheVariants.{Out, Waits, Has}
use Rattle.and_turn.specs.declared.view.View.{View}
use Rattle.and_turn.specs.Tales.{IsPrefix, own}
use Rattle.and_turn.specs.Turns.{IsAt, HasNone, stages, facts, Sits, Sat, IsHome, IsAway, Turned, Shows, Draws, Looks, Passes, Learns, Adds, Recalls, split_left, split_right, joined_view, spent_view}
use Rattle.and_turn.proofs.Joining.{join_known}
use Rattle.and_turn.proofs.Knowing.{Knowing, seen_more, added}
use Rattle.and_turn.proofs.Places.{in_range, same_place, at_split, at_join}
use Rattle.and_turn.proofs.Queue.{Queue, never_has, kind, waits_at, tickets-le, tickets-set, moved, gone, one_more, none_set, none_gone, none_more}
use Rattle.and_turn.proofs.Splitting.{split_known}

module _ {S L : Type 0} where
  pub stage_at : (vs : List (View S L)) (i : ℕ) (v : View S L) (g : Stage) → get_elem? vs i ≡ some v → v.stage ≡ g → get_elem? (stages vs) i ≡ some g
  stage_at vs i v g at is = at_map (λ (v : View S L). v.stage) vs i v at ∙ ap some is

  pub known_at : (vs : List (View S L)) (i : ℕ) (v : View S L) → get_elem? vs i ≡ some v → v.known.live ≡ true → Sits (facts vs) i v.known
  known_at vs i v at live = (at_map (λ (v : View S L). v.known) vs i v at, live)

  stages-set : (vs : List (View S L)) (i : ℕ) (w : View S L) → stages (set vs i w) ≡ set (stages vs) i w.stage
  stages-set vs i w = map-set (λ (v : View S L). v.stage) vs i w

  facts-set : (vs : List (View S L)) (i : ℕ) (w : View S L) → facts (set vs i w) ≡ set (facts vs) i w.known
  facts-set vs i w = map-set (λ (v : View S L). v.known) vs i w

  -- a step that leaves a seat's stage, or what it knows, leaves all stages, or all that is known
  stages_same : (vs : List (View S L)) (i : ℕ) (v w : View S L) → get_elem? vs i ≡ some v → w.stage ≡ v.stage → stages (set vs i w) ≡ stages vs
  stages_same vs i v w at same = stages-set vs i w ∙ (ap (λ (g : Stage). set (stages vs) i g) same ∙ set_again (stages vs) i v.stage (stage_at vs i v v.stage at refl))

  facts_same : (vs : List (View S L)) (i : ℕ) (v w : View S L) → get_elem? vs i ≡ some v → w.known ≡ v.known → facts (set vs i w) ≡ facts vs
  facts_same vs i v w at same = facts-set vs i w ∙ (ap (λ (k : Known S L). set (facts vs) i k) same ∙ set_again (facts vs) i v.known (at_map (λ (v : View S L). v.known) vs i v at))

  abbrev pub Idle : List (View S L) → Type 0
  Idle vs = (j : ℕ) (v : View S L) → get_elem? vs j ≡ some v → v.known.live ≡ false → v.stage ≡ Out

  idle_set : (vs : List (View S L)) (id : ℕ) (w : View S L) → w.known.live ≡ true → Idle vs → Idle (set vs id w)
  idle_set vs id w live idle j v there dead = ⊎_elim
      (λ (p : (j ≡ id) × (w ≡ v)). absurd (false≢true (sym dead ∙ (ap (λ (z : View S L). z.known.live) (sym p.1) ∙ live))))
      (λ (p : (j ≢ id) × (get_elem? vs j ≡ some v)). idle j v p.1 dead)
      (at_set vs id j w v there)

module _ {S : Type 0} where
  abbrev option_or : S → Option S → S
  option_or d None = d
  option_or d (Some x) = x

  abbrev held_or : S → List (ℕ × Option S) → S
  held_or d [] = d
  held_or d (p ∷ ps) = option_or d p.1

  inside : (x y : S) → ◌≡◌ {A = List (ℕ × Option S)} ((0, Some x) ∷ []) ((0, Some y) ∷ []) → x ≡ y
  inside x y e = ap (held_or x) e

  pub some_inside : (x y : S) → Some x ≡ Some y → x ≡ y
  some_inside x y e = ap (option_or x) e

module _ {S L R : Type 0} (lines_of : S → List L) (root_of : S → R) (seat_of : L → ℕ) (opened : S) where
  abbrev pub Rule : State (Option S) (View S L) → Type 0
  Rule = Turned lines_of root_of seat_of opened

  abbrev Home : List (maybe.Option (Option S)) → List (View S L) → List L → Type 0
  Home = IsHome lines_of root_of seat_of opened

  abbrev Away : List (maybe.Option (Option S)) → List (View S L) → ℕ → List L → Type 0
  Away = IsAway lines_of root_of seat_of opened

  pub queue_of : (s : State (Option S) (View S L)) (r : Rule s) → Queue (stages s.views) r.drawn r.served
  queue_of s r = record { counted = r.counted; range = r.range; apart = r.apart; turn = r.turn }

  pub knowing_of : (s : State (Option S) (View S L)) (r : Rule s) → Knowing seat_of opened (facts s.views) r.lines
  knowing_of s r = record {
    seen = r.seen;
    rooted = r.rooted;
    first = r.first;
    few = r.few;
    numbers = r.numbers;
    mine = r.mine;
    whole = r.whole;
    ended = r.ended;
    named = r.named;
    merged = r.merged;
  }

  built : (s : State (Option S) (View S L)) (drawn served : ℕ) (lines : List L) → s.words ≡ length lines ∷ drawn % 2 ^ 64 ∷ served % 2 ^ 64 ∷ []
      → Idle s.views → Queue (stages s.views) drawn served → Home s.homes s.views lines ⊎ Away s.homes s.views served lines → Knowing seat_of opened (facts s.views) lines → Rule s
  built s drawn served lines words idle q slot k = record {
    drawn = drawn;
    served = served;
    lines = lines;
    idle = idle;
    words = words;
    counted = q.counted;
    range = q.range;
    apart = q.apart;
    turn = q.turn;
    slot = slot;
    seen = k.seen;
    rooted = k.rooted;
    first = k.first;
    few = k.few;
    numbers = k.numbers;
    mine = k.mine;
    whole = k.whole;
    ended = k.ended;
    named = k.named;
    merged = k.merged;
  }

  -- the seat that has the slot: the slot is away, and its list is the lines
  holder : (s : State (Option S) (View S L)) (r : Rule s) (id t : ℕ) (v : View S L) → get_elem? s.views id ≡ some v → v.stage ≡ Has t → (s.homes ≡ none ∷ []) × (v.list ≡ r.lines) × (t ≡ r.served)
  holder s r id t v at has = let turn = r.turn id t (stage_at s.views id v (Has t) at has) in ⊎_elim
      (λ (h : Home s.homes s.views r.lines). absurd (h.1 id t (stage_at s.views id v (Has t) at has)))
      (λ (h : Away s.homes s.views r.served r.lines). let j = h.1.0 in let u = h.1.1 in
      let e : j ≡ id = r.apart j id r.served (Has r.served) (Has t) (stage_at s.views j u (Has r.served) h.1.2 h.1.3) (stage_at s.views id v (Has t) at has) refl turn in
      let same : u ≡ v = same_place s.views j id u v h.1.2 at e in
      (h.0, sym (ap (λ (k : View S L). k.list) same) ∙ h.1.4, turn))
      r.slot

  pub draws : (slots id : ℕ) (me : Sat S L) → me.0.stage ≡ Out → me.0.known.live ≡ true → Allows Rule slots id me 1 (λ n. (n + 1) % 2 ^ 64) (Draws (step slots 1 1 0 none) me)
  draws slots id me out live s r _ at _ = let drawn : ℕ = r.drawn in let served : ℕ = r.served in let w : View S L = record me.0 { stage = Waits drawn } in
      let gs : List Stage = stages s.views in let mine = stage_at s.views id me.0 Out at out in
      let total = tickets-set gs id Out (Waits drawn) mine in let before = r.counted in
      let found : get_or s.words 1 0 ≡ drawn % 2 ^ 64 = ap (λ (ws : List ℕ). get_or ws 1 0) r.words in
      let next : (drawn % 2 ^ 64 + 1) % 2 ^ 64 ≡ (drawn + 1) % 2 ^ 64 = omega arith in
      let views' : List (View S L) = set s.views id w in (
        w,
        keeps,
        tt,
        built (record { words = set s.words 1 ((get_or s.words 1 0 + 1) % 2 ^ 64); homes = s.homes; views = views' }) (drawn + 1) served r.lines
            (ap (λ (ws : List ℕ). set ws 1 ((get_or ws 1 0 + 1) % 2 ^ 64)) r.words ∙ ap (λ (n : ℕ). length r.lines ∷ n ∷ served % 2 ^ 64 ∷ []) next)
            (idle_set s.views id w live r.idle)
            (subst (λ (l : List Stage). Queue l (drawn + 1) served) (sym (stages-set s.views id w)) (moved gs id drawn (Waits drawn) drawn served (drawn + 1) (λ u e. sym e) (λ u e. absurd (never_has (Waits drawn) tt u e)) (omega arith, omega arith) (omega arith)
            (λ j u x other there here. let lt = (r.range j u x there here).1 in λ e. absurd (omega arith)) (omega arith) (queue_of s r)))
            (⊎_elim
            (λ (h : Home s.homes s.views r.lines). inl (h.0, subst HasNone (sym (stages-set s.views id w)) (none_set gs id (Waits drawn) tt h.1)))
            (λ (h : Away s.homes s.views served r.lines).
            let other : h.1.0 ≢ id = λ e. let no : 2 ≡ 0 = sym (ap kind h.1.3) ∙ (ap (λ (k : View S L). kind k.stage) (same_place s.views h.1.0 id h.1.1 me.0 h.1.2 at e) ∙ ap kind out) in absurd (omega arith) in
            inr (h.0, (h.1.0, h.1.1, set_else s.views id h.1.0 w other ∙ h.1.2, h.1.3, h.1.4)))
            r.slot)
            (subst (λ (l : List (Known S L)). Knowing seat_of opened l r.lines) (sym (facts_same s.views id me.0 w at refl)) (knowing_of s r)),
        (refl, (drawn, refl, found)),
      )

  found_turn : (s : State (Option S) (View S L)) (r : Rule s) (id t : ℕ) → get_elem? (stages s.views) id ≡ some (Waits t) → get_or s.words 2 0 ≡ t % 2 ^ 64 → r.served ≡ t
  found_turn s r id t at found = let e = r.range id t (Waits t) at refl in
      let low = e.0 in let high = e.1 in let most = tickets-le (stages s.views) in let few = r.few in let sum = r.counted in
      let long : length (stages s.views) ≡ length (facts s.views) = length-map s.views (λ (v : View S L). v.stage) ∙ sym (length-map s.views (λ (v : View S L). v.known)) in
      let served : ℕ = r.served in let drawn : ℕ = r.drawn in
      let is : served % 2 ^ 64 ≡ t % 2 ^ 64 = sym (ap (λ (ws : List ℕ). get_or ws 2 0) r.words) ∙ found in
      one_turn served t (2 ^ 64) low (omega arith) is

  pub looks : (slots id : ℕ) (me : Sat S L) (t : ℕ) → me.0.stage ≡ Waits t → me.0.known.live ≡ true → Allows Rule slots id me 2 (λ n. n) (Looks lines_of root_of seat_of (step slots 2 0 0 none) me)
  looks slots id me t waits live s r _ at _ = let found : ℕ = get_or s.words 2 0 in let gs : List Stage = stages s.views in let mine = stage_at s.views id me.0 (Waits t) at waits in
      let kept : set s.words 2 found ≡ s.words = ap (λ (ws : List ℕ). set ws 2 (get_or ws 2 0)) r.words ∙ sym r.words in
      dite (ℕ_discrete found (t % 2 ^ 64))
      (λ hit. let turn = found_turn s r id t mine hit in
      let home : Home s.homes s.views r.lines = ⊎_elim (λ (h : Home s.homes s.views r.lines). h)
      (λ (h : Away s.homes s.views r.served r.lines).
      let e : h.1.0 ≡ id = r.apart h.1.0 id r.served (Has r.served) (Waits t) (stage_at s.views h.1.0 h.1.1 (Has r.served) h.1.2 h.1.3) mine refl (sym turn) in
      let no : 2 ≡ 1 = sym (ap kind h.1.3) ∙ (ap (λ (k : View S L). kind k.stage) (same_place s.views h.1.0 id h.1.1 me.0 h.1.2 at e) ∙ ap kind waits) in absurd (omega arith))
      r.slot in
      let x : S = home.0.0 in let w : View S L = record me.0 { stage = Has t; list = lines_of x } in
      let total = tickets-set gs id (Waits t) (Has t) mine in let before = r.counted in let drawn : ℕ = r.drawn in let served : ℕ = r.served in
      let sits = known_at s.views id me.0 at live in let is_lines : lines_of x ≡ r.lines = home.0.2 in let k : Known S L = me.0.known in
      let shows : Shows lines_of root_of seat_of k x = record {
        root = λ o is. let same : opened ≡ o = some_inside opened o (sym (r.rooted id k sits) ∙ is) in home.0.3 ∙ ap root_of same;
        grows = subst (λ (l : List L). IsPrefix k.seen l) (sym is_lines) (r.seen id k sits);
        mine = ap (λ (l : List L). own seat_of l k.number) is_lines ∙ r.mine id k sits;
        ended = λ zero_is n among. let at0 : Sits (facts s.views) 0 k = subst (λ (m : ℕ). Sits (facts s.views) m k) (sym (r.numbers id k sits) ∙ zero_is) sits in
            ap (λ (l : List L). own seat_of l n) is_lines ∙ r.whole k at0 n (r.ended k at0 n among).1;
      } in (
        w,
        takes 0 (Some x),
        ap (λ (hs : List (maybe.Option (Option S))). get_elem? hs 0) home.0.1,
        built (record { words = set s.words 2 found; homes = set s.homes 0 none; views = set s.views id w }) drawn served r.lines (kept ∙ r.words)
            (idle_set s.views id w live r.idle)
            (subst (λ (l : List Stage). Queue l drawn served) (sym (stages-set s.views id w)) (moved gs id t (Has t) drawn served drawn (λ u e. sym e) (λ u e. subst (λ (z : Stage). IsAt z t) e refl ∙ sym turn) (r.range id t (Waits t) mine refl) (omega arith)
            (λ j u y other there here e. other (r.apart j id u y (Waits t) there mine here (sym e))) (omega arith) (queue_of s r)))
            (inr (ap (λ (hs : List (maybe.Option (Option S))). set hs 0 none) home.0.1, (id, w, set_here s.views id w (in_range s.views id me.0 at), ap Has (sym turn), is_lines)))
            (subst (λ (l : List (Known S L)). Knowing seat_of opened l r.lines) (sym (facts_same s.views id me.0 w at refl)) (knowing_of s r)),
        λ u was alive. let same : t ≡ u = subst (λ (z : Stage). IsAt z u) waits (waits_at me.0.stage u was) in (
          (λ _. (x, ap (λ (n : ℕ). record me.0 { stage = Has n; list = lines_of x }) same, refl, shows)),
          λ not. absurd (not (hit ∙ ap (λ (n : ℕ). n % 2 ^ 64) same)),
        ),
      ))
      (λ miss. (
        me.0,
        keeps,
        tt,
        subst (λ (z : List ℕ × List (View S L)). Rule record { words = z.0; homes = s.homes; views = z.1 }) (λ i. (sym kept i, sym (set_again s.views id me.0 at) i)) r,
        λ u was alive. let same : t ≡ u = subst (λ (z : Stage). IsAt z u) waits (waits_at me.0.stage u was) in
            ((λ hit. absurd (miss (hit ∙ ap (λ (n : ℕ). n % 2 ^ 64) (sym same)))), λ _. refl),
      ))

  pub passes : (slots id : ℕ) (me : Sat S L) (t : ℕ) (x : S) → me.0.stage ≡ Has t → me.0.known.live ≡ true → me.1 ≡ (0, Some x) ∷ [] → lines_of x ≡ me.0.list → root_of x ≡ root_of opened
      → (new : ℕ) → new ≡ (t + 1) % 2 ^ 64 → Allows Rule slots id me 2 (λ _. new) (λ _. Passes (step slots 2 new 0 none) me new)
  passes slots id me t x has live carried lines is_root new is_next s r _ at _ = let w : View S L = record me.0 { stage = Out } in
      let h = holder s r id t me.0 at has in let turn = h.2 in let gs : List Stage = stages s.views in let drawn : ℕ = r.drawn in let served : ℕ = r.served in
      let mine : get_elem? gs id ≡ some (Has served) = stage_at s.views id me.0 (Has served) at (has ∙ ap Has turn) in (
        w,
        gives,
        tt,
        built (record { words = set s.words 2 new; homes = put_back s.homes me.1; views = set s.views id w }) drawn (served + 1) r.lines
            (ap (λ (ws : List ℕ). set ws 2 new) r.words ∙ ap (λ (n : ℕ). length r.lines ∷ drawn % 2 ^ 64 ∷ n ∷ []) (is_next ∙ ap (λ (n : ℕ). (n + 1) % 2 ^ 64) turn))
            (idle_set s.views id w live r.idle)
            (subst (λ (l : List Stage). Queue l drawn (served + 1)) (sym (stages-set s.views id w)) (gone gs id drawn served mine (queue_of s r)))
            (inl (
              (x, ap (λ (z : List (maybe.Option (Option S)) × List (ℕ × Option S)). put_back z.0 z.1) (λ i. (h.0 i, carried i)), lines ∙ h.1, is_root),
              subst HasNone (sym (stages-set s.views id w)) (none_gone gs id drawn served mine (queue_of s r)),
            ))
            (subst (λ (l : List (Known S L)). Knowing seat_of opened l r.lines) (sym (facts_same s.views id me.0 w at refl)) (knowing_of s r)),
        (ap rest carried, refl),
      )

  pub learns : (slots id : ℕ) (me : Sat S L) (t : ℕ) → me.0.stage ≡ Has t → me.0.known.live ≡ true → Allows Rule slots id me 0 (λ n. n) (Learns (step slots 0 0 0 none) me)
  learns slots id me t has live s r _ at _ = let h = holder s r id t me.0 at has in let k : Known S L = me.0.known in let w : View S L = record me.0 { known = record k { seen = me.0.list } } in
      let found : get_or s.words 0 0 ≡ length r.lines = ap (λ (ws : List ℕ). get_or ws 0 0) r.words in
      let kept : set s.words 0 (get_or s.words 0 0) ≡ s.words = ap (λ (ws : List ℕ). set ws 0 (get_or ws 0 0)) r.words ∙ sym r.words in
      let all : me.0.list ≡ r.lines ++ [] = h.1 ∙ sym (append-nil r.lines) in
      let grown : Knowing seat_of opened (set (facts s.views) id (seen_more k (r.lines ++ []))) (r.lines ++ [])
      = added seat_of opened (facts s.views) id k r.lines [] (known_at s.views id me.0 at live) (All-nil (λ (l : L). seat_of l ≡ k.number)) (knowing_of s r) in (
        w,
        keeps,
        tt,
        built (record { words = set s.words 0 (get_or s.words 0 0); homes = s.homes; views = set s.views id w }) r.drawn r.served r.lines (kept ∙ r.words)
            (idle_set s.views id w live r.idle)
            (subst (λ (l : List Stage). Queue l r.drawn r.served) (sym (stages_same s.views id me.0 w at refl)) (queue_of s r))
            (inr (h.0, (id, w, set_here s.views id w (in_range s.views id me.0 at), has ∙ ap Has h.2, h.1)))
            (subst (λ (l : List (Known S L)). Knowing seat_of opened l r.lines) (sym (facts-set s.views id w))
            (subst (λ (l : List L). Knowing seat_of opened (set (facts s.views) id w.known) l) (append-nil r.lines)
            (subst (λ (l : List L). Knowing seat_of opened (set (facts s.views) id (seen_more k l)) (r.lines ++ [])) (sym all) grown))),
        (refl, refl, found ∙ ap length (sym h.1)),
      )

  pub adds : (slots id : ℕ) (me : Sat S L) (t : ℕ) (x : S) (more : List L) (new : ℕ) → me.0.stage ≡ Has t → me.0.known.live ≡ true → me.1 ≡ (0, Some x) ∷ [] → lines_of x ≡ me.0.list ++ more → new ≡ length more
      → All (λ l. seat_of l ≡ me.0.known.number) more → length (lines_of x) < 2 ^ 63 → Allows Rule slots id me 0 (λ n. (n + new) % 2 ^ 64) (Adds lines_of (step slots 0 new 0 none) me)
  adds slots id me t x more new has live carried grown many of short s r _ at _ = let h = holder s r id t me.0 at has in let k : Known S L = me.0.known in
      let w : View S L = record me.0 { list = lines_of x; known = record k { seen = lines_of x } } in
      let all : lines_of x ≡ r.lines ++ more = grown ∙ ap (λ (l : List L). l ++ more) h.1 in
      let long = length-append r.lines more in let n : ℕ = length r.lines in let m : ℕ = length more in let c : ℕ = length (r.lines ++ more) in
      let low : c < 2 ^ 63 = subst (λ (l : List L). length l < 2 ^ 63) all short in
      let next : (n + new) % 2 ^ 64 ≡ c = omega arith in
      let more_known : Knowing seat_of opened (set (facts s.views) id (seen_more k (r.lines ++ more))) (r.lines ++ more)
      = added seat_of opened (facts s.views) id k r.lines more (known_at s.views id me.0 at live) of (knowing_of s r) in (
        w,
        keeps,
        tt,
        built (record { words = set s.words 0 ((get_or s.words 0 0 + new) % 2 ^ 64); homes = s.homes; views = set s.views id w }) r.drawn r.served (r.lines ++ more)
            (ap (λ (ws : List ℕ). set ws 0 ((get_or ws 0 0 + new) % 2 ^ 64)) r.words ∙ ap (λ (c : ℕ). c ∷ r.drawn % 2 ^ 64 ∷ r.served % 2 ^ 64 ∷ []) next)
            (idle_set s.views id w live r.idle)
            (subst (λ (l : List Stage). Queue l r.drawn r.served) (sym (stages_same s.views id me.0 w at refl)) (queue_of s r))
            (inr (h.0, (id, w, set_here s.views id w (in_range s.views id me.0 at), has ∙ ap Has h.2, all)))
            (subst (λ (l : List (Known S L)). Knowing seat_of opened l (r.lines ++ more)) (sym (facts-set s.views id w))
            (subst (λ (l : List L). Knowing seat_of opened (set (facts s.views) id (seen_more k l)) (r.lines ++ more)) (sym all) more_known)),
        (refl, λ y e. let same : x ≡ y = inside x y (sym carried ∙ e) in ap (λ (z : S). record me.0 { list = lines_of z; known = record k { seen = lines_of z } }) same),
      )

  pub recalls : (slots id : ℕ) (me : Sat S L) → Allows Rule slots id me 0 (λ n. n) (Recalls seat_of (step slots 0 0 0 none) me)
  recalls slots id me s r _ at _ = let kept : set s.words 0 (get_or s.words 0 0) ≡ s.words = ap (λ (ws : List ℕ). set ws 0 (get_or ws 0 0)) r.words ∙ sym r.words in (
    me.0,
    keeps,
    tt,
    subst (λ (z : List ℕ × List (View S L)). Rule record { words = z.0; homes = s.homes; views = z.1 }) (λ i. (sym kept i, sym (set_again s.views id me.0 at) i)) r,
    (refl, λ live zero_is. let sits = known_at s.views id me.0 at live in r.merged me.0.known (subst (λ (m : ℕ). Sits (facts s.views) m me.0.known) (sym (r.numbers id me.0.known sits) ∙ zero_is) sits)),
  )

  pub splits : (id : ℕ) (v : View S L) → v.stage ≡ Out → v.known.live ≡ true → v.known.number ≡ 0 → v.known.made < 2 ^ 32 - 1 → Splits Rule id v (split_left v) (split_right v)
  splits id v out live zero_is room s r at = let left : View S L = split_left v in let right : View S L = split_right v in let vs : List (View S L) = s.views in
      let one : List (View S L) = set vs id left in let views' : List (View S L) = one ++ right ∷ [] in
      let same_stages : stages views' ≡ stages vs ++ Out ∷ [] = map-append (λ (v : View S L). v.stage) one (right ∷ []) ∙ ap (λ (l : List Stage). l ++ Out ∷ []) (stages_same vs id v left at refl) in
      let same_facts : facts views' ≡ set (facts vs) id left.known ++ right.known ∷ [] = map-append (λ (v : View S L). v.known) one (right ∷ []) ∙ ap (λ (l : List (Known S L)). l ++ right.known ∷ []) (facts-set vs id left) in
      built (record { words = s.words; homes = s.homes; views = views' }) r.drawn r.served r.lines r.words
      (λ j x there dead. ⊎_elim
      (λ (p : (j ≡ id) × (left ≡ x)). absurd (false≢true (sym dead ∙ (ap (λ (z : View S L). z.known.live) (sym p.1) ∙ live))))
      (λ (q : ((j ≢ id) × (get_elem? vs j ≡ some x)) ⊎ ((j ≡ length one) × (right ≡ x))). ⊎_elim
      (λ (p : (j ≢ id) × (get_elem? vs j ≡ some x)). r.idle j x p.1 dead)
      (λ (p : (j ≡ length one) × (right ≡ x)). ap (λ (z : View S L). z.stage) (sym p.1))
      q)
      (at_split vs id j left right x there))
      (subst (λ (l : List Stage). Queue l r.drawn r.served) (sym same_stages) (one_more (stages vs) r.drawn r.served (queue_of s r)))
      (⊎_elim
      (λ (h : Home s.homes vs r.lines). inl (h.0, subst HasNone (sym same_stages) (none_more (stages vs) h.1)))
      (λ (h : Away s.homes vs r.served r.lines).
      let other : h.1.0 ≢ id = λ e. let no : 2 ≡ 0 = sym (ap kind h.1.3) ∙ (ap (λ (k : View S L). kind k.stage) (same_place vs h.1.0 id h.1.1 v h.1.2 at e) ∙ ap kind out) in absurd (omega arith) in
      inr (h.0, (h.1.0, h.1.1, at_longer one (right ∷ []) h.1.0 h.1.1 (set_else vs id h.1.0 left other ∙ h.1.2), h.1.3, h.1.4)))
      r.slot)
      (subst (λ (l : List (Known S L)). Knowing seat_of opened l r.lines) (sym same_facts) (split_known seat_of opened (facts vs) id v.known r.lines (known_at vs id v at live) zero_is room (knowing_of s r)))

  pub joins : (id other : ℕ) (v w : View S L) → v.stage ≡ Out → v.known.live ≡ true → v.known.number ≡ 0 → w.stage ≡ Out → w.known.live ≡ true → Joins Rule id v other w (joined_view v w) spent_view
  joins id other v w out live zero_is w_out w_live s r at ne there = let both : View S L = joined_view v w in let vs : List (View S L) = s.views in
      let at_w : get_elem? vs other ≡ some w = sym (set_else vs id other both ne) ∙ there in
      let one : List (View S L) = set vs id both in let views' : List (View S L) = set one other spent_view in
      let same_stages : stages views' ≡ stages vs = stages-set one other spent_view ∙ (ap (λ (l : List Stage). set l other Out) (stages_same vs id v both at refl) ∙ set_again (stages vs) other Out (stage_at vs other w Out at_w w_out)) in
      let same_facts : facts views' ≡ set (set (facts vs) id both.known) other (spent_view {S = S} {L = L}).known = facts-set one other spent_view ∙ ap (λ (l : List (Known S L)). set l other (spent_view {S = S} {L = L}).known) (facts-set vs id both) in
      built (record { words = s.words; homes = s.homes; views = views' }) r.drawn r.served r.lines r.words
      (λ j x here dead. ⊎_elim
      (λ (p : (j ≡ other) × (spent_view ≡ x)). ap (λ (z : View S L). z.stage) (sym p.1))
      (λ (q : (j ≢ other) × (((j ≡ id) × (both ≡ x)) ⊎ ((j ≢ id) × (get_elem? vs j ≡ some x)))). ⊎_elim
      (λ (p : (j ≡ id) × (both ≡ x)). absurd (false≢true (sym dead ∙ (ap (λ (z : View S L). z.known.live) (sym p.1) ∙ live))))
      (λ (p : (j ≢ id) × (get_elem? vs j ≡ some x)). r.idle j x p.1 dead)
      q.1)
      (at_join vs id other j both spent_view x here))
      (subst (λ (l : List Stage). Queue l r.drawn r.served) (sym same_stages) (queue_of s r))
      (⊎_elim
      (λ (h : Home s.homes vs r.lines). inl (h.0, subst HasNone (sym same_stages) h.1))
      (λ (h : Away s.homes vs r.served r.lines).
      let not_at : (i : ℕ) (u : View S L) → get_elem? vs i ≡ some u → u.stage ≡ Out → h.1.0 ≢ i
      = λ i u at_u u_out e. let no : 2 ≡ 0 = sym (ap kind h.1.3) ∙ (ap (λ (k : View S L). kind k.stage) (same_place vs h.1.0 i h.1.1 u h.1.2 at_u e) ∙ ap kind u_out) in absurd (omega arith) in
      inr (h.0, (h.1.0, h.1.1, set_else one other h.1.0 spent_view (not_at other w at_w w_out) ∙ (set_else vs id h.1.0 both (not_at id v at out) ∙ h.1.2), h.1.3, h.1.4)))
      r.slot)
      (subst (λ (l : List (Known S L)). Knowing seat_of opened l r.lines) (sym same_facts)
      (join_known seat_of opened (facts vs) id other v.known w.known (spent_view {S = S} {L = L}).known r.lines (known_at vs id v at live) (known_at vs other w at_w w_live) ne zero_is refl (knowing_of s r)))
