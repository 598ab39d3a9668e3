use Rattle.std.proofs.Common.{◌≡◌, ◌≢◌, ℕ, zero, suc, ◌+◌, ◌<◌, Bool, true, false, List, [], ◌∷◌, length, get_or, refl, sym, ap, ◌∙◌, arith, Some, None, ⊎_elim}
use Rattle.std.specs.Prelude.{position, unwrap_or}
use Rattle.std.specs.List.{position_from}
use Rattle.std.proofs.lemmas.Bool.{cases_eq}
use Rattle.std.proofs.lemmas.Iterator.Adapters.{position_from-zero}
use Rattle.and_policy.specs.declared.port.Port.{Port}
use Rattle.and_policy.specs.declared.port.Port.TheVariants.{Absent, Running, Paused, Arriving, Hairpin}
use Rattle.and_events.specs.Ports.{is_arriving, port_at, ports_of}
use Rattle.and_book.proofs.moves.arriving_at.Goals as goal

not_arriving : (port : Port) → port ≢ Arriving → is_arriving port ≡ false
not_arriving Absent n = refl
not_arriving Running n = refl
not_arriving Paused n = refl
not_arriving Arriving n = absurd (n refl)
not_arriving (Hairpin host entry) n = refl

first_from : {X : Type 0} (t : X → Bool) (xs : List X) (i k : ℕ) (d : X) → t d ≡ false → t (get_or xs k d) ≡ true → ((j : ℕ) → j < k → t (get_or xs j d) ≡ false) → position_from t i xs ≡ Some (i + k)
first_from t [] i k d past here before = absurd (cc)
first_from t (x ∷ xs) i zero d past here before = rw here (ap Some (omega arith))
first_from t (x ∷ xs) i (suc k) d past here before =
    let not_first : t x ≡ false = before 0 (omega arith) in
    let later : position_from t (i + 1) xs ≡ Some (i + 1 + k) = first_from t xs (i + 1) k d past here (λ j l. before (suc j) (omega (arith, l))) in
    rw not_first (later ∙ ap Some (omega arith))

none_from : {X : Type 0} (t : X → Bool) (xs : List X) (i : ℕ) (d : X) → ((j : ℕ) → j < length xs → t (get_or xs j d) ≡ false) → position_from t i xs ≡ None
none_from t [] i d none = refl
none_from t (x ∷ xs) i d none =
    let not_first : t x ≡ false = none 0 (omega arith) in
    rw not_first (none_from t xs (i + 1) d (λ j l. none (suc j) (omega (arith, l))))

pub loop-host-preserved : goal.loop-host-preserved
loop-host-preserved c =
    record {
      none = λ k l.
          ⊎_elim (λ (e : k ≡ c.loop-host.host).
          ap (λ j. is_arriving (port_at c.args.ports.now j c.args.vm)) e ∙ (ap is_arriving (sym c.state.ensures) ∙ not_arriving c.state.result c.in_default.not-Arriving))
          (λ (n : k ≢ c.loop-host.host). c.loop-host.invariant.none k (omega (arith, l, n))) (cases_eq k c.loop-host.host);
    }

pub returns-in-Arriving : goal.returns-in-Arriving
returns-in-Arriving c =
    let row : List Port = ports_of c.args.ports.now c.args.vm in
    let host : ℕ = c.loop-host.host in
    let here : is_arriving (get_or row host Absent) ≡ true = ap is_arriving (sym c.state.ensures ∙ c.in-Arriving.is) in
    let first : position is_arriving row ≡ Some host = position_from-zero is_arriving row ∙ first_from is_arriving row 0 host Absent refl here c.loop-host.invariant.none ∙ ap Some (omega arith) in
    sym (ap (λ o. unwrap_or o 0) first)

pub returns : goal.returns
returns c =
    let row : List Port = ports_of c.args.ports.now c.args.vm in
    sym (ap (λ o. unwrap_or o 0) (position_from-zero is_arriving row ∙ none_from is_arriving row 0 Absent (λ j l. c.loop-host.invariant.none j (omega (arith, l, c.requires, c.loop-host-test.false)))))
