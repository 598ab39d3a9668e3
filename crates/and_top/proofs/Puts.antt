-- Texts that are put one after another.
use Rattle.std.proofs.Common.{◌≡◌, ◌≤◌, ◌+◌, ◌∙◌, ℕ, List, ◌++◌, Some, length, take, min, sym, ap, append_assoc, arith, Bool, true, false, inl, inr}
use Rattle.std.specs.Bool.{OnTrue, OnFalse}
use Rattle.std.proofs.lemmas.List.{take_min, take-append-le}
use Rattle.std.proofs.Math.Seq.{take-append-add}
use Rattle.and_outside.specs.Causes.{Rose, raised}
use Rattle.and_outside.specs.Stream.{Stream}
use Rattle.and_top.specs.Telling.{Puts, Wrote, WrotePart, Tells}

-- ---- how many puts were made

pub puts-one : (old new : Stream) → new.calls ≡ raised 1 old.calls → new.before ≡ old.faults → Puts 1 old new
puts-one old new number before = record { number = number; faults = rw before (omega arith) }

puts-then : (n m : ℕ) (old mid new : Stream) → Puts n old mid → old.faults ≤ mid.faults → Puts m mid new → Puts (n + m) old new
puts-then n m old mid new first grows second =
    let a = first.number in
    let b = second.number in
    let c = second.faults in
    record { number = omega (arith, a, b); faults = omega (arith, grows, c) }

-- ---- one text after another

wrote-then : (n m : ℕ) (a b : List ℕ) (old mid new : Stream) → Wrote n a old mid → old.faults ≤ mid.faults → Wrote m b mid new → Wrote (n + m) (a ++ b) old new
wrote-then n m a b old mid new first grows second =
    record { puts = puts-then n m old mid new first.puts grows second.puts; all = λ w told. second.all (w ++ a) (first.all w told) ∙ ap Some (append_assoc w a b) }

part-after : (n m : ℕ) (a b : List ℕ) (old mid new : Stream) → Wrote n a old mid → old.faults ≤ mid.faults → WrotePart m b mid new → WrotePart (n + m) (a ++ b) old new
part-after n m a b old mid new first grows second =
    record {
      puts = puts-then n m old mid new first.puts grows second.puts;
      rose = second.rose;
      part = λ w told.
          let (k, is) = second.part (w ++ a) (first.all w told) in
          (length a + k, is ∙ ap Some (append_assoc w a (take k b) ∙ ap (λ x. w ++ x) (sym (take-append-add a b k))));
    }

part-first : (n : ℕ) (a b : List ℕ) (old new : Stream) → WrotePart n a old new → WrotePart n (a ++ b) old new
part-first n a b old new first =
    record {
      puts = first.puts;
      rose = first.rose;
      part = λ w told.
          let (k, is) = first.part w told in
          let inside : min k (length a) ≤ length a = omega arith in
          (min k (length a), is ∙ ap (λ x. Some (w ++ x)) (sym (take_min k a) ∙ sym (take-append-le (min k (length a)) a b inside)));
    }

pub tells-after : (n m : ℕ) (a b : List ℕ) (old mid new : Stream) → Wrote n a old mid → old.faults ≤ mid.faults → Tells m b mid new → Tells (n + m) (a ++ b) old new
tells-after n m a b old mid new first grows told =
    elim told [
      | inl all ↦ inl (wrote-then n m a b old mid new first grows all)
      | inr rest ↦
          let (k, few, part) = rest in
          inr (n + k, omega (arith, few), part-after n k a b old mid new first grows part)
    ]

pub tells-first : (n m : ℕ) (a b : List ℕ) (old new : Stream) → n ≤ m → WrotePart n a old new → Tells m (a ++ b) old new
tells-first n m a b old new few part = inr (n, few, part-first n a b old new part)

pub tells-last : (done : Bool) (text : List ℕ) (old new : Stream) → OnTrue done (Wrote 1 text old new) → OnFalse done (WrotePart 1 text old new) → Tells 1 text old new
tells-last true text old new all part = inl all
tells-last false text old new all part = inr (1, omega arith, part)
