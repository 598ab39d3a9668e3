-- The entries that are known, one more at a time.
use Rattle.std.proofs.Common.{◌≡◌, ℕ, ◌-◌, List, ◌++◌, length, take, drop, append_assoc, ap, sym, ◌∙◌}
use Rattle.std.proofs.lemmas.List.{length-drop, take-append-drop}
use Rattle.std.proofs.Math.Seq.{drop-append_seam, take-length}
use Rattle.and_policy.specs.declared.entry.Entry.{Entry}
use Rattle.and_review.specs.Views.{Begins}

-- some of the entries that come later are known too
pub begins_more : (known later log : List Entry) (n : ℕ) → log ≡ known ++ later → Begins (known ++ take n later) log
begins_more known later log n e =
    (drop n later, e ∙ ap (λ (xs : List Entry). known ++ xs) (sym (take-append-drop n later)) ∙ sym (append_assoc known (take n later) (drop n later)))

-- what is not known yet, as the slice of the log behind what is
pub rest_is : (known log : List Entry) → Begins known log → log ≡ known ++ take (length log - length known) (drop (length known) log)
rest_is known log b =
    let all : take (length log - length known) (drop (length known) log) ≡ drop (length known) log =
    ap (λ (n : ℕ). take n (drop (length known) log)) (sym (length-drop (length known) log)) ∙ take-length (drop (length known) log) in
    b.1 ∙ ap (λ (xs : List Entry). known ++ xs) (sym (all ∙ ap (drop (length known)) b.1 ∙ drop-append_seam known b.0))
