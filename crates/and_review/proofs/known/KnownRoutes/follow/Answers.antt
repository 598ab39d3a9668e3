use Rattle.std.proofs.Common.{◌≡◌, ◌∙◌, ◌++◌, ◌-◌, ℕ, List, drop, length, subst, sym, take}
use Rattle.and_policy.specs.declared.entry.Entry.{Entry}
use Rattle.and_review.specs.Views.{Begins}
use Rattle.and_review.proofs.Begun.{begins_more, rest_is}
use Rattle.and_review.proofs.known.KnownRoutes.follow.Goals as goal

pub returns-in_err-add-clause-begins : goal.returns-in_err-add-clause-begins
returns-in_err-add-clause-begins c =
    let log : List Entry = c.args.log.now in
    let known : List Entry = c.args.self.now in
    let later : ℕ → List Entry = λ n. take (length log - n) (drop n log) in
    let rest : log ≡ known ++ later c.len-known.result = subst (λ (n : ℕ). log ≡ known ++ later n) (sym c.len-known.ensures) (rest_is known log c.requires.begins) in
    subst (λ (k : List Entry). Begins k log) (sym (c.in_err-add.ensures.err ∙ c.loop-entry.invariant)) (begins_more known (later c.len-known.result) log c.loop-entry.entry-index rest)
