use Rattle.std.proofs.Common.{◌≡◌, ◌<◌, ◌+◌, ◌^◌, ◌∙◌, ℕ, List, true, false, length, slice_index_or, subst, sym}
use Rattle.and_events.specs.Usage.{Used, same_key}
use Rattle.and_usage.specs.Counting.{IsPlace}
use Rattle.and_usage.proofs.Uses.{bytes_there, use_new, use_there}
use Rattle.and_usage.proofs.place.add_to.Goals as goal

pub add_at-requires-clause-sum : goal.add_at-requires-clause-sum
add_at-requires-clause-sum c = λ d.
    let us = c.args.used.now.items in
    let at = c.place_of-at.result in
    let place : IsPlace c.args.key us at = subst (λ (xs : List Used). IsPlace c.args.key xs at) c.deref.ensures.value c.place_of-at.ensures in
    let there = subst (λ (xs : List Used). (at < length xs) × ((d : Used) → same_key c.args.key (slice_index_or xs at d).key ≡ true)) c.deref-2.ensures.value (c.stands.ensures.there c.if-stands.true) in
    subst (λ (n : ℕ). n + c.args.bytes < 2 ^ 64) (sym (bytes_there c.args.key us at d place there.0 (there.1 d))) c.requires.sum

pub returns-then-stands-clause-items : goal.returns-then-stands-clause-items
returns-then-stands-clause-items c =
    let us = c.args.used.now.items in
    let at = c.place_of-at.result in
    let d : Used = record { key = c.args.key; bytes = 0 } in
    let place : IsPlace c.args.key us at = subst (λ (xs : List Used). IsPlace c.args.key xs at) c.deref.ensures.value c.place_of-at.ensures in
    let there = subst (λ (xs : List Used). (at < length xs) × ((d : Used) → same_key c.args.key (slice_index_or xs at d).key ≡ true)) c.deref-2.ensures.value (c.stands.ensures.there c.if-stands.true) in
    c.add_at.ensures.items d ∙ sym (use_there c.args.key c.args.bytes us at d place there.0 (there.1 d))

pub returns-else-stands-clause-items : goal.returns-else-stands-clause-items
returns-else-stands-clause-items c =
    let us = c.args.used.now.items in
    let at = c.place_of-at.result in
    let place : IsPlace c.args.key us at = subst (λ (xs : List Used). IsPlace c.args.key xs at) c.deref.ensures.value c.place_of-at.ensures in
    let absent = subst (λ (xs : List Used). at < length xs → (d : Used) → same_key c.args.key (slice_index_or xs at d).key ≡ false) c.deref-2.ensures.value (c.stands.ensures.absent c.if-stands.false) in
    c.put_at.ensures.items ∙ sym (use_new c.args.key c.args.bytes us at place (λ d l. absent l d))
