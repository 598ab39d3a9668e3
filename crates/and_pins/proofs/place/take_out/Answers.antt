use Rattle.std.proofs.Common.{◌≡◌, ◌<◌, List, true, false, length, slice_index_or, subst, sym, None}
use Rattle.and_pins.specs.declared.pin.Pin.{Pin}
use Rattle.and_pins.specs.Pinned.{ChangesAt, IsPlace, is_of}
use Rattle.and_pins.proofs.Changes.{none_taken, taken}
use Rattle.and_pins.proofs.place.take_out.Goals as goal

pub returns-then-stands-clause-changes : goal.returns-then-stands-clause-changes
returns-then-stands-clause-changes c =
    let pins = c.args.pins.now.items in
    let host = c.args.host in
    let vm = c.args.vm in
    let at = c.place_of-at.result in
    let place : IsPlace host vm pins at = subst (λ (xs : List Pin). IsPlace host vm xs at) c.deref.ensures.value c.place_of-at.ensures in
    let there = subst (λ (xs : List Pin). (at < length xs) × ((d : Pin) → is_of host vm (slice_index_or xs at d) ≡ true)) c.deref-2.ensures.value (c.stands.ensures.there c.if-stands.true) in
    subst (λ (xs : List Pin). ChangesAt pins xs host vm None) (sym c.remove.ensures.items) (taken host vm pins at c.requires place there.0 there.1)

pub returns-else-stands-clause-changes : goal.returns-else-stands-clause-changes
returns-else-stands-clause-changes c =
    let pins = c.args.pins.now.items in
    let host = c.args.host in
    let vm = c.args.vm in
    let at = c.place_of-at.result in
    let place : IsPlace host vm pins at = subst (λ (xs : List Pin). IsPlace host vm xs at) c.deref.ensures.value c.place_of-at.ensures in
    let absent = subst (λ (xs : List Pin). at < length xs → (d : Pin) → is_of host vm (slice_index_or xs at d) ≡ false) c.deref-2.ensures.value (c.stands.ensures.absent c.if-stands.false) in
    none_taken host vm pins at c.requires place absent
