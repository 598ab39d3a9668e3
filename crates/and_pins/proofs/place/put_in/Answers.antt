use Rattle.std.proofs.Common.{◌≡◌, ◌<◌, List, true, false, length, slice_index_or, subst, sym, Some}
use Rattle.and_pins.specs.declared.pin.Pin.{Pin}
use Rattle.and_pins.specs.Pinned.{ChangesAt, IsPlace, is_of}
use Rattle.and_pins.proofs.Changes.{put_new, put_there}
use Rattle.and_pins.proofs.place.put_in.Goals as goal

pub returns-then-stands-clause-changes : goal.returns-then-stands-clause-changes
returns-then-stands-clause-changes c =
    let pins = c.args.pins.now.items in
    let pin = c.args.pin in
    let at = c.place_of-at.result in
    let place : IsPlace pin.host pin.vm pins at = subst (λ (xs : List Pin). IsPlace pin.host pin.vm xs at) c.deref.ensures.value c.place_of-at.ensures in
    let there = subst (λ (xs : List Pin). (at < length xs) × ((d : Pin) → is_of pin.host pin.vm (slice_index_or xs at d) ≡ true)) c.deref-2.ensures.value (c.stands.ensures.there c.if-stands.true) in
    put_there pin pins at c.requires.ordered place there.0 there.1

pub returns-in-Ok-clause-changes : goal.returns-in-Ok-clause-changes
returns-in-Ok-clause-changes c =
    let pins = c.args.pins.now.items in
    let pin = c.args.pin in
    let at = c.place_of-at.result in
    let place : IsPlace pin.host pin.vm pins at = subst (λ (xs : List Pin). IsPlace pin.host pin.vm xs at) c.deref.ensures.value c.place_of-at.ensures in
    let absent = subst (λ (xs : List Pin). at < length xs → (d : Pin) → is_of pin.host pin.vm (slice_index_or xs at d) ≡ false) c.deref-2.ensures.value (c.stands.ensures.absent c.if-stands.false) in
    subst (λ (xs : List Pin). ChangesAt pins xs pin.host pin.vm (Some pin.entry)) (sym c.in-Ok.ensures.items) (put_new pin pins at c.requires.ordered place absent)
