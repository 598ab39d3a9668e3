use Rattle.std.proofs.Common.{◌≡◌, ◌∙◌, length, refl, sym}
use Rattle.and_events.specs.declared.event.Event.TheVariants.{Announce}
use Rattle.and_events.specs.declared.event.Node.TheVariants.{Host}
use Rattle.and_events.specs.Legal.{CanAnnounce}
use Rattle.and_events.specs.State.{programme_of}
use Rattle.and_book.specs.Views.{now, with_line}
use Rattle.actor_rows.proofs.Waits.{at_some, can_install, room_left, waits_announced, waits_installed, waits_still}
use Rattle.actor_rows.proofs.driving.install.Goals as goal

pub end-requires-clause-ready : goal.end-requires-clause-ready
end-requires-clause-ready c =
    let old = c.room.new.self in
    let upto = length (programme_of old.plan (now old) (Host 0)) in
    let waits = waits_still c.args.book.now old c.requires c.room.ensures.lines c.room.ensures.plan c.room.ensures.threads in
    can_install old c.begin.new.book upto waits c.is_run.ensures.sound c.is_run-then-is_some.ensures.run
    (at_some c.in_ok-begin.field-0 (c.begin.new.book ≡ with_line old 0 (Announce (Host 0) upto)) (sym c.is_some.ensures ∙ c.if-is_some.true) c.in_ok-begin.ensures.announced) refl
    (at_some c.in_ok-begin.field-0 (CanAnnounce old.plan (now old) (Host 0)) (sym c.is_some.ensures ∙ c.if-is_some.true) c.in_ok-begin.ensures.may)

pub end-requires-clause-room : goal.end-requires-clause-room
end-requires-clause-room c =
    let old = c.room.new.self in
    let upto = length (programme_of old.plan (now old) (Host 0)) in
    room_left old c.begin.new.book upto
    (at_some c.in_ok-begin.field-0 (c.begin.new.book ≡ with_line old 0 (Announce (Host 0) upto)) (sym c.is_some.ensures ∙ c.if-is_some.true) c.in_ok-begin.ensures.announced) c.in_ok-room.ensures.room

pub returns-then-is_some : goal.returns-then-is_some
returns-then-is_some c =
    let old = c.room.new.self in
    let upto = length (programme_of old.plan (now old) (Host 0)) in
    let waits = waits_still c.args.book.now old c.requires c.room.ensures.lines c.room.ensures.plan c.room.ensures.threads in
    let then = waits_announced old c.begin.new.book upto waits c.is_run.ensures.sound c.is_run-then-is_some.ensures.run
    (at_some c.in_ok-begin.field-0 (c.begin.new.book ≡ with_line old 0 (Announce (Host 0) upto)) (sym c.is_some.ensures ∙ c.if-is_some.true) c.in_ok-begin.ensures.announced) in
    waits_installed c.begin.new.book c.end.new.book c.announced-at.result then c.is_run-then-is_some.ensures.sound c.is_run-then-is_some-2.ensures.run c.end.ensures
