use Rattle.std.proofs.Common.{◌≡◌, ◌<◌, ap, subst, length, arith}
use Rattle.and_events.specs.declared.plan.Plan.{Plan}
use Rattle.and_events.specs.Sound.{IsSound}
use Rattle.and_events.specs.State.{State}
use Rattle.and_book.specs.Views.{now}
use Rattle.and_replay.proofs.Adding.{plan_after}
use Rattle.and_replay.proofs.Turning.{same_now, with_room, turned, bounded}
use Rattle.and_replay.proofs.run.turn.Goals as goal

pub returns-clause-way : goal.returns-clause-way
returns-clause-way g c =
    let b = c.args.book.now in
    let b' = c.room.new.self in
    let new = c.act.new.book in
    let room = c.in_ok-room.ensures in
    let adds = c.in_ok-act.ensures.adds in
    let way = with_room b b' c.args.parts.now room.lines room.plan room.threads c.requires.way in
    let next : (now b').next ≡ (now b).next = ap (λ (s : State). s.next) (same_now b b' room.lines room.plan) in
    let due : (now b').next < length b'.plan.steps = omega (arith, c.requires.due, next, ap (λ (p : Plan). length p.steps) room.plan) in
    turned b' new c.args.parts.now c.act.new.parts c.first_enabled-actor.result
    (subst IsSound (plan_after b' new 0 adds.event adds.line) c.is_run.ensures.sound) c.is_run.ensures.run way due
    c.first_enabled-actor.ensures.enabled c.first_enabled-actor.ensures.first adds c.in_ok-act.ensures.parts

pub returns-clause-bounded : goal.returns-clause-bounded
returns-clause-bounded g c = bounded c.act.new.book c.is_run.ensures.run
