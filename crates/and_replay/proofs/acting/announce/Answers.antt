use Rattle.and_events.specs.Places.{installer_of}
use Rattle.and_replay.proofs.Installing.{Announced, announce_all}
use Rattle.and_replay.proofs.Working.{seat_is}
use Rattle.and_replay.proofs.acting.announce.Goals as goal

pub begin-requires-clause-seat : goal.begin-requires-clause-seat
begin-requires-clause-seat c = let b = c.args.book.now in seat_is b.threads b.plan.settings (installer_of c.args.node) c.requires.next.threads

pub returns : goal.returns
returns c =
    let b = c.args.book.now in
    let e = c.in_ok-found.ensures in
    let all : Announced b c.begin.new.book c.args.node c.in_ok-found.found =
    announce_all b c.begin.new.book c.args.node c.in_ok-found.found c.is_run.ensures.sound c.is_run-2.ensures.run c.requires.node c.requires.may e.batch e.announced e.none in
    record { adds = all.adds; ops = all.ops; batch = all.batch }
