use Rattle.std.proofs.Common.{arith}
use Rattle.and_book.specs.Views.{now}
use Rattle.and_replay.proofs.Installing.{may_announce}
use Rattle.and_replay.proofs.acting.install.Goals as goal

pub announce-requires-clause-may : goal.announce-requires-clause-may
announce-requires-clause-may g c =
    let b = c.args.book.now in
    may_announce b.plan (now b) c.args.node c.requires.next.enabled (λ l. omega (arith, l, c.if-installed-announced.false, c.installed.ensures, c.announced.ensures))
