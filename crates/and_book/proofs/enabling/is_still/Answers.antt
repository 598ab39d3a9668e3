use Rattle.and_book.proofs.Resting.{still_by}
use Rattle.and_book.proofs.enabling.is_still.Goals as goal

pub returns : goal.returns
returns c =
    let t = c.args.traffic.now in
    let p = c.args.progress.now in
    still_by t.settings p.programmes (record { install = p.held; forward = t.held }) t.flow c.ready_count.result c.busy_count.result c.ready_count.ensures.is c.busy_count.ensures.is
