use Rattle.std.proofs.Common.{◌∙◌, ap}
use Rattle.std.specs.BTreeMap.{insert_entry}
use Rattle.and_report.specs.Keys.{pair_cmp, pair_of}
use Rattle.and_report.proofs.KeyLemmas.{tallied_next}
use Rattle.and_report.proofs.keyed.add_key.Goals as goal

pub returns-in-Ok : goal.returns-in-Ok
returns-in-Ok c = λ ks is.
    c.in-Ok.ensures.entries ∙ ap (insert_entry pair_cmp c.args.drops.now.entries (pair_of c.args.key)) c.in_ok-more.ensures
    ∙ tallied_next c.args.key ks c.args.drops.now.entries c.count_at-count.result is c.insert.ensures.was_ordered c.count_at-count.ensures
