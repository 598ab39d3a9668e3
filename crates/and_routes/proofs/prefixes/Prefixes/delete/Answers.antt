use Rattle.std.proofs.Common.{◌∙◌, [], ap, refl, sym, unwrap_or}
use Rattle.and_routes.proofs.Bucketing.{prefixes-less, prefixes-as, known}
use Rattle.and_routes.proofs.prefixes.Prefixes.delete.Goals as goal

pub returns-in-Some-clause-ok : goal.returns-in-Some-clause-ok
returns-in-Some-clause-ok c = λ k fit is.
    prefixes-less (record { buckets = c.reserve.new.self; prefixes = c.args.self.now.prefixes }) c.delete_at.new.buckets c.remove.new.self k c.args.net c.args.number c.high.result c.in-Some.prefix
    (sym c.remove.ensures.value ∙ c.in-Some.is) c.high.ensures
    (prefixes-as c.args.self.now (record { buckets = c.reserve.new.self; prefixes = c.args.self.now.prefixes }) k (λ q. ap (λ o. unwrap_or o []) (c.reserve.ensures.entries.2 q)) (λ q. refl) is)
    c.delete_at.ensures c.remove.ensures.updates.0

pub returns-in-None-clause-ok : goal.returns-in-None-clause-ok
returns-in-None-clause-ok c = λ k fit is. absurd (known c.args.self.now k c.args.net c.args.number fit is (sym c.remove.ensures.value ∙ c.in-None.is))
