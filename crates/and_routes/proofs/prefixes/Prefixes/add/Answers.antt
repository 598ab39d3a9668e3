use Rattle.std.proofs.Common.{◌∙◌, ap, cond, Some}
use Rattle.and_policy.specs.Registers.{pair_eq}
use Rattle.and_routes.proofs.Bucketing.{prefixes-more, prefixes-as}
use Rattle.and_routes.proofs.Cases.{at_err}
use Rattle.and_routes.proofs.prefixes.Prefixes.add.Goals as goal

pub returns-clause-ok : goal.returns-clause-ok
returns-clause-ok c = λ k fit is.
    prefixes-more c.args.self.now c.add_at.new.buckets c.put.new.map k c.args.net c.high.result c.args.route c.high.ensures fit is c.in_ok-add_at.ensures.ok
    (λ q. c.put.ensures.0 q ∙ ap (λ o. cond (pair_eq (c.args.net, c.args.route.number) q) (Some c.args.route.prefix) o) (c.reserve.ensures.entries.2 q))

pub returns-in_err-add_at-clause-err : goal.returns-in_err-add_at-clause-err
returns-in_err-add_at-clause-err c =
    at_err c.from_residual-in_err-add_at.result _
    (λ k is. prefixes-as c.args.self.now (record { buckets = c.add_at.new.buckets; prefixes = c.reserve.new.self }) k c.in_err-add_at.ensures.err c.reserve.ensures.entries.2 is)
