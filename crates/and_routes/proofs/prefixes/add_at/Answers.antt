use Rattle.std.proofs.Common.{◌∙◌, [], ap, cond, None, unwrap_or}
use Rattle.and_routes.specs.Buckets.{key_eq}
use Rattle.and_routes.proofs.Bucketing.{restored, rewritten}
use Rattle.and_routes.proofs.Cases.{on_err}
use Rattle.and_routes.proofs.prefixes.add_at.Goals as goal

pub returns-clause-err : goal.returns-clause-err
returns-clause-err c =
    on_err c.add-added.result _ _
    (λ same. restored c.args.buckets.now c.put.new.map c.args.key.0.0 c.args.key.0.1 c.args.key.1 c.add-added.new.self
    (rewritten c.args.buckets.now c.remove.new.self c.put.new.map c.args.key c.add-added.new.self
    (λ q. c.remove.ensures.updates.0 q ∙ ap (λ o. cond (key_eq c.args.key q) None o) (c.reserve.ensures.entries.2 q)) c.put.ensures.0)
    (same ∙ c.unwrap_or-bucket.ensures ∙ ap (λ d. unwrap_or c.remove.result d) c.new.ensures ∙ ap (λ o. unwrap_or o []) (c.remove.ensures.value ∙ c.reserve.ensures.entries.2 c.args.key)))
    c.add-added.ensures.err
