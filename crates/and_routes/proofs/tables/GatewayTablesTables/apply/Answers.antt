use Rattle.std.proofs.Common.{◌≡◌, ◌<◌, ◌+◌, ◌∷◌, [], ◌++◌, ◌∙◌, List, length, length-append, ap, arith, sym, subst}
use Rattle.and_policy.specs.declared.entry.Op.{Op}
use Rattle.and_policy.proofs.Logging.{log-before}
use Rattle.and_routes.proofs.tables.GatewayTablesTables.apply.Goals as goal

pub invariant_of-self-in_err-note_routes : goal.invariant_of-self-in_err-note_routes
invariant_of-self-in_err-note_routes c = record {
  short = rw c.reserve.ensures.items c.self.invariant.short;
  register = rw c.reserve.ensures.items (λ log. c.room.ensures.kept _ (c.self.invariant.register log));
  prefixes = rw c.reserve.ensures.items (λ log. c.in_err-note_routes.ensures.err _ (c.self.invariant.prefixes log));
}

pub invariant_of-self-2 : goal.invariant_of-self-2
invariant_of-self-2 c =
    let p : List Op = c.self.inside.ops.items in
    let ends : c.push_reserved.new.self.items ≡ c.self.inside.ops.items ++ c.args.op ∷ [] = c.push_reserved.ensures.items ∙ ap (λ (x : List Op). x ++ c.args.op ∷ []) c.reserve.ensures.items in
    let long : length (c.self.inside.ops.items ++ c.args.op ∷ []) ≡ length c.self.inside.ops.items + 1 = length-append c.self.inside.ops.items (c.args.op ∷ []) in
    let room : length c.self.inside.ops.items < 4294967295 = subst (λ (x : List Op). length x < 4294967295) (sym c.self.view_is) c.requires in
    record {
      short = rw (ends, long) (omega arith);
      register = rw ends (λ log. c.note.ensures p log (c.room.ensures.kept _ (c.self.invariant.register (log-before p c.args.op log))));
      prefixes = rw ends (λ log. c.in_ok-note_routes.ensures.ok p log (c.self.invariant.prefixes (log-before p c.args.op log)));
    }
