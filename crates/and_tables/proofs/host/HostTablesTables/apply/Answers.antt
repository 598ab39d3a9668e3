use Rattle.std.proofs.Common.{arith, length, sym, subst, ap, [], ◌∷◌, ◌++◌, ◌≡◌, ◌∙◌, ◌≤◌, ◌<◌, ◌+◌, ℕ, List, None, unwrap_or, length-append, refl}
use Rattle.and_policy.specs.declared.entry.Op.{Op}
use Rattle.and_policy.specs.Fitting.{IsLog}
use Rattle.and_policy.specs.Programmes.{entries, net_of_vm}
use Rattle.and_policy.proofs.Logging.{log-before}
use Rattle.and_tables.specs.HostViews.{HostView}
use Rattle.and_tables.specs.Numbers.{at, at_pair}
use Rattle.and_tables.specs.Steps.{named, ticks_of}
use Rattle.and_tables.proofs.Applied.{keeps_as}
use Rattle.and_tables.proofs.Keeping.{kept_as, same_index}
use Rattle.and_tables.proofs.Stepping.{kept_keeps, kept_knows, ticks_few}
use Rattle.and_tables.proofs.host.HostTablesTables.apply.Goals as goal

pub invariant_of-self-in_err-room : goal.invariant_of-self-in_err-room
invariant_of-self-in_err-room c =
    kept_as c.self.inside _ refl refl c.reserve.ensures.items (same_index c.self.inside.index) c.room.ensures.kept (λ k is. is) c.self.invariant

pub invariant_of-self-in_err-room-2 : goal.invariant_of-self-in_err-room-2
invariant_of-self-in_err-room-2 c =
    kept_as c.self.inside _ refl refl c.reserve.ensures.items c.room-2.ensures.same c.room.ensures.kept (λ k is. is) c.self.invariant

pub invariant_of-self-in_err-note_rules : goal.invariant_of-self-in_err-note_rules
invariant_of-self-in_err-note_rules c =
    kept_as c.self.inside _ refl refl c.reserve.ensures.items c.room-2.ensures.same c.room.ensures.kept c.in_err-note_rules.ensures.err c.self.invariant

pub invariant_of-self-2 : goal.invariant_of-self-2
invariant_of-self-2 c =
    let p : List Op = c.self.inside.ops.items in
    let ends : c.push_reserved.new.self.items ≡ c.self.inside.ops.items ++ c.args.op ∷ [] = c.push_reserved.ensures.items ∙ ap (λ (x : List Op). x ++ c.args.op ∷ []) c.reserve.ensures.items in
    let one : ticks_of c.args.op ≤ 1 = ticks_few c.args.op in
    let long : length (c.self.inside.ops.items ++ c.args.op ∷ []) ≡ length c.self.inside.ops.items + 1 = length-append c.self.inside.ops.items (c.args.op ∷ []) in
    let few : c.self.inside.ticks ≤ length c.self.inside.ops.items = c.self.invariant.few in
    let room : length c.self.inside.ops.items < 4294967295 = subst (λ (v : HostView). length v.ops < 4294967295) (sym c.self.view_is) c.requires in
    let ticks : c.self.inside.ticks + c.ticks_of.result ≡ c.self.inside.ticks + ticks_of c.args.op = ap (λ (n : ℕ). c.self.inside.ticks + n) c.ticks_of.ensures in
    let here : c.len.result + 1 ≡ length c.self.inside.ops.items + 1 = omega (arith, c.len.ensures, c.reserve.ensures.len, c.self.inside.ops.ok) in
    let y = c.room-2.new.self in
    let now : ℕ = c.self.inside.ticks + c.ticks_of.result in
    let given : c.deref.result.now ≡ p = c.deref.ensures.value ∙ c.reserve.ensures.items in
    let name_is : IsLog None (entries c.self.inside.ops.items) → c.named-name.result ≡ named (net_of_vm (entries c.self.inside.ops.items)) c.args.op =
    λ log. c.named-name.ensures (entries c.self.inside.ops.items) (c.room.ensures.kept (entries c.self.inside.ops.items) (c.self.invariant.register log)) in
    record {
      gated = c.self.invariant.gated;
      short = rw (ends, long) (omega arith);
      few = rw (ends, long, c.ticks_of.ensures) (omega arith);
      keeps = rw ends (kept_keeps p c.args.op c.self.inside.ticks now (c.len.result + 1) c.named-name.result
          (at c.self.inside.index.entered) (at y.entered) (at c.apply.new.self.entered)
          (at_pair c.self.inside.index.ordered) (at_pair y.ordered) (at_pair c.apply.new.self.ordered)
          (at c.self.inside.index.touched) (at y.touched) (at c.apply.new.self.touched)
          c.self.invariant.keeps ticks here name_is
          (λ net. ap (λ o. unwrap_or o 0) (c.room-2.ensures.same.entered net)) (λ net ip. ap (λ o. unwrap_or o 0) (c.room-2.ensures.same.ordered (net, ip)))
          c.apply.ensures.entered c.apply.ensures.ordered);
      chained = rw (ends, ← given) c.apply.ensures.chained;
      knows = rw ends (kept_knows p c.args.op c.self.inside.ticks now (c.len.result + 1) c.named-name.result
          (at y.entered) (at y.entered) (at c.apply.new.self.entered)
          (at_pair y.ordered) (at_pair y.ordered) (at_pair c.apply.new.self.ordered)
          (at c.self.inside.index.touched) (at y.touched) (at c.apply.new.self.touched)
          (keeps_as p c.self.inside.ticks (at c.self.inside.index.entered) (at y.entered) (at_pair c.self.inside.index.ordered) (at_pair y.ordered)
          (λ net. ap (λ o. unwrap_or o 0) (c.room-2.ensures.same.entered net)) (λ net ip. ap (λ o. unwrap_or o 0) (c.room-2.ensures.same.ordered (net, ip))) c.self.invariant.keeps)
          c.self.invariant.knows ticks here name_is
          (λ net. ap (λ o. unwrap_or o 0) (c.room-2.ensures.same.touched net))
          (λ net. rw (← given) (c.apply.ensures.touched net)));
      register = rw ends (λ log. c.note.ensures p log (c.room.ensures.kept _ (c.self.invariant.register (log-before p c.args.op log))));
      rules = rw ends (λ log. c.in_ok-note_rules.ensures.ok p log (c.self.invariant.rules (log-before p c.args.op log)));
    }
