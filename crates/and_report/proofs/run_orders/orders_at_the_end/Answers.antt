use Rattle.std.proofs.Common.{◌≡◌, ℕ, ◌+◌, ◌*◌, true, List, length, sym, ap, ap₂, ◌∙◌, arith}
use Rattle.std.specs.List.{sum}
use Rattle.and_events.specs.declared.event.Event.{Event}
use Rattle.and_events.specs.declared.plan.Plan.{Plan}
use Rattle.and_events.specs.Places.{node_count}
use Rattle.and_events.specs.Run.{Run, past}
use Rattle.and_events.specs.Sound.{IsSound}
use Rattle.and_events.specs.State.{state}
use Rattle.and_report.specs.Installed.{has_ended}
use Rattle.and_report.specs.Tally.{orders_among}
use Rattle.and_report.proofs.RunOrders.{ended_orders, installed_len, settings_small}
use Rattle.and_report.proofs.run_orders.orders_at_the_end.Goals as goal

-- the operations that are installed are the orders, and the log's entries once a node
told : (plan : Plan) (h : List Event) (installed : List ℕ) (operations nodes entries : ℕ) → IsSound plan → Run plan h → has_ended h ≡ true
    → installed ≡ (state plan h).programmes.installed → operations ≡ sum installed → nodes ≡ node_count plan.settings → entries ≡ length plan.log
    → operations ≡ orders_among (state plan h).programmes.ops + nodes * entries
told plan h installed operations nodes entries sound r ended is sums counts long =
    sums ∙ ap sum is ∙ ended_orders plan h sound r ended ∙ ap₂ (λ n e. orders_among (state plan h).programmes.ops + n * e) (sym counts) (sym long)

pub sum_of-operations-requires : goal.sum_of-operations-requires
sum_of-operations-requires c =
    let plan = c.args.plan.now in
    let small = settings_small plan c.requires.sound in
    omega (arith, ap (length {A = ℕ}) (c.deref.ensures.value ∙ c.in_ok-installed.ensures), installed_len plan (past c.args.lines.now), small.hosts, small.gateways)

pub overflow_mul-entries : goal.overflow_mul-entries
overflow_mul-entries c =
    let is = told c.args.plan.now (past c.args.lines.now) c.deref.result.now c.sum_of-operations.result c.node_count.result c.len.result c.requires.sound c.requires.run c.requires.ended
    (c.deref.ensures.value ∙ c.in_ok-installed.ensures) c.sum_of-operations.ensures c.node_count.ensures c.len.ensures in
    omega (arith, is, c.sum_of-operations.type_inv)

pub overflow_sub-result : goal.overflow_sub-result
overflow_sub-result c =
    let is = told c.args.plan.now (past c.args.lines.now) c.deref.result.now c.sum_of-operations.result c.node_count.result c.len.result c.requires.sound c.requires.run c.requires.ended
    (c.deref.ensures.value ∙ c.in_ok-installed.ensures) c.sum_of-operations.ensures c.node_count.ensures c.len.ensures in
    omega (arith, is)

pub returns : goal.returns
returns c =
    let is = told c.args.plan.now (past c.args.lines.now) c.deref.result.now c.sum_of-operations.result c.node_count.result c.len.result c.requires.sound c.requires.run c.requires.ended
    (c.deref.ensures.value ∙ c.in_ok-installed.ensures) c.sum_of-operations.ensures c.node_count.ensures c.len.ensures in
    omega (arith, is)
