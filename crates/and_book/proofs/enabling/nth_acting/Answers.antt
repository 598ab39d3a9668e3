use Rattle.std.proofs.Common.{◌≡◌, ◌+◌, ◌-◌, ◌∙◌, sym, ap, subst, true, arith}
use Rattle.and_events.specs.declared.plan.Settings.{Settings}
use Rattle.and_events.specs.Places.{node_count, hand_count, actor_count}
use Rattle.and_events.specs.State.{NodeHolds}
use Rattle.and_kept.specs.Nodes.{is_ready}
use Rattle.and_kept.specs.Numbers.{count_below}
use Rattle.and_book.specs.Enabling.{acts_at}
use Rattle.and_book.proofs.Numbered.{at_node, at_hand, at_controller, at_driver, at_most_one, counts_one, is_counted, nodes_counted, hands_counted, others_counted, all_counted}
use Rattle.and_book.proofs.enabling.nth_acting.Goals as goal

pub returns-then-k-ready-clause-acts : goal.returns-then-k-ready-clause-acts
returns-then-k-ready-clause-acts c =
    let t = c.args.traffic.now in
    let p = c.args.progress.now in
    let m : NodeHolds = record { install = p.held; forward = t.held } in
    at_node t.settings p.programmes m t.flow c.args.controller c.args.driver c.nth_ready.result (omega (arith, c.nth_ready.ensures.there, c.requires.nodes)) ∙ c.nth_ready.ensures.ready

pub returns-then-k-ready-clause-rank : goal.returns-then-k-ready-clause-rank
returns-then-k-ready-clause-rank c =
    let t = c.args.traffic.now in
    let p = c.args.progress.now in
    let m : NodeHolds = record { install = p.held; forward = t.held } in
    nodes_counted t.settings p.programmes m t.flow c.args.controller c.args.driver c.nth_ready.result (omega (arith, c.nth_ready.ensures.there, c.requires.nodes)) ∙ c.nth_ready.ensures.rank

pub returns-then-k-ready-2-clause-acts : goal.returns-then-k-ready-2-clause-acts
returns-then-k-ready-2-clause-acts c =
    let t = c.args.traffic.now in
    let p = c.args.progress.now in
    let m : NodeHolds = record { install = p.held; forward = t.held } in
    let hand = c.nth_busy.result in
    subst (λ n. acts_at t.settings p.programmes m t.flow c.args.controller c.args.driver (n + hand) ≡ true) (sym (c.count_nodes.ensures ∙ ap (λ (s : Settings). node_count s) c.settings-settings.ensures.is))
    (at_hand t.settings p.programmes m t.flow c.args.controller c.args.driver hand c.nth_busy.ensures.there ∙ c.nth_busy.ensures.busy)

pub returns-then-k-ready-2-clause-rank : goal.returns-then-k-ready-2-clause-rank
returns-then-k-ready-2-clause-rank c =
    let t = c.args.traffic.now in
    let p = c.args.progress.now in
    let m : NodeHolds = record { install = p.held; forward = t.held } in
    let hand = c.nth_busy.result in
    let ready = c.ready_count-ready.ensures.is ∙ ap (count_below (is_ready p.programmes p.held)) c.requires.nodes in
    subst (λ n. count_below (acts_at t.settings p.programmes m t.flow c.args.controller c.args.driver) (n + hand) ≡ c.args.k) (sym (c.count_nodes.ensures ∙ ap (λ (s : Settings). node_count s) c.settings-settings.ensures.is))
    (omega (arith, hands_counted t.settings p.programmes m t.flow c.args.controller c.args.driver hand (omega (arith, c.nth_busy.ensures.there)), c.nth_busy.ensures.rank, ready, c.if-k-ready.false))

pub returns-then-k-others-clause-acts : goal.returns-then-k-others-clause-acts
returns-then-k-others-clause-acts c =
    let t = c.args.traffic.now in
    let p = c.args.progress.now in
    let m : NodeHolds = record { install = p.held; forward = t.held } in
    let last : c.actor_count.result - 2 ≡ node_count t.settings + hand_count t.settings = omega (arith, c.actor_count.ensures, ap (λ (s : Settings). actor_count s) c.settings-settings.ensures.is) in
    let ends = is_counted c.args.controller (omega (arith, c.from.ensures ∙ counts_one c.args.controller, c.busy_count.ensures.is, c.busy_count-2.ensures.is, c.if-k-ready.false, c.if-k-ready-2.false, c.if-k-others.true)) in
    subst (λ n. acts_at t.settings p.programmes m t.flow c.args.controller c.args.driver n ≡ true) (sym last) (at_controller t.settings p.programmes m t.flow c.args.controller c.args.driver ∙ ends)

pub returns-then-k-others-clause-rank : goal.returns-then-k-others-clause-rank
returns-then-k-others-clause-rank c =
    let t = c.args.traffic.now in
    let p = c.args.progress.now in
    let m : NodeHolds = record { install = p.held; forward = t.held } in
    let ready = c.ready_count-ready.ensures.is ∙ ap (count_below (is_ready p.programmes p.held)) c.requires.nodes in
    let last : c.actor_count.result - 2 ≡ node_count t.settings + hand_count t.settings = omega (arith, c.actor_count.ensures, ap (λ (s : Settings). actor_count s) c.settings-settings.ensures.is) in
    subst (λ n. count_below (acts_at t.settings p.programmes m t.flow c.args.controller c.args.driver) n ≡ c.args.k) (sym last)
    (omega (
      arith,
      hands_counted t.settings p.programmes m t.flow c.args.controller c.args.driver (hand_count t.settings) (omega arith),
      at_most_one c.args.controller,
      c.from.ensures ∙ counts_one c.args.controller,
      ready,
      c.busy_count.ensures.is,
      c.busy_count-2.ensures.is,
      c.if-k-ready.false,
      c.if-k-ready-2.false,
      c.if-k-others.true,
    ))

pub returns-clause-acts : goal.returns-clause-acts
returns-clause-acts c =
    let t = c.args.traffic.now in
    let p = c.args.progress.now in
    let m : NodeHolds = record { install = p.held; forward = t.held } in
    let ready = c.ready_count-ready.ensures.is ∙ ap (count_below (is_ready p.programmes p.held)) c.requires.nodes in
    let last : c.actor_count-2.result - 1 ≡ node_count t.settings + hand_count t.settings + 1 = omega (arith, c.actor_count-2.ensures, ap (λ (s : Settings). actor_count s) c.settings-settings.ensures.is) in
    let controls = c.from.ensures ∙ counts_one c.args.controller in
    let drives = is_counted c.args.driver (omega (arith, all_counted t.settings p.programmes m t.flow c.args.controller c.args.driver, controls, c.requires.few, ready, c.busy_count-2.ensures.is, c.if-k-others.false)) in
    subst (λ n. acts_at t.settings p.programmes m t.flow c.args.controller c.args.driver n ≡ true) (sym last) (at_driver t.settings p.programmes m t.flow c.args.controller c.args.driver ∙ drives)

pub returns-clause-rank : goal.returns-clause-rank
returns-clause-rank c =
    let t = c.args.traffic.now in
    let p = c.args.progress.now in
    let m : NodeHolds = record { install = p.held; forward = t.held } in
    let ready = c.ready_count-ready.ensures.is ∙ ap (count_below (is_ready p.programmes p.held)) c.requires.nodes in
    let last : c.actor_count-2.result - 1 ≡ node_count t.settings + hand_count t.settings + 1 = omega (arith, c.actor_count-2.ensures, ap (λ (s : Settings). actor_count s) c.settings-settings.ensures.is) in
    let controls = c.from.ensures ∙ counts_one c.args.controller in
    subst (λ n. count_below (acts_at t.settings p.programmes m t.flow c.args.controller c.args.driver) n ≡ c.args.k) (sym last)
    (omega (
      arith,
      others_counted t.settings p.programmes m t.flow c.args.controller c.args.driver,
      all_counted t.settings p.programmes m t.flow c.args.controller c.args.driver,
      at_most_one c.args.driver,
      controls,
      c.requires.few,
      ready,
      c.busy_count-2.ensures.is,
      c.if-k-others.false,
    ))
