use Rattle.std.proofs.Common.{◌≡◌, ◌∙◌, sym, ap, subst}
use Rattle.std.specs.Prelude.{◌↔◌, IsTrue}
use Rattle.and_events.specs.declared.plan.Settings.{Settings}
use Rattle.and_events.specs.Flow.{Flow}
use Rattle.and_events.specs.Places.{IsActor, hand_place}
use Rattle.and_kept.specs.Busy.{is_busy}
use Rattle.and_kept.specs.Lanes.{Roads}
use Rattle.and_kept.specs.Moves.{IsBusy}
use Rattle.and_kept.proofs.BusyActors.{busy_is}
use Rattle.and_kept.proofs.traffic.Traffic.is_busy.Goals as goal

pub returns : goal.returns
returns c =
    let h = c.self.inside.hall in
    let a = c.args.actor in
    let f : Flow = record { queues = h.queues; hands = h.hands; carried = c.self.inside.carried.items } in
    let actor : IsActor h.settings a = subst (λ (r : Roads). IsActor r.settings a) (sym c.self.view_is) c.requires.actor in
    let same = busy_is h.settings f h.held a actor c.requires.handles in
    let is : c.is_busy.result ≡ is_busy h.settings h.queues h.hands h.held (hand_place h.settings a) =
    c.is_busy.ensures
    ∙ ap (is_busy h.settings h.queues h.hands h.held) (c.hand_place.ensures.place ∙ ap (λ (v : Settings). hand_place v a) c.settings.ensures.is) in
    subst (λ (r : Roads). IsTrue c.is_busy.result ↔ IsBusy r.settings r.flow r.held a) c.self.view_is
    ((λ t. same.0 (sym is ∙ t)), (λ w. is ∙ same.1 w))
