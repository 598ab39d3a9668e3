-- At the end of a complete run nothing is left to do.
use Rattle.std.proofs.Common.{ℕ, List, ◌∷◌, sym, subst, ◌∙◌}
use Rattle.and_events.specs.declared.event.Event.{Event}
use Rattle.and_events.specs.declared.event.Event.TheVariants.{Finish}
use Rattle.and_events.specs.declared.plan.Step.TheVariants as steps
use Rattle.and_events.specs.declared.plan.Plan.{Plan}
use Rattle.and_events.specs.Complete.{IsComplete}
use Rattle.and_events.specs.Flow.{flow_after}
use Rattle.and_events.specs.Legal.{Legal, IsOver}
use Rattle.and_events.specs.Ports.{ports_after}
use Rattle.and_events.specs.Programming.{programmes_after}
use Rattle.and_events.specs.Run.{Run}
use Rattle.and_events.specs.Sound.{IsSound}
use Rattle.and_events.specs.State.{state, after, move_of, word_of, ports_move_of}
use Rattle.and_laws.specs.Ends.{IsAllDone}
use Rattle.and_laws.proofs.Following.{follows}
use Rattle.and_laws.proofs.Steps.{does}

done_by_finish : (plan : Plan) (h : List Event) → (n : ℕ) → IsSound plan → Run plan (Finish n ∷ h) → IsAllDone plan (Finish n ∷ h)
unfolding Run Legal state after move_of word_of ports_move_of flow_after programmes_after ports_after
done_by_finish plan h n sound r =
    let over : IsOver plan (state plan h) = r.1.2 in
    record {
      over = record { queues = over.queues; hands = over.hands; installed = over.installed; hairpins = over.hairpins };
      log = (follows plan h sound r.0).log ∙ (does plan h n steps.Finish sound r.1.0 r.1.1).fits.log;
    }

pub all_done : (plan : Plan) (h : List Event) → IsSound plan → Run plan h → IsComplete plan h → IsAllDone plan h
all_done plan h sound r (n, earlier, is, all) =
    subst (λ h. Run plan h → IsAllDone plan h) (sym is) (done_by_finish plan earlier n sound) r
