use Rattle.std.proofs.Common.{◌≡◌, ◌<◌, ◌∙◌, Some, None, ap, sym, subst}
use Rattle.std.specs.List.{All}
use Rattle.and_policy.specs.declared.entry.Entry.TheVariants.{Place}
use Rattle.and_policy.specs.Fitting.{fits}
use Rattle.and_policy.specs.LogView.{LogView}
use Rattle.and_events.specs.declared.plan.Item.TheVariants.{Resume}
use Rattle.and_events.specs.Script.{Script, item_fault}
use Rattle.and_planner.specs.Standing.{Standing}
use Rattle.and_planner.proofs.Applying.{resume_fits, ends_within}
use Rattle.and_planner.proofs.state.ScriptState.resume.Goals as goal

pub append-requires : goal.append-requires
append-requires c =
    let p : Script = record { log = c.self.inside.log.entries; moving = c.self.inside.moves; holds = c.self.inside.holds } in
    let fit : item_fault c.self.inside.settings p (Resume c.args.vm) ≡ None = subst (λ (s : Standing). item_fault s.settings s.script (Resume c.args.vm) ≡ None) (sym c.self.view_is) c.requires in
    record {
      fits = subst (λ n. fits (Some n) c.self.inside.log.entries (Place c.args.vm c.target-host.result) ≡ None) (sym c.self.invariant.0)
          (resume_fits c.self.inside.settings p c.args.vm c.target-host.result fit c.self.invariant.1 c.target-host.ensures);
    }

pub invariant_of-self-2 : goal.invariant_of-self-2
invariant_of-self-2 c = (
  ap (λ (l : LogView). l.hosts) c.in_ok-append.ensures.ok ∙ c.self.invariant.0,
  subst (All (λ m. m.to < c.self.inside.settings.hosts)) (sym c.end.ensures) (ends_within c.self.inside.settings.hosts c.args.vm c.self.inside.moves c.self.invariant.1),
)
