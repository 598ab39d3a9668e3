use Rattle.std.proofs.Common.{ℕ, ap, subst}
use Rattle.std.specs.Prelude.{◌↔◌, IsTrue}
use Rattle.and_events.specs.declared.plan.Settings.{Settings}
use Rattle.and_book.specs.Enabling.{IsKnownAt, home_of}
use Rattle.and_book.proofs.enabling.may_inject.Goals as goal

pub returns : goal.returns
returns c =
    let x = c.args.parts.now in
    let p = x.progress.now.programmes in
    let b = c.is_known_at.result in
    let hosts = ap (λ (s : Settings). s.hosts) c.settings.ensures.is in
    subst (λ (v : ℕ). IsTrue b ↔ IsKnownAt p x.traffic.now.settings.hosts (home_of p v) v) c.vm_of-vm.ensures
    (subst (λ (h : ℕ). IsTrue b ↔ IsKnownAt p x.traffic.now.settings.hosts h c.vm_of-vm.result) c.home_of-home.ensures
    (subst (λ (n : ℕ). IsTrue b ↔ IsKnownAt p n c.home_of-home.result c.vm_of-vm.result) hosts c.is_known_at.ensures))
