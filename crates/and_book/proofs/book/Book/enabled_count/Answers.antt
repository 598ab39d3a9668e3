use Rattle.std.proofs.Common.{◌≡◌, ◌∙◌, Bool, List, length, subst}
use Rattle.std.specs.Prelude.{◌↔◌, IsTrue}
use Rattle.and_events.specs.declared.event.Actor.{Actor}
use Rattle.and_events.specs.declared.event.Actor.TheVariants.{Controller, Driver}
use Rattle.and_events.specs.declared.event.Event.{Event}
use Rattle.and_events.specs.declared.plan.Plan.{Plan}
use Rattle.and_events.specs.Legal.{Enabled}
use Rattle.and_events.specs.Run.{past}
use Rattle.and_events.specs.State.{state}
use Rattle.and_book.specs.Inside.{Kept, kept_of}
use Rattle.and_book.specs.Views.{AreEnabled, BookView, now}
use Rattle.and_book.proofs.More.{seen}
use Rattle.and_book.proofs.Due.{counted_as_kept, pins_as_kept}
use Rattle.and_book.proofs.Listing.{count_listed}
use Rattle.and_book.proofs.book.Book.enabled_count.Goals as goal

pub returns : goal.returns
returns c =
    let x = c.self.inside in
    let plan : Plan = x.plan in
    let h : List Event = past x.lines.items in
    let k : Kept = kept_of x in
    let inv = c.self.invariant.keeps in
    let are = pins_as_kept plan h inv.sound inv.run k inv.stands inv.pins.standing in
    let controller : Bool = c.enabled-controller.result in
    let driver : Bool = c.enabled-driver.result in
    let unpins : IsTrue controller ↔ Enabled plan (state plan h) Controller = seen x c.args.self.now c.self.view_is (λ (b : BookView). IsTrue controller ↔ Enabled b.plan (now b) Controller) c.enabled-controller.ensures in
    let drives : IsTrue driver ↔ Enabled plan (state plan h) Driver = seen x c.args.self.now c.self.view_is (λ (b : BookView). IsTrue driver ↔ Enabled b.plan (now b) Driver) c.enabled-driver.ensures in
    subst (λ (b : BookView). (actors : List Actor) × AreEnabled b.plan (now b) actors × (c.count_acting.result ≡ length actors)) c.self.view_is
    (count_listed plan h inv.sound inv.run k.pins.pins are controller driver unpins drives c.count_acting.result
    (c.count_acting.ensures ∙ counted_as_kept plan h inv.sound inv.run k inv.sized.settings inv.stands controller driver))
