use Rattle.std.proofs.Common.{◌≡◌, ℕ, Bool, List, sym, subst, Some, None, Option, true, arith}
use Rattle.std.specs.Prelude.{◌↔◌, IsTrue, slice_get}
use Rattle.and_events.specs.declared.event.Actor.{Actor}
use Rattle.and_events.specs.declared.event.Actor.TheVariants.{Controller, Driver}
use Rattle.and_events.specs.declared.event.Event.{Event}
use Rattle.and_events.specs.declared.plan.Plan.{Plan}
use Rattle.and_events.specs.Legal.{Enabled}
use Rattle.and_events.specs.Run.{past}
use Rattle.and_events.specs.State.{state}
use Rattle.and_book.specs.Inside.{Kept, kept_of}
use Rattle.and_book.specs.Views.{AreEnabled, BookView, now}
use Rattle.and_book.proofs.More.{seen}
use Rattle.and_kept.specs.Numbers.{count_below}
use Rattle.and_book.proofs.Due.{acts_as_kept, acts_now, counted_as_kept, pins_as_kept}
use Rattle.and_book.proofs.Listing.{place_listed, past_listed}
use Rattle.and_book.proofs.book.Book.enabled_at.Goals as goal

pub returns-then-k-count_acting : goal.returns-then-k-count_acting
returns-then-k-count_acting c =
    let x = c.self.inside in
    let plan : Plan = x.plan in
    let h : List Event = past x.lines.items in
    let k : Kept = kept_of x in
    let inv = c.self.invariant.keeps in
    let are = pins_as_kept plan h inv.sound inv.run k inv.stands inv.pins.standing in
    let controller : Bool = c.enabled-controller.result in
    let driver : Bool = c.enabled-driver.result in
    let unpins : IsTrue controller ↔ Enabled plan (state plan h) Controller = seen x c.args.self.now c.self.view_is (λ (b : BookView). IsTrue controller ↔ Enabled b.plan (now b) Controller) c.enabled-controller.ensures in
    let drives : IsTrue driver ↔ Enabled plan (state plan h) Driver = seen x c.args.self.now c.self.view_is (λ (b : BookView). IsTrue driver ↔ Enabled b.plan (now b) Driver) c.enabled-driver.ensures in
    let a : Actor = c.actor_at.result in
    let n = c.nth_acting-number.result in
    let same = acts_as_kept plan h inv.sound inv.run k inv.sized.settings inv.stands controller driver in
    let acts = acts_now plan h inv.sound inv.run controller driver in
    subst (λ (b : BookView). (actors : List Actor) × AreEnabled b.plan (now b) actors × (Some a ≡ slice_get actors c.args.k)) c.self.view_is
    (place_listed plan h inv.sound inv.run k.pins.pins are controller driver unpins drives c.args.k a c.actor_at.ensures.actor
    (subst (λ j. acts j ≡ true) (sym c.actor_at.ensures.number) (subst (λ (p : ℕ → Bool). p n ≡ true) same c.nth_acting-number.ensures.acts))
    (subst (λ j. count_below acts j ≡ c.args.k) (sym c.actor_at.ensures.number) (subst (λ (p : ℕ → Bool). count_below p n ≡ c.args.k) same c.nth_acting-number.ensures.rank)))

pub returns-else-k-count_acting : goal.returns-else-k-count_acting
returns-else-k-count_acting c =
    let x = c.self.inside in
    let plan : Plan = x.plan in
    let h : List Event = past x.lines.items in
    let k : Kept = kept_of x in
    let inv = c.self.invariant.keeps in
    let are = pins_as_kept plan h inv.sound inv.run k inv.stands inv.pins.standing in
    let controller : Bool = c.enabled-controller.result in
    let driver : Bool = c.enabled-driver.result in
    let unpins : IsTrue controller ↔ Enabled plan (state plan h) Controller = seen x c.args.self.now c.self.view_is (λ (b : BookView). IsTrue controller ↔ Enabled b.plan (now b) Controller) c.enabled-controller.ensures in
    let drives : IsTrue driver ↔ Enabled plan (state plan h) Driver = seen x c.args.self.now c.self.view_is (λ (b : BookView). IsTrue driver ↔ Enabled b.plan (now b) Driver) c.enabled-driver.ensures in
    let none : Option Actor = None in
    subst (λ (b : BookView). (actors : List Actor) × AreEnabled b.plan (now b) actors × (none ≡ slice_get actors c.args.k)) c.self.view_is
    (past_listed plan h inv.sound inv.run k.pins.pins are controller driver unpins drives c.args.k
    (omega (arith, c.if-k-count_acting.false, c.count_acting.ensures, counted_as_kept plan h inv.sound inv.run k inv.sized.settings inv.stands controller driver)))
