-- Reviews: what the orders ask for, that the event is legal, and what is kept after it.
use Rattle.std.proofs.Common.{◌≡◌, ℕ, ◌+◌, ◌<◌, ◌≤◌, ◌^◌, List, length, refl, sym, ap, ◌∙◌, subst, arith, Some, None}
use Rattle.std.specs.Prelude.{slice_get}
use Rattle.std.specs.List.{All}
use Rattle.std.proofs.lemmas.List.Elements.{All-weaker}
use Rattle.and_policy.specs.declared.entry.Entry.{Entry}
use Rattle.and_policy.specs.Fitting.{IsLog}
use Rattle.and_policy.specs.Programmes.{entries}
use Rattle.and_events.specs.declared.event.Event.{Event}
use Rattle.and_events.specs.declared.event.Event.TheVariants.{Review}
use Rattle.and_events.specs.declared.event.Given.{Given}
use Rattle.and_events.specs.declared.event.Line.{Line}
use Rattle.and_events.specs.declared.event.Node.TheVariants.{Host}
use Rattle.and_events.specs.declared.plan.Plan.{Plan}
use Rattle.and_events.specs.declared.plan.Step.TheVariants as steps
use Rattle.and_events.specs.Flow.{flow_after}
use Rattle.and_events.specs.Legal.{Legal}
use Rattle.and_events.specs.Ports.{ports_after}
use Rattle.and_events.specs.Programming.{Programmes, Orders, programmes_after, programme_at}
use Rattle.and_events.specs.Run.{past}
use Rattle.and_events.specs.State.{State, state, after, move_of, word_of, word_of_step, ports_move_of, step_of, usage_move_of, holds_after, programme_of}
use Rattle.and_events.specs.Usage.{Used, Cleared, usage_after, orders_of}
use Rattle.and_laws.proofs.Paying.{short_programmes}
use Rattle.and_laws.proofs.Programmed.{programmed}
use Rattle.and_laws.proofs.Short.{orders_few}
use Rattle.and_kept.specs.Nodes.{Progressed}
use Rattle.and_kept.proofs.NodesLemmas.{entries_short}
use Rattle.and_review.specs.Views.{ReviewsView}
use Rattle.and_book.specs.Inside.{Kept, Keeps, Stands}
use Rattle.and_book.proofs.Logged.{logged}
use Rattle.and_book.proofs.More.{IsAfter}
use Rattle.and_book.proofs.Pinning.{pins_stay}
use Rattle.and_book.proofs.Plans.{log_short}
use Rattle.and_book.proofs.Stepping.{steps_due}
use Rattle.and_book.proofs.Using.{orders_for_hosts}

-- ---- what the calls ask for

module _ (plan : Plan) (threads : ℕ) (lines : List Line) (k : Kept) (spare : ℕ) (keeps : Keeps plan threads lines k spare) where
  abbrev h : List Event
  h = past lines

  abbrev p : Programmes
  p = k.progress.programmes

  abbrev orders : List Given
  orders = orders_of plan.settings p.log k.reviews.used

  pub log_is_log : (log : List Entry) → log ≡ p.log → IsLog None log
  log_is_log log is = subst (IsLog None) (sym (is ∙ ap (λ q. q.log) keeps.stands.programmes)) (logged plan h keeps.sound keeps.run)

  pub log_is_small : (log : List Entry) → log ≡ p.log → length log + plan.settings.life < 4294967295
  log_is_small log is =
      let programme = programme_of plan (state plan h) (Host 0) in
      let whole : length log ≡ length (entries programme) =
      ap length (is ∙ (ap (λ q. q.log) keeps.stands.programmes ∙ sym (programmed plan h keeps.run (Host 0) (keeps.sound.settings.hosts.0)).log)) in
      let short = short_programmes plan h keeps.run in
      omega (arith, whole, entries_short programme, short.programmes 0, short.steps, keeps.sound.few_steps, keeps.sound.settings.life.1)

  -- so many keys are used at most as there are steps
  pub use_has_room : length k.reviews.used < k.reviews.room
  use_has_room =
      let short = short_programmes plan h keeps.run in
      omega (arith, ap (length {A = Used}) keeps.stands.usage, short.programmes 0, short.steps, keeps.reviews.room)

  orders_are : orders ≡ orders_of plan.settings (state plan h).programmes.log (state plan h).usage
  orders_are = ap (λ q. orders_of plan.settings q.log k.reviews.used) keeps.stands.programmes ∙ ap (orders_of plan.settings (state plan h).programmes.log) keeps.stands.usage

  pub hosts_are_there : (os : List Given) → os ≡ orders → All (λ (g : Given). g.host < length p.ops) os
  hosts_are_there os is =
      All-weaker (λ (g : Given). g.host < plan.settings.hosts) (λ (g : Given). g.host < length p.ops) (λ g there. omega (arith, there, keeps.nodes.ops)) os
      (subst (All (λ (g : Given). g.host < plan.settings.hosts)) (sym (is ∙ orders_are)) (orders_for_hosts plan h (state plan h).programmes.log keeps.run))

  pub rooms_are_small : (os : List Given) → os ≡ orders → All (λ (g : Given). length (programme_at p g.host) + k.progress.limit + length os < 2 ^ 32) os
  rooms_are_small os is =
      let short = short_programmes plan h keeps.run in
      let few : length os ≤ length (state plan h).usage =
      omega (arith, ap (length {A = Given}) (is ∙ orders_are), orders_few plan.settings (state plan h).programmes.log (state plan h).usage) in
      All-weaker (λ (g : Given). g.host < length p.ops) (λ (g : Given). length (programme_at p g.host) + k.progress.limit + length os < 2 ^ 32)
      (λ g there. omega (arith, few, short.programmes g.host, ap (λ q. length (programme_at q g.host)) keeps.stands.programmes, short.steps, keeps.sound.few_steps, keeps.sized.limit, log_short plan keeps.sound)) os
      (hosts_are_there os is)

-- ---- the event

pub legal_review : (plan : Plan) (s : State) (n : ℕ) → n ≡ s.next → slice_get plan.steps s.next ≡ Some steps.Review → Legal plan s (Review n)
unfolding Legal
legal_review plan s n is due = steps_due plan s n steps.Review is due tt

pub after_review : (plan : Plan) (s : State) (k : Kept) (p : Progressed) (reviews : ReviewsView) (n : ℕ) (os : List Given) → Stands k s → slice_get plan.steps n ≡ Some steps.Review
    → os ≡ orders_of plan.settings k.progress.programmes.log k.reviews.used → p.programmes ≡ programmes_after k.progress.programmes (Orders os) → p.limit ≡ k.progress.limit → p.held ≡ k.progress.held → p.least ≡ k.progress.least
    → reviews.used ≡ usage_after k.reviews.used Cleared → k.reviews.room ≤ reviews.room → reviews.known ≡ k.reviews.known
    → IsAfter plan s (Review n) k (record k { next = k.next + 1; progress = p; reviews = reviews })
unfolding after holds_after move_of word_of ports_move_of step_of usage_move_of flow_after ports_after
after_review plan s k p reviews n os st due are given limit marks least used room known =
    record {
      stands = record {
        next = ap (λ m. m + 1) st.next;
        programmes = given
            ∙ (ap (λ gs. programmes_after k.progress.programmes (Orders gs)) are
            ∙ (ap (λ q. programmes_after q (Orders (orders_of plan.settings q.log k.reviews.used))) st.programmes
            ∙ (ap (λ us. programmes_after s.programmes (Orders (orders_of plan.settings s.programmes.log us))) st.usage
            ∙ ap (λ o. programmes_after s.programmes (word_of_step plan s o)) (sym due))));
        ports = st.ports;
        flow = st.flow;
        holds = ap (λ marks. record { install = marks; forward = k.roads.held }) marks ∙ st.holds;
        usage = used ∙ ap (λ us. usage_after us Cleared) st.usage;
      };
      settings = refl;
      limit = limit;
      room = room;
      known = known;
      pins = pins_stay plan k (record k { next = k.next + 1; progress = p; reviews = reviews }) refl refl least (omega arith);
    }
