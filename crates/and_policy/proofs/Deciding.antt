-- The first of a list by an order, with one element more in front; rules and routes that later entries delete do not count.
use Rattle.std.proofs.Common.{◌≡◌, ℕ, Bool, true, false, ◌&&◌, ◌||◌, not, List, [], ◌∷◌, Option, Some, refl, ap, sym, ◌∙◌}
use Rattle.std.specs.Prelude.{if◌then◌else◌, ◌==◌}
use Rattle.std.specs.List.{list_any, filter}
use Rattle.and_policy.specs.declared.packet.Tuple.{Tuple}
use Rattle.and_policy.specs.declared.entry.Entry.{Entry}
use Rattle.and_policy.specs.declared.entry.Entry.TheVariants.{AddRule, DelRule, AddRoute, DelRoute}
use Rattle.and_policy.specs.declared.entry.Rule.{Rule}
use Rattle.and_policy.specs.declared.entry.Route.{Route}
use Rattle.and_policy.specs.declared.entry.Side.{Side}
use Rattle.and_policy.specs.Deletions.{deletes_some_rule, deletes_some_route}
use Rattle.and_policy.specs.Egress.{deciding_rule, rule_before}
use Rattle.and_policy.specs.Routes.{deciding_route, route_before}
use Rattle.and_policy.specs.Logs.{rules, deletes_rule, routes, deletes_route}
use Rattle.and_policy.specs.Matching.{better, least, matches, is_side, holds}

choose : {A : Type 0} (before : A → A → Bool) (b : Bool) (x : A) (xs : List A) (best next : Option A)
    → best ≡ least before xs → next ≡ (if b then Some (better before x best) else best) → next ≡ least before (if b then x ∷ xs else xs)
choose before true x xs best next is step = step ∙ ap (λ o. Some (better before x o)) is
choose before false x xs best next is step = step ∙ is

-- with the test of a filter
choose_filter : {A : Type 0} (before : A → A → Bool) (p : A → Bool) (x : A) (xs : List A) (best next : Option A)
    → best ≡ least before (filter p xs) → next ≡ (if p x then Some (better before x best) else best) → next ≡ least before (filter p (x ∷ xs))
choose_filter before p x xs best next is step = choose before (p x) x (filter p xs) best next is step

-- the element counts where it is wanted and not deleted
counted : {A : Type 0} (before : A → A → Bool) (p : A → Bool) (here gone : Bool) (x : A) (xs : List A) (best next : Option A)
    → here ≡ true → best ≡ least before (filter p xs) → next ≡ (if p x then Some (better before x best) else best)
    → (gone ≡ false → next ≡ least before (filter p (if here && not gone then x ∷ xs else xs)))
    × (next ≡ best → best ≡ least before (filter p (if here && not gone then x ∷ xs else xs)))
counted before p true true x xs best next here is step = (λ h. absurd (cc), λ h. is)
counted before p true false x xs best next here is step =
    let more = choose_filter before p x xs best next is step in
    (λ h. more, λ h. sym h ∙ more)
counted before p false gone x xs best next here is step = absurd (cc)

pub rule_more : (side : Side) (x : Tuple) (k : List Entry) (net n : ℕ) (rule : Rule) (best next : Option Rule)
    → (n == net) ≡ true → best ≡ deciding_rule side x (rules k net)
    → next ≡ (if is_side rule.side side && matches x rule then Some (better rule_before rule best) else best)
    → (list_any (deletes_rule net rule.number) k ≡ false → next ≡ deciding_rule side x (rules (AddRule n rule ∷ k) net))
    × (next ≡ best → best ≡ deciding_rule side x (rules (AddRule n rule ∷ k) net))
rule_more side x k net n rule best next here is step =
    counted rule_before (λ r. is_side r.side side && matches x r) (n == net) (list_any (deletes_rule net rule.number) k) rule (rules k net) best next here is step

pub route_more : (address : ℕ) (k : List Entry) (net n : ℕ) (route : Route) (best next : Option Route)
    → (n == net) ≡ true → best ≡ deciding_route address (routes k net)
    → next ≡ (if holds route.prefix address then Some (better route_before route best) else best)
    → (list_any (deletes_route net route.number) k ≡ false → next ≡ deciding_route address (routes (AddRoute n route ∷ k) net))
    × (next ≡ best → best ≡ deciding_route address (routes (AddRoute n route ∷ k) net))
route_more address k net n route best next here is step =
    counted route_before (λ r. holds r.prefix address) (n == net) (list_any (deletes_route net route.number) k) route (routes k net) best next here is step

both : (a b c d : Bool) → (a || c) ≡ false → (c ≡ false → d ≡ false) → ((a && b) || d) ≡ false
both true b c d h f = absurd (cc h)
both false b c d h f = f h

-- where no entry deletes a rule of the network, none deletes this one
pub no_rule_deleted : (net number : ℕ) (k : List Entry) → list_any (deletes_some_rule net) k ≡ false → list_any (deletes_rule net number) k ≡ false
no_rule_deleted net number [] h = refl
no_rule_deleted net number (DelRule n m ∷ k) h =
    both (n == net) (m == number) (list_any (deletes_some_rule net) k) (list_any (deletes_rule net number) k) h (no_rule_deleted net number k)
no_rule_deleted net number (_ ∷ k) h = no_rule_deleted net number k h

pub no_route_deleted : (net number : ℕ) (k : List Entry) → list_any (deletes_some_route net) k ≡ false → list_any (deletes_route net number) k ≡ false
no_route_deleted net number [] h = refl
no_route_deleted net number (DelRoute n m ∷ k) h =
    both (n == net) (m == number) (list_any (deletes_some_route net) k) (list_any (deletes_route net number) k) h (no_route_deleted net number k)
no_route_deleted net number (_ ∷ k) h = no_route_deleted net number k h
