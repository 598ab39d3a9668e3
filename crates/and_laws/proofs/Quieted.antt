-- Where installs are held, the node has installed all that it announced.
use Rattle.std.proofs.Common.{◌≡◌, ℕ, true, false, List, [], ◌∷◌, get_or, length, refl, sym, ◌∙◌, subst}
use Rattle.and_events.specs.declared.event.Event.{Event}
use Rattle.and_events.specs.declared.event.Event.TheVariants.{Append, Review, Hold, Free, Resume, Announce, Installed}
use Rattle.and_events.specs.declared.event.Node.{Node}
use Rattle.and_events.specs.declared.plan.What.{What}
use Rattle.and_events.specs.declared.plan.What.TheVariants.{Install, Forward}
use Rattle.and_events.specs.declared.plan.Plan.{Plan}
use Rattle.and_events.specs.Places.{node_count, node_place}
use Rattle.and_events.specs.Programming.{Programmes, programmes_after, announced_at, installed_at}
use Rattle.and_events.specs.State.{state, start, after, holds_after, holds_by, with_hold, word_of, word_of_step}
use Rattle.and_events.specs.Legal.{Legal, CanHold}
use Rattle.and_events.specs.Run.{Run}
use Rattle.and_laws.proofs.Rows.{replicate_at, set_at}

-- the node at this place has installed what it announced
abbrev pub IsQuiet : Programmes → ℕ → Type 0
IsQuiet p k = announced_at p k ≡ installed_at p k

pub held_is_quiet : (plan : Plan) (h : List Event) → Run plan h → (k : ℕ) → get_or (state plan h).node_holds.install k false ≡ true → IsQuiet (state plan h).programmes k
unfolding Run Legal state start after holds_after word_of programmes_after
held_is_quiet plan [] r k held = absurd (let no_way : false ≡ true = sym (replicate_at (node_count plan.settings) k false) ∙ held in cc)
held_is_quiet plan (Append n ∷ h) r k held =
    subst (λ o. IsQuiet (programmes_after (state plan h).programmes (word_of_step plan (state plan h) o)) k) (sym r.1.1.1) (held_is_quiet plan h r.0 k held)
held_is_quiet plan (Review n ∷ h) r k held =
    subst (λ o. IsQuiet (programmes_after (state plan h).programmes (word_of_step plan (state plan h) o)) k) (sym r.1.1) (held_is_quiet plan h r.0 k held)
held_is_quiet plan (Resume n ∷ h) r k held =
    subst (λ o. IsQuiet (programmes_after (state plan h).programmes (word_of_step plan (state plan h) o)) k) (sym r.1.1.1) (held_is_quiet plan h r.0 k held)
held_is_quiet plan (Hold n ∷ h) r k held =
    by_hold r.1.0 r.1.1 (held_is_quiet plan h r.0 k) r.1.2.2 (subst (λ o. get_or (holds_by plan.settings (state plan h).node_holds o).install k false ≡ true) r.1.2.1 held)
  where
    by_hold : (node : Node) (what : What) → (get_or (state plan h).node_holds.install k false ≡ true → IsQuiet (state plan h).programmes k) → CanHold plan (state plan h) node what → get_or (with_hold (state plan h).node_holds (node_place plan.settings node) what true).install k false ≡ true
        → IsQuiet (state plan h).programmes k
    by_hold node Forward was can e = was e
    by_hold node Install was can e =
        let s = state plan h in
        set_at s.node_holds.install (node_place plan.settings node) k true false (λ b. b ≡ true → IsQuiet s.programmes k) was
        (λ is f. subst (λ x. IsQuiet s.programmes x) is (can.0 ∙ sym can.1)) e
held_is_quiet plan (Free n ∷ h) r k held =
    by_free r.1.0 r.1.1 (held_is_quiet plan h r.0 k) (subst (λ o. get_or (holds_by plan.settings (state plan h).node_holds o).install k false ≡ true) r.1.2.1 held)
  where
    by_free : (node : Node) (what : What) → (get_or (state plan h).node_holds.install k false ≡ true → IsQuiet (state plan h).programmes k) → get_or (with_hold (state plan h).node_holds (node_place plan.settings node) what false).install k false ≡ true → IsQuiet (state plan h).programmes k
    by_free node Forward was e = was e
    by_free node Install was e =
        let s = state plan h in
        set_at s.node_holds.install (node_place plan.settings node) k false false (λ b. b ≡ true → IsQuiet s.programmes k) was (λ is f. absurd (cc)) e
held_is_quiet plan (Announce node upto ∷ h) r k held =
    let p = (state plan h).programmes in
    set_at p.announced (node_place plan.settings node) k upto 0 (λ x. x ≡ installed_at p k) (held_is_quiet plan h r.0 k held)
    (λ is. absurd (let free : get_or (state plan h).node_holds.install k false ≡ false = subst (λ x. get_or (state plan h).node_holds.install x false ≡ false) is r.1.0.1 in
    let no_way : false ≡ true = sym free ∙ held in cc))
held_is_quiet plan (Installed node upto ∷ h) r k held =
    let p = (state plan h).programmes in
    set_at p.installed (node_place plan.settings node) k upto 0 (λ x. announced_at p k ≡ x) (held_is_quiet plan h r.0 k held)
    (λ is. subst (λ x. announced_at p x ≡ upto) is (sym r.1.1))
held_is_quiet plan (e ∷ h) r k held = held_is_quiet plan h r.0 k held
