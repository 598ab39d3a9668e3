-- Steps that fit one after another, from a plain state to a plain state.
use Rattle.std.proofs.Common.{◌≡◌, ℕ, List, [], ◌∷◌, ◌++◌, refl, sym, subst}
use Rattle.and_events.specs.declared.plan.Step.{Step}
use Rattle.and_events.specs.declared.plan.Step.TheVariants as steps
use Rattle.and_events.specs.declared.plan.Plan.{Plan}
use Rattle.and_events.specs.Script.{Script}
use Rattle.and_events.specs.Sound.{StepFits, StepsFit, EndsWell, after_step, sent_after}

-- the steps fit, from the plain state p with n packets injected to q with m
abbrev pub Walk : Plan → Script → ℕ → List Step → Script → ℕ → Type 0
Walk plan p n [] q m = (p ≡ q) × (n ≡ m)
Walk plan p n (step ∷ rest) q m = StepFits plan p n step × Walk plan (after_step p step) (sent_after n step) rest q m

pub walk_on : (plan : Plan) (p : Script) (n : ℕ) (xs : List Step) (q : Script) (m : ℕ) (ys : List Step) (r : Script) (l : ℕ)
    → Walk plan p n xs q m → Walk plan q m ys r l → Walk plan p n (xs ++ ys) r l
walk_on plan p n [] q m ys r l (same, count) w = subst (λ s. Walk plan s n ys r l) (sym same) (subst (λ k. Walk plan q k ys r l) (sym count) w)
walk_on plan p n (x ∷ xs) q m ys r l (fits, rest) w = (fits, walk_on plan (after_step p x) (sent_after n x) xs q m ys r l rest w)

-- one step
pub one_step : (plan : Plan) (p : Script) (n : ℕ) (step : Step) → StepFits plan p n step → Walk plan p n (step ∷ []) (after_step p step) (sent_after n step)
one_step plan p n step fits = (fits, (refl, refl))

-- a step that fits is not the last one
and_then : (plan : Plan) (p : Script) (n : ℕ) (step : Step) (rest : List Step) → StepFits plan p n step
    → StepsFit plan (after_step p step) (sent_after n step) rest → StepsFit plan p n (step ∷ rest)
and_then plan p n (steps.Append e) rest fits more = (fits, more)
and_then plan p n steps.Review rest fits more = (fits, more)
and_then plan p n (steps.Hold node what) rest fits more = (fits, more)
and_then plan p n (steps.Free node what) rest fits more = (fits, more)
and_then plan p n steps.Wait rest fits more = (fits, more)
and_then plan p n (steps.Inject i) rest fits more = (fits, more)
and_then plan p n (steps.Blackout vm host) rest fits more = (fits, more)
and_then plan p n (steps.Resume vm) rest fits more = (fits, more)
and_then plan p n steps.Finish rest fits more = absurd fits

-- a walk to the end, and Finish
pub walk_fits : (plan : Plan) (p : Script) (n : ℕ) (xs : List Step) (q : Script) (m : ℕ) → Walk plan p n xs q m → EndsWell plan q m
    → StepsFit plan p n (xs ++ steps.Finish ∷ [])
walk_fits plan p n [] q m (same, count) ends = subst (λ s. EndsWell plan s n) (sym same) (subst (λ k. EndsWell plan q k) (sym count) ends)
walk_fits plan p n (x ∷ xs) q m (fits, rest) ends =
    and_then plan p n x (xs ++ steps.Finish ∷ []) fits (walk_fits plan (after_step p x) (sent_after n x) xs q m rest ends)
