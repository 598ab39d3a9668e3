-- A cache that is right for tables stays so as they grow.
use Rattle.std.proofs.Common.{◌≡◌, ℕ, ◌≤◌, List, [], ◌∷◌, ◌++◌, length, take, sym, ap, ◌∙◌, arith, length-append}
use Rattle.std.proofs.lemmas.List.{take-append-le}
use Rattle.and_policy.specs.declared.cached.Cached.{Cached}
use Rattle.and_policy.specs.declared.entry.Op.{Op}
use Rattle.and_policy.specs.Caches.{Cache, said}
use Rattle.and_tables.specs.HostViews.{HostView}
use Rattle.and_decide.specs.Deciding.{AreRight, Each, IsRight}
use Rattle.and_agree.proofs.Agreeing.{same_said}
use Rattle.and_worker.specs.Workers.{StaysRight}

each_more : {A : Type 0} (P Q : A → Type 0) → ((x : A) → P x → Q x) → (xs : List A) → Each P xs → Each Q xs
each_more P Q step [] all = tt
each_more P Q step (x ∷ xs) all = (step x all.0, each_more P Q step xs all.1)

module _ (t u : HostView) (more : List Op) (gateways : u.gateways ≡ t.gateways) (ops : u.ops ≡ t.ops ++ more) where
  still_right : (x : Cached) → IsRight t x → IsRight u x
  still_right x right =
      let first : take x.stamp t.ops ≡ take x.stamp u.ops = sym (ap (take x.stamp) ops ∙ take-append-le x.stamp t.ops more right.0) in (
        omega (arith, right.0, ap length ops, length-append t.ops more),
        right.1 ∙ (same_said t.ops u.ops x.stamp first t.gateways x.key ∙ ap (λ n. said n u.ops x.stamp x.key) (sym gateways)),
      )

  pub grown : (c : Cache) → AreRight t c → AreRight u c
  grown c right = each_more (Each (IsRight t)) (Each (IsRight u)) (each_more (IsRight t) (IsRight u) still_right) c right

pub stays_right : StaysRight
stays_right t u more c gateways ops right = grown t u more gateways ops c right
