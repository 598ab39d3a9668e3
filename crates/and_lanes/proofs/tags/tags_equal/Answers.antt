use Rattle.std.proofs.Common.{ℕ, ◌<◌, ◌^◌, ◌∙◌, sym, subst, map, w8, arith, Fits, w16}
use Rattle.std.proofs.lemmas.List.{length-map}
use Rattle.std.specs.Prelude.{◌==◌}
use Rattle.std.specs.Simd.Lanes.{mask_l}
use Rattle.std.proofs.lemmas.Simd.{bitmask_splat, mask_l-lt}
use Rattle.and_lanes.proofs.tags.tags_equal.Goals as goal

pub overflow_cast-result : goal.overflow_cast-result
overflow_cast-result c =
    let is = bitmask_splat w8 (λ a b. a == b) c.args.tags.now 16 c.args.tag c.told-tags (omega arith) in
    let len = length-map c.args.tags.now (λ t. t == c.args.tag) ∙ c.told-tags in
    let Q : ℕ → Type 0 = λ n. mask_l (map (λ t. t == c.args.tag) c.args.tags.now) < 2 ^ n in
    let lt = subst Q len (mask_l-lt (map (λ t. t == c.args.tag) c.args.tags.now)) in
    let P : ℕ → Type 0 = λ n. Fits w16 n in
    subst P (sym is) (record { fits = lt })

pub returns : goal.returns
returns c = bitmask_splat w8 (λ a b. a == b) c.args.tags.now 16 c.args.tag c.told-tags (omega arith)
