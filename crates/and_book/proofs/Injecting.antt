-- The parcels after a try to put one into a queue.
use Rattle.std.proofs.Common.{◌≡◌, ℕ, Bool, true, false, cond, List, [], ◌∷◌, ◌++◌, sym, subst}
use Rattle.std.specs.List.{All}
use Rattle.std.proofs.lemmas.List.Elements.{All-set, All-push}
use Rattle.and_parcel.specs.Parcels.{ParcelView}
use Rattle.and_kept.specs.Lanes.{parcels_at, with_parcel}
use Rattle.and_book.proofs.Taking.{all_at}

pub all_with : (P : ParcelView → Type 0) (parcels : List (List ParcelView)) (q : ℕ) (p : ParcelView) → P p → All (λ ps. All P ps) parcels → All (λ ps. All P ps) (with_parcel parcels q p)
all_with P parcels q p is all =
    All-set (λ ps. All P ps) parcels q (parcels_at parcels q ++ p ∷ []) (All-push P (parcels_at parcels q) p (all_at P parcels q all) is) all

choose : (P : List (List ParcelView) → Type 0) (b : Bool) (xs ys : List (List ParcelView)) → P xs → P ys → P (cond b xs ys)
choose P true xs ys p q = p
choose P false xs ys p q = q

pub all_entered : (P : ParcelView → Type 0) (parcels parcels' : List (List ParcelView)) (q : ℕ) (p : ParcelView) (full : Bool) → parcels' ≡ cond full parcels (with_parcel parcels q p) → P p → All (λ ps. All P ps) parcels → All (λ ps. All P ps) parcels'
all_entered P parcels parcels' q p full is ok all =
    subst (All (λ ps. All P ps)) (sym is) (choose (All (λ ps. All P ps)) full parcels (with_parcel parcels q p) all (all_with P parcels q p ok all))
