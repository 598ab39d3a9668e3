-- How the set of networks follows one entry more.
use Rattle.std.proofs.Common.{◌≡◌, ℕ, ◌+◌, Bool, true, false, ◌||◌, List, [], ◌∷◌, ◌++◌, Option, Some, None, nat_eq, cond, refl, ap, ◌∙◌, length-append, append-nil}
use Rattle.std.specs.Prelude.{if◌then◌else◌, ◌==◌}
use Rattle.std.proofs.lemmas.List.Folds.{list_any-append}
use Rattle.std.specs.HashSet as bag
use Rattle.std.specs.HashSet.{hash_set_len, HashSet}
use Rattle.std.specs.declared.hash.FoldHasher.{FoldHasher}
use Rattle.std.specs.declared.hash.BuildHasherDefault.{BuildHasherDefault}
use Rattle.and_policy.specs.declared.entry.Entry.{Entry}
use Rattle.and_policy.specs.declared.entry.Entry.TheVariants.{AddNet, AddVm, RemoveVm, Place, AddRule, DelRule, AddRoute, DelRoute, Tick}
use Rattle.and_policy.specs.Fitting.{fits}
use Rattle.and_policy.specs.Indexes.{AreNets}
use Rattle.and_policy.specs.Logs.{nets, has_net}
use Rattle.and_policy.proofs.Appends.{nets-append}

abbrev Set : Type 0
Set = HashSet ℕ (BuildHasherDefault FoldHasher)

passed : {F : Type 0} (b : Bool) (f : F) (rest : Option F) → (if b then Some f else rest) ≡ None → b ≡ false
passed true f rest h = absurd (cc)
passed false f rest h = refl

choice : (old new there same : Bool) → old ≡ there → new ≡ cond same true old → new ≡ (there || (same || false))
choice old new true true a b = b
choice old new true false a b = b ∙ a
choice old new false true a b = b
choice old new false false a b = b ∙ a

abbrev grows : Bool → ℕ
grows b = if b then 0 else 1

one : (b : Bool) → b ≡ false → grows b ≡ 1
one true h = absurd (cc)
one false h = refl

pub nets-more : (x y : Set) (hosts : Option ℕ) (k : List Entry) (net : ℕ) → fits hosts k (AddNet net) ≡ None → AreNets x k
    → ((q : ℕ) → bag.contains nat_eq y q ≡ cond (nat_eq net q) true (bag.contains nat_eq x q))
    → hash_set_len y ≡ hash_set_len x + (if bag.contains nat_eq x net then 0 else 1) → AreNets y (k ++ AddNet net ∷ [])
nets-more x y hosts k net fit is put len =
    record {
      has = λ q. rw (nets-append k (AddNet net), list_any-append (λ n. n == q) (nets k) (net ∷ [])) (choice _ _ (has_net k q) (nat_eq net q) (is.has q) (put q));
      count = rw (nets-append k (AddNet net), length-append (nets k) (net ∷ []))
          (len ∙ ap (λ n. hash_set_len x + n) (one (bag.contains nat_eq x net) (is.has net ∙ passed _ _ _ fit)) ∙ ap (λ n. n + 1) is.count);
    }

pub nets-same : (x : Set) (k : List Entry) (e : Entry) → nets (e ∷ []) ≡ [] → AreNets x k → AreNets x (k ++ e ∷ [])
nets-same x k e h is =
    let same : nets (k ++ e ∷ []) ≡ nets k = nets-append k e ∙ ap (λ ns. nets k ++ ns) h ∙ append-nil (nets k) in
    record { has = λ q. rw same (is.has q); count = rw same is.count }

pub nets-other : (x : Set) (k : List Entry) (e : Entry) → ((net : ℕ) → e ≡ AddNet net → ⊥) → AreNets x k → AreNets x (k ++ e ∷ [])
nets-other x k (AddNet net) a is = absurd (a net refl)
nets-other x k (AddVm _ _ _ _ _) a is = nets-same x k _ refl is
nets-other x k (RemoveVm _) a is = nets-same x k _ refl is
nets-other x k (Place _ _) a is = nets-same x k _ refl is
nets-other x k (AddRule _ _) a is = nets-same x k _ refl is
nets-other x k (DelRule _ _) a is = nets-same x k _ refl is
nets-other x k (AddRoute _ _) a is = nets-same x k _ refl is
nets-other x k (DelRoute _ _) a is = nets-same x k _ refl is
nets-other x k Tick a is = nets-same x k _ refl is
