-- An order that a later order for the same ends.
use Rattle.std.proofs.Common.{◌≡◌, Bool, true, false, ◌||◌, List, [], ◌∷◌, refl}
use Rattle.std.specs.List.{list_any}
use Rattle.and_policy.specs.declared.entry.Entry.{Entry}
use Rattle.and_policy.specs.declared.entry.Op.{Op}
use Rattle.and_policy.specs.declared.entry.Op.TheVariants as ops
use Rattle.and_policy.specs.declared.entry.Order.{Order}
use Rattle.and_policy.specs.Programmes.{orders_for, is_entry_of, ends, living}

or_last : (a b c : Bool) → c ≡ true → (a || b || c) ≡ true
or_last true b c h = refl
or_last false true c h = refl
or_last false false c h = h

or_more : (a b c d : Bool) → (a ≡ true → c ≡ true) → (b ≡ true → d ≡ true) → (a || b) ≡ true → (c || d) ≡ true
or_more true b true d f g h = refl
or_more true b false d f g h = absurd (cc (f refl))
or_more false b true d f g h = refl
or_more false b false d f g h = g h

any_order : (k : List Entry) (o : Order) (later : List Op) → list_any (orders_for o.net o.ip) later ≡ true → list_any (ends k o) later ≡ true
any_order k o [] h = absurd (cc)
any_order k o (op ∷ later) h =
    or_more (orders_for o.net o.ip op) (list_any (orders_for o.net o.ip) later) (ends k o op) (list_any (ends k o) later)
    (or_last (is_entry_of k o.net op) (is_entry_of k o.to_net op) (orders_for o.net o.ip op)) (any_order k o later) h

-- an order that a later one for the same network and address ends counts for nothing
pub later_order : (k : List Entry) (o : Order) (later : List Op) → list_any (orders_for o.net o.ip) later ≡ true
    → living k (ops.Offload o ∷ later) ≡ living k later
later_order k o later h = rw (any_order k o later h)
