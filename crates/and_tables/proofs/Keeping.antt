-- Tables with the same look-ups keep the same.
use Rattle.std.proofs.Common.{◌≡◌, List, ap, refl, unwrap_or}
use Rattle.and_policy.specs.declared.entry.Entry.{Entry}
use Rattle.and_policy.specs.Programmes.{entries}
use Rattle.and_policy.specs.Registers.{IsRegister}
use Rattle.and_tables.specs.Books.{IsRulebook}
use Rattle.and_tables.specs.Indexes.{IsSameIndex}
use Rattle.and_tables.specs.declared.index.Index.{Index}
use Rattle.and_tables.specs.Kept.{IsKept}
use Rattle.and_tables.specs.Numbers.{at, at_pair}
use Rattle.and_tables.specs.declared.host.HostTables.TheInside.{Inside}
use Rattle.and_tables.proofs.Applied.{keeps_as}
use Rattle.and_tables.proofs.Chaining.{chained_as}
use Rattle.and_tables.proofs.Stepping.{knows_as}

pub kept_as : (t u : Inside) → u.gateways ≡ t.gateways → u.ticks ≡ t.ticks → u.ops.items ≡ t.ops.items → IsSameIndex t.index u.index
    → ((k : List Entry) → IsRegister t.register k → IsRegister u.register k) → ((k : List Entry) → IsRulebook t.rules k → IsRulebook u.rules k)
    → IsKept t → IsKept u
kept_as t u gateways ticks ops same register rules k = record {
  gated = rw gateways k.gated;
  short = rw ops k.short;
  few = rw (ticks, ops) k.few;
  keeps = rw (ops, ticks) (keeps_as t.ops.items t.ticks (at t.index.entered) (at u.index.entered) (at_pair t.index.ordered) (at_pair u.index.ordered)
      (λ net. ap (λ o. unwrap_or o 0) (same.entered net)) (λ net ip. ap (λ o. unwrap_or o 0) (same.ordered (net, ip))) k.keeps);
  chained = rw ops (chained_as t.ops.items t.index u.index same k.chained);
  knows = rw ops (knows_as t.ops.items (at t.index.touched) (at u.index.touched) (λ net. ap (λ o. unwrap_or o 0) (same.touched net)) k.knows);
  register = rw ops (λ log. register (entries t.ops.items) (k.register log));
  rules = rw ops (λ log. rules (entries t.ops.items) (k.rules log));
}

pub same_index : (x : Index) → IsSameIndex x x
same_index x = record {
  entered = λ net. refl;
  ordered = λ q. refl;
  touched = λ net. refl;
  into = record { last = λ q. refl; before = refl };
  until = record { last = λ q. refl; before = refl };
}
