-- Packets that rules and routes dropped, counted by key: a network and the number of a rule or a route.
use Rattle.std.specs.Prelude.{◌≡◌, ℕ, List, Option, map}
use Rattle.std.specs.List.{cons_option}
use Rattle.std.specs.declared.cmp.Ordering.{Ordering}
use Rattle.std.specs.Ordering.{nat_cmp, ordering_then}
use Rattle.and_report.specs.declared.fate.Fate.{Fate}
use Rattle.and_report.specs.declared.fate.Key.{Key}
use Rattle.and_report.specs.declared.fate.Stage.{Stage}
use Rattle.and_report.specs.declared.fate.Stage.TheVariants.{Egress, Ingress, Route}
use Rattle.and_report.specs.Report.{egress_key, ingress_key, route_key, egress_name, ingress_name, route_name, counted, count_key, in_order}

-- the key of a packet that was dropped at this stage
abbrev pub stage_key : Stage → Fate → Option Key
stage_key Egress fate = egress_key fate
stage_key Ingress fate = ingress_key fate
stage_key Route fate = route_key fate

-- what a keyed line counts
abbrev pub stage_name : Stage → Key → List ℕ
stage_name Egress key = egress_name key
stage_name Ingress key = ingress_name key
stage_name Route key = route_name key

abbrev pub stage_line : Stage → List Key → Key → List ℕ
stage_line stage keys key = counted (stage_name stage key) (count_key key keys)

-- the order of keys: by network, then by number
abbrev pub pair_cmp : ℕ × ℕ → ℕ × ℕ → Ordering
pair_cmp a b = ordering_then (nat_cmp a.0 b.0) (nat_cmp a.1 b.1)

abbrev pub pair_of : Key → ℕ × ℕ
pair_of key = (key.net, key.number)

abbrev pub key_of_pair : ℕ × ℕ → Key
key_of_pair p = record { net = p.0; number = p.1 }

abbrev pub entry_by : (Key → ℕ) → Key → (ℕ × ℕ) × ℕ
entry_by count key = (pair_of key, count key)

-- the keys in order, each once, and how often each stands in the list
abbrev pub tallied : List Key → List ((ℕ × ℕ) × ℕ)
tallied keys = map (entry_by (λ key. count_key key keys)) (in_order keys)

-- the map's entries are the tally of keys, and with this key, where there is one, they are that of one key more
abbrev pub Raises : Option Key → List ((ℕ × ℕ) × ℕ) → List ((ℕ × ℕ) × ℕ) → Type 0
Raises key old new = (keys : List Key) → old ≡ tallied keys → new ≡ tallied (cons_option key keys)

-- the line of an entry
abbrev pub entry_line : Stage → (ℕ × ℕ) × ℕ → List ℕ
entry_line stage e = counted (stage_name stage (key_of_pair e.0)) e.1
