-- The log, and what each node is programmed with. Nodes go by their places.
use Rattle.std.specs.Prelude.{◌≡◌, ℕ, ◌≤◌, List, [], ◌∷◌, ◌++◌, length, map, slice_set, slice_index_or}
use Rattle.and_policy.specs.declared.entry.Entry.{Entry}
use Rattle.and_policy.specs.declared.entry.Op.{Op}
use Rattle.and_policy.specs.declared.entry.Op.TheVariants as ops
use Rattle.and_policy.specs.Programmes.{prefix}
use Rattle.and_events.specs.declared.event.Given.{Given}

pub record Programmes : Type 0 where
  pub log : List Entry
  pub ops : List (List Op)  -- each node's programme
  pub announced : List ℕ  -- how long the programme was at the node's last announcement
  pub installed : List ℕ  -- how much of it is installed

-- what an event does to these
pub data Word : Type 0 where
  Quiet : Word
  Logs : Entry → Word
  Orders : List Given → Word
  Announces : (node upto : ℕ) → Word
  Installs : (node upto : ℕ) → Word

abbrev pub programme_at : Programmes → ℕ → List Op
programme_at p n = slice_index_or p.ops n []

abbrev pub announced_at : Programmes → ℕ → ℕ
announced_at p n = slice_index_or p.announced n 0

abbrev pub installed_at : Programmes → ℕ → ℕ
installed_at p n = slice_index_or p.installed n 0

-- each order at the end of its host's programme, one after the other
abbrev pub with_orders : List (List Op) → List Given → List (List Op)
with_orders programmes [] = programmes
with_orders programmes (g ∷ gs) =
    with_orders (slice_set programmes g.host (slice_index_or programmes g.host [] ++ ops.Offload g.order ∷ [])) gs

unfoldable pub programmes_after : Programmes → Word → Programmes
programmes_after p Quiet = p
programmes_after p (Logs e) = record p { log = p.log ++ e ∷ []; ops = map (λ programme. programme ++ ops.Entry e ∷ []) p.ops }
programmes_after p (Orders os) = record p { ops = with_orders p.ops os }
programmes_after p (Announces n upto) = record p { announced = slice_set p.announced n upto }
programmes_after p (Installs n upto) = record p { installed = slice_set p.installed n upto }

-- how many log entries are installed at the node
abbrev pub entries_installed : Programmes → ℕ → ℕ
entries_installed p n = length (prefix (programme_at p n) (installed_at p n))

-- the node has installed the log entry of this number, from 1
abbrev pub HasInstalled : Programmes → ℕ → ℕ → Type 0
HasInstalled p n q = q ≤ entries_installed p n
