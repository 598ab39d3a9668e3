-- A node's programme, and all nodes', as contracts see them.
use Rattle.std.specs.Prelude.{◌≡◌, ℕ, ◌+◌, ◌-◌, ◌<◌, ◌≤◌, ◌^◌, ◌==◌, ◌&&◌, ◌||◌, nat_lt, not, Bool, false, List, [], ◌∷◌, ◌++◌, length, map, slice_index_or}
use Rattle.std.specs.List.{All, count_by}
use Rattle.and_policy.specs.declared.entry.Entry.{Entry}
use Rattle.and_policy.specs.declared.entry.Op.{Op}
use Rattle.and_policy.specs.declared.entry.Op.TheVariants as ops
use Rattle.and_policy.specs.Placements as placements
use Rattle.and_policy.specs.Placements.{ArePlacements}
use Rattle.and_policy.specs.declared.placements.Placements.{Placements}
use Rattle.and_policy.specs.Programmes.{entries, prefix}
use Rattle.and_events.specs.declared.event.Given.{Given}
use Rattle.and_events.specs.Programming.{Programmes, programme_at, announced_at, installed_at}
use Rattle.and_kept.specs.Numbers.{Numbers, has}

-- ---- one node

-- a programme, how much of it is announced and installed, and how many operations it has room for
pub record Programmed : Type 0 where
  pub ops : List Op
  pub announced : ℕ
  pub installed : ℕ
  pub limit : ℕ

-- with an operation more at its end
abbrev pub with_op : Op → Programmed → Programmed
with_op op n = record n { ops = n.ops ++ op ∷ [] }

abbrev pub with_entry : Entry → Programmed → Programmed
with_entry e = with_op (ops.Entry e)

-- not all of it is installed
abbrev pub is_behind : Programmed → Bool
is_behind n = not (n.installed == length n.ops)

-- how many of the operations are entries, in all, among the announced and among the installed ones
pub record CountsEntries (n : Programmed) (all announced installed : ℕ) : Type 0 where
  pub all_are : all ≡ length (entries n.ops)
  pub announced_are : announced ≡ length (prefix n.ops n.announced)
  pub installed_are : installed ≡ length (prefix n.ops n.installed)

-- the installed are announced, the announced are there, and there is room
pub record IsProgrammed (n : Programmed) (capacity : ℕ) : Type 0 where
  pub installed : n.installed ≤ n.announced
  pub announced : n.announced ≤ length n.ops
  pub within : length n.ops ≤ n.limit
  pub reserved : n.limit ≤ capacity
  pub small : n.limit < 2 ^ 32

-- ---- all nodes

-- the log and the programmes, how many entries the log has room for, how many operations each programme has room for, and how many log
-- entries every node has installed
pub record NodesView : Type 0 where
  pub programmes : Programmes
  pub limit : ℕ
  pub rooms : List ℕ
  pub least : ℕ

abbrev pub programmes_of : List Entry → List Programmed → Programmes
programmes_of log nodes =
    record { log = log; ops = map (λ n. n.ops) nodes; announced = map (λ n. n.announced) nodes; installed = map (λ n. n.installed) nodes }

abbrev pub rooms_of : List Programmed → List ℕ
rooms_of nodes = map (λ n. n.limit) nodes

abbrev pub room_at : List ℕ → ℕ → ℕ
room_at rooms n = slice_index_or rooms n 0

abbrev pub no_programme : Programmed
no_programme = record { ops = []; announced = 0; installed = 0; limit = 0 }

abbrev pub node_at : List Programmed → ℕ → Programmed
node_at nodes i = slice_index_or nodes i no_programme

-- so many nodes are behind, and each has room for the entries that the log still has room for, as have the placements of its VMs
pub record IsProgress (log : List Entry) (nodes : List Programmed) (p : Placements) (count limit capacity : ℕ) : Type 0 where
  pub behind : count ≡ count_by is_behind nodes
  pub rooms : All (λ n. length n.ops + (limit - length log) ≤ n.limit) nodes
  pub placed : ArePlacements p log
  pub room : placements.HasRoom (limit - length log) p
  pub logged : length log ≤ limit
  pub reserved : limit ≤ capacity
  pub small : limit < 2 ^ 32

-- ---- what every node has installed

-- how many log entries the node has installed
abbrev pub height : Programmed → ℕ
height n = length (prefix n.ops n.installed)

abbrev pub heights : List Programmed → List ℕ
heights nodes = map height nodes

-- none has installed fewer, and so many have installed no more
pub record IsFloor (hs : List ℕ) (least lowest : ℕ) : Type 0 where
  pub below : All (λ n. least ≤ n) hs
  pub count : lowest ≡ count_by (λ n. n == least) hs
  pub some : 0 < length hs → 0 < lowest

-- ---- who may announce or install

-- the log and the programmes, how many entries the log has room for, how many operations each programme has room for, and at
-- which nodes installs are held; and how many log entries every node has installed
pub record Progressed : Type 0 where
  pub programmes : Programmes
  pub limit : ℕ
  pub rooms : List ℕ
  pub held : List Bool
  pub least : ℕ

-- the installer of the node at this place may announce, or has announced something that is not installed
unfoldable pub is_ready : Programmes → List Bool → ℕ → Bool
is_ready p held n =
    nat_lt (installed_at p n) (announced_at p n)
    || (not (slice_index_or held n false) && ((announced_at p n == installed_at p n) && nat_lt (announced_at p n) (length (programme_at p n))))

-- each node has its mark, and the set tells whose installers may act
pub record AreReadied (p : Programmes) (marks : List Bool) (ready : Numbers) : Type 0 where
  pub few : length p.ops < 2 ^ 16
  pub held : length marks ≡ length p.ops
  pub size : ready.size ≡ length p.ops
  pub told : (k : ℕ) → k < length p.ops → has ready k ≡ is_ready p marks k

-- ---- orders

-- beside the entries that the log still has room for, the node's programme has room for so many operations more
abbrev pub HasRoomFor : NodesView → ℕ → ℕ → Type 0
HasRoomFor v count node =
    length (programme_at v.programmes node) + (v.limit - length v.programmes.log) + count ≤ room_at v.rooms node

-- each order's host has room for all of the orders
abbrev pub HaveRoom : NodesView → List Given → Type 0
HaveRoom v orders = All (λ g. HasRoomFor v (length orders) g.host) orders

abbrev pub nodes_in : Progressed → NodesView
nodes_in v = record { programmes = v.programmes; limit = v.limit; rooms = v.rooms; least = v.least }

-- each order's host has room for all of the orders, beside the entries that the log still has room for
pub record HasOrderRoom (v : Progressed) (orders : List Given) : Type 0 where
  pub fits : HaveRoom (nodes_in v) orders
