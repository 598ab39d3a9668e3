-- Programmes with more room, and with orders at their ends.
use Rattle.std.proofs.Common.{◌≡◌, ◌≢◌, ℕ, ◌+◌, ◌<◌, ◌≤◌, List, [], ◌∷◌, ◌++◌, length, get_or, set, map, drop, refl, sym, ap, ◌∙◌, subst, add-one, arith, ⊎_elim}
use Rattle.std.specs.List.{All}
use Rattle.std.proofs.lemmas.Bool.{cases_eq}
use Rattle.std.proofs.lemmas.List.{map-set, get_or-map, drop_all, length-map, length-append, length-set, get_or-set_same, get_or-set_other}
use Rattle.std.proofs.Math.Seq.{map-set_same, drop-cons}
use Rattle.std.proofs.lemmas.List.Elements.{All-head, All-tail, All-weaker}
use Rattle.and_policy.specs.declared.entry.Entry.{Entry}
use Rattle.and_policy.specs.declared.entry.Order.{Order}
use Rattle.and_policy.specs.declared.entry.Op.{Op}
use Rattle.and_policy.specs.declared.entry.Op.TheVariants as ops
use Rattle.and_policy.specs.Programmes.{entries}
use Rattle.and_events.specs.declared.event.Given.{Given}
use Rattle.and_events.specs.Programming.{Programmes, Orders, programmes_after, programme_at}
use Rattle.and_kept.specs.Nodes.{Programmed, with_op, CountsEntries, IsProgrammed, NodesView, programmes_of, rooms_of, room_at, no_programme, node_at, HasRoomFor, HaveRoom}
use Rattle.and_kept.proofs.NodesLemmas.{prefix_push, ops_at}

-- ---- one programme

entries-order : (p : List Op) (o : Order) → entries (p ++ ops.Offload o ∷ []) ≡ entries p
entries-order [] o = refl
entries-order (ops.Entry x ∷ p) o = ap (λ xs. x ∷ xs) (entries-order p o)
entries-order (ops.Offload x ∷ p) o = entries-order p o

-- an order is no entry
pub counts_order : (n n' : Programmed) (all announced installed capacity : ℕ) (o : Order) → IsProgrammed n capacity → CountsEntries n all announced installed → n' ≡ with_op (ops.Offload o) n → CountsEntries n' all announced installed
counts_order n n' all announced installed capacity o is counts same =
    subst (λ m. CountsEntries m all announced installed) (sym same)
    (record {
      all_are = counts.all_are ∙ ap length (sym (entries-order n.ops o));
      announced_are = counts.announced_are ∙ ap length (sym (prefix_push n.ops (ops.Offload o) n.announced is.announced));
      installed_are = counts.installed_are ∙ ap length (sym (prefix_push n.ops (ops.Offload o) n.installed (omega (arith, is.installed, is.announced))));
    })

-- ---- all nodes

-- the node's programme has room for so many operations
abbrev pub roomier : Programmed → ℕ → Programmed
roomier n room = record n { limit = room }

-- a node that is written
module _ (nodes nodes' : List Programmed) (i : ℕ) where
  pub gives_nodes : (log : List Entry) (g : Given) → i < length nodes → g.host ≡ i → nodes' ≡ set nodes i (with_op (ops.Offload g.order) (node_at nodes i)) → programmes_of log nodes' ≡ programmes_after (programmes_of log nodes) (Orders (g ∷ []))
  unfolding programmes_after
  gives_nodes log g there at is =
      let n = node_at nodes i in
      let new = with_op (ops.Offload g.order) n in
      let e1 : map (λ (m : Programmed). m.ops) (set nodes i new) ≡ set (map (λ (m : Programmed). m.ops) nodes) i (get_or (map (λ (m : Programmed). m.ops) nodes) i [] ++ ops.Offload g.order ∷ []) =
      map-set (λ (m : Programmed). m.ops) nodes i new ∙ ap (λ xs. set (map (λ (m : Programmed). m.ops) nodes) i (xs ++ ops.Offload g.order ∷ [])) (sym (ops_at nodes i there)) in
      let e2 = map-set_same (λ (m : Programmed). m.announced) nodes i new no_programme refl in
      let e3 = map-set_same (λ (m : Programmed). m.installed) nodes i new no_programme refl in
      ap (programmes_of log) is ∙ cc (e1, e2, e3, at)

  pub gives_rooms : (op : Op) → nodes' ≡ set nodes i (with_op op (node_at nodes i)) → rooms_of nodes' ≡ rooms_of nodes
  gives_rooms op is = ap rooms_of is ∙ map-set_same (λ (n : Programmed). n.limit) nodes i (with_op op (node_at nodes i)) no_programme refl

  pub roomier_nodes : (log : List Entry) (room : ℕ) → nodes' ≡ set nodes i (roomier (node_at nodes i) room) → programmes_of log nodes' ≡ programmes_of log nodes
  roomier_nodes log room is =
      let new = roomier (node_at nodes i) room in
      let e1 = map-set_same (λ (m : Programmed). m.ops) nodes i new no_programme refl in
      let e2 = map-set_same (λ (m : Programmed). m.announced) nodes i new no_programme refl in
      let e3 = map-set_same (λ (m : Programmed). m.installed) nodes i new no_programme refl in
      ap (programmes_of log) is ∙ cc (e1, e2, e3)

  pub roomier_rooms : (room : ℕ) → i < length nodes → (node_at nodes i).limit ≤ room → nodes' ≡ set nodes i (roomier (node_at nodes i) room) → (k : ℕ) → room_at (rooms_of nodes) k ≤ room_at (rooms_of nodes') k
  roomier_rooms room there more is k =
      let new = roomier (node_at nodes i) room in
      let e : rooms_of nodes' ≡ set (rooms_of nodes) i room = ap rooms_of is ∙ map-set (λ (n : Programmed). n.limit) nodes i new in
      let long = length-map nodes (λ (n : Programmed). n.limit) in
      subst (λ rs. room_at (rooms_of nodes) k ≤ room_at rs k) (sym e)
      (⊎_elim
      (λ (same : k ≡ i).
      subst (λ j. room_at (rooms_of nodes) j ≤ room_at (set (rooms_of nodes) i room) j) (sym same)
      (let now = get_or-set_same (rooms_of nodes) i room 0 (omega (arith, long, there)) in
      let before = get_or-map (λ (n : Programmed). n.limit) nodes i no_programme 0 there in
      omega (arith, now, before, more)))
      (λ (other : k ≢ i). let same = get_or-set_other (rooms_of nodes) i k room 0 other in omega (arith, same))
      (cases_eq k i))

pub room_stays : (v v' : NodesView) (count node : ℕ) → v'.programmes ≡ v.programmes → v'.limit ≡ v.limit → ((k : ℕ) → room_at v.rooms k ≤ room_at v'.rooms k) → HasRoomFor v count node → HasRoomFor v' count node
room_stays v v' count node programmes limit more room =
    let same = ap (λ (p : Programmes). length (programme_at p node)) programmes in
    let log = ap (λ (p : Programmes). length p.log) programmes in
    omega (arith, same, log, limit, more node, room)

-- ---- orders, one after the other

orders_none : (p : Programmes) → programmes_after p (Orders []) ≡ p
unfolding programmes_after
orders_none p = refl

orders_next : (p : Programmes) (g : Given) (gs : List Given) → programmes_after p (Orders (g ∷ gs)) ≡ programmes_after (programmes_after p (Orders (g ∷ []))) (Orders gs)
unfolding programmes_after
orders_next p g gs = refl

pub given_size : (p : Programmes) (g : Given) → length (programmes_after p (Orders (g ∷ []))).ops ≡ length p.ops
unfolding programmes_after
given_size p g = length-set p.ops g.host (get_or p.ops g.host [] ++ ops.Offload g.order ∷ [])

-- no programme grows by more than the order
longer_by_one : (p : Programmes) (g : Given) (k : ℕ) → g.host < length p.ops → length (programme_at (programmes_after p (Orders (g ∷ []))) k) ≤ length (programme_at p k) + 1
unfolding programmes_after
longer_by_one p g k there =
    let new = get_or p.ops g.host [] ++ ops.Offload g.order ∷ [] in
    ⊎_elim
    (λ (same : k ≡ g.host).
    subst (λ j. length (get_or (set p.ops g.host new) j []) ≤ length (get_or p.ops j []) + 1) (sym same)
    (let e = ap length (get_or-set_same p.ops g.host new [] there) in omega (arith, e, length-append (get_or p.ops g.host []) (ops.Offload g.order ∷ []))))
    (λ (other : k ≢ g.host). let e = ap length (get_or-set_other p.ops g.host k new [] other) in omega (arith, e))
    (cases_eq k g.host)

given_log : (p : Programmes) (g : Given) → (programmes_after p (Orders (g ∷ []))).log ≡ p.log
unfolding programmes_after
given_log p g = refl

-- what is asked where these orders are still to be given
pub record CanGive (v : NodesView) (orders : List Given) : Type 0 where
  pub hosts : All (λ g. g.host < length v.programmes.ops) orders
  pub room : HaveRoom v orders

can_give_rest : (v v' : NodesView) (g : Given) (gs : List Given) → CanGive v (g ∷ gs) → v'.programmes ≡ programmes_after v.programmes (Orders (g ∷ [])) → v'.limit ≡ v.limit → v'.rooms ≡ v.rooms → CanGive v' gs
can_give_rest v v' g gs can after limit rooms =
    let there : g.host < length v.programmes.ops = All-head (λ (x : Given). x.host < length v.programmes.ops) g gs can.hosts in
    let size : length v'.programmes.ops ≡ length v.programmes.ops = ap (λ (p : Programmes). length p.ops) after ∙ given_size v.programmes g in
    let log : length v'.programmes.log ≡ length v.programmes.log = ap (λ (p : Programmes). length p.log) after ∙ ap length (given_log v.programmes g) in
    record {
      hosts = All-weaker (λ (x : Given). x.host < length v.programmes.ops) (λ x. x.host < length v'.programmes.ops) (λ x h. omega (arith, h, size)) gs (All-tail (λ (x : Given). x.host < length v.programmes.ops) g gs can.hosts);
      room = All-weaker (λ (x : Given). HasRoomFor v (length (g ∷ gs)) x.host) (λ x. HasRoomFor v' (length gs) x.host)
          (λ x h.
          let longer = longer_by_one v.programmes g x.host there in
          let same = ap (λ (p : Programmes). length (programme_at p x.host)) after in
          let room = ap (λ rs. room_at rs x.host) rooms in
          omega (arith, h, longer, same, room, limit, log)) gs
          (All-tail (λ (x : Given). HasRoomFor v (length (g ∷ gs)) x.host) g gs can.room);
    }

next_of : (orders : List Given) (i : ℕ) (d : Given) → i < length orders → drop i orders ≡ get_or orders i d ∷ drop (i + 1) orders
next_of orders i d h = drop-cons orders i d h ∙ ap (λ n. get_or orders i d ∷ drop n orders) (sym (add-one i))

pub can_give_more : (v v' : NodesView) (orders : List Given) (i : ℕ) (d : Given) → i < length orders → CanGive v (drop i orders) → v'.programmes ≡ programmes_after v.programmes (Orders (get_or orders i d ∷ [])) → v'.limit ≡ v.limit → v'.rooms ≡ v.rooms → CanGive v' (drop (i + 1) orders)
can_give_more v v' orders i d h can = can_give_rest v v' (get_or orders i d) (drop (i + 1) orders) (subst (CanGive v) (next_of orders i d h) can)

pub orders_more : (p p' : Programmes) (orders : List Given) (i : ℕ) (d : Given) → i < length orders → p' ≡ programmes_after p (Orders (get_or orders i d ∷ [])) → programmes_after p' (Orders (drop (i + 1) orders)) ≡ programmes_after p (Orders (drop i orders))
orders_more p p' orders i d h given =
    ap (λ q. programmes_after q (Orders (drop (i + 1) orders))) given
    ∙ sym (ap (λ os. programmes_after p (Orders os)) (next_of orders i d h) ∙ orders_next p (get_or orders i d) (drop (i + 1) orders))

pub orders_over : (p : Programmes) (orders : List Given) (i : ℕ) → length orders ≤ i → programmes_after p (Orders (drop i orders)) ≡ p
orders_over p orders i h = ap (λ os. programmes_after p (Orders os)) (drop_all i orders h) ∙ orders_none p
