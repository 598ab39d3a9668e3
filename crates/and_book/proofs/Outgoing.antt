-- The parcels in the queues along a run: what each carries, and that it is its packet's.
use Rattle.std.proofs.Common.{◌≡◌, ℕ, zero, suc, ◌+◌, ◌-◌, ◌*◌, ◌<◌, ◌≤◌, ◌^◌, Bool, true, false, cond, List, [], ◌∷◌, ◌++◌, length, drop, set, map, replicate, refl, sym, ap, ◌∙◌, subst, arith, Option, Some, ◌⊎◌, inl, inr, ⊎_elim}
use Rattle.std.specs.Prelude.{◌==◌, slice_get, option_map}
use Rattle.std.specs.List.{All}
use Rattle.std.proofs.Math.ListN.{get_or-map}
use Rattle.std.proofs.lemmas.Grind.{common_steps}
use Rattle.std.proofs.lemmas.List.{map-set, map-append, drop-map, length_push, get_or_push}
use Rattle.std.proofs.lemmas.Option.{slice_get_read, slice_get_within}
use Rattle.std.proofs.lemmas.List.Elements.{All-nil, All-cons, All-head, All-tail, All-push, All-drop, All-replicate}
use Rattle.std.proofs.lemmas.List.Sums.{sum_by-cons}
use Rattle.and_policy.specs.declared.packet.Tuple.{Tuple}
use Rattle.and_policy.specs.FlowHash.{flow_hash}
use Rattle.and_policy.specs.Outer.{outer_packet, entropy_port}
use Rattle.and_parcel.specs.Parcels.{ParcelView, wire_of}
use Rattle.and_events.specs.declared.event.Actor.{Actor}
use Rattle.and_events.specs.declared.event.Carried.{Carried}
use Rattle.and_events.specs.declared.event.Endpoint.{Endpoint}
use Rattle.and_events.specs.declared.event.Event.{Event}
use Rattle.and_events.specs.declared.event.Event.TheVariants.{Append, Review, Hold, Free, Inject, Wait, Blackout, Resume, Finish, Announce, Installed, Take, Unpin}
use Rattle.and_events.specs.declared.event.Held.{Held}
use Rattle.and_events.specs.declared.event.Node.{Node}
use Rattle.and_events.specs.declared.event.Node.TheVariants.{Host, Gate}
use Rattle.and_events.specs.declared.event.Queue.{Queue}
use Rattle.and_events.specs.declared.event.Queue.TheVariants.{Wire}
use Rattle.and_events.specs.declared.plan.Plan.{Plan}
use Rattle.and_events.specs.declared.plan.Settings.{Settings}
use Rattle.and_events.specs.Places.{hand_place, queue_place, queue_count, node_of, actor_of, IsNode}
use Rattle.and_events.specs.Flow.{Flow, Move, Stay, Enter, Lose, Grab, Send, SealLater, Stop, flow_after, enter_by, carried_in, queue_at, hand_at, pushed, popped}
use Rattle.and_events.specs.OuterPackets.{Sent, sent_by_move, with_sent, sends_of, sent_bytes, source_address, endpoint_address}
use Rattle.and_events.specs.State.{State, state, move_of, tuple_at, frame_at, carried_at}
use Rattle.and_events.specs.Legal.{Legal}
use Rattle.and_events.specs.Run.{Run, sends}
use Rattle.and_events.specs.Sound.{IsSound}
use Rattle.and_laws.specs.Stages.{count_in}
use Rattle.and_laws.proofs.Fates.{each_has_one}
use Rattle.and_laws.proofs.Injected.{injected_once}
use Rattle.and_laws.proofs.Hops.{hops_left}
use Rattle.and_laws.proofs.Losses.{held_is_known}
use Rattle.and_laws.proofs.Queues.{queue_within, wire_there}
use Rattle.and_laws.proofs.Rows.{set_at, replicate_at}
use Rattle.and_laws.proofs.Sizes.{sizes}
use Rattle.and_laws.proofs.Unique.{in_no_queue}
use Rattle.and_kept.specs.Lanes.{Roads, parcels_at, with_parcel, without_first}
use Rattle.and_book.specs.Inside.{HasParcels}
use Rattle.and_book.specs.Outers.{IsNewest, IsSentBy}
use Rattle.and_kept.specs.Outers.{wrapped, parcels_moved}
use Rattle.and_book.specs.Views.{IsPacket}
use Rattle.and_book.proofs.Carrying.{MoveFits, event_fits, nets_fit}
use Rattle.and_book.proofs.Injecting.{all_with, all_entered}
use Rattle.and_book.proofs.Taking.{all_without_first, first_of}

-- ---- the packets' numbers

abbrev packets_in : List ParcelView → List ℕ
packets_in ps = map (λ p. p.packet) ps

abbrev numbers_of : List (List ParcelView) → List (List ℕ)
numbers_of parcels = map (λ ps. map (λ p. p.packet) ps) parcels

numbers_at : (parcels : List (List ParcelView)) (q : ℕ) → queue_at (numbers_of parcels) q ≡ packets_in (parcels_at parcels q)
numbers_at parcels q = get_or-map (λ (ps : List ParcelView). map (λ (p : ParcelView). p.packet) ps) parcels q []

numbers_with : (parcels : List (List ParcelView)) (q : ℕ) (p : ParcelView) → numbers_of (with_parcel parcels q p) ≡ pushed (numbers_of parcels) q p.packet
numbers_with parcels q p =
    map-set (λ (ps : List ParcelView). map (λ (p : ParcelView). p.packet) ps) parcels q (parcels_at parcels q ++ p ∷ [])
    ∙ ap (set (numbers_of parcels) q)
    (map-append (λ (x : ParcelView). x.packet) (parcels_at parcels q) (p ∷ []) ∙ ap (λ xs. xs ++ p.packet ∷ []) (sym (numbers_at parcels q)))

numbers_without : (parcels : List (List ParcelView)) (q : ℕ) → numbers_of (without_first parcels q) ≡ popped (numbers_of parcels) q
numbers_without parcels q =
    map-set (λ (ps : List ParcelView). map (λ (p : ParcelView). p.packet) ps) parcels q (drop 1 (parcels_at parcels q))
    ∙ ap (set (numbers_of parcels) q)
    (sym (drop-map (λ (x : ParcelView). x.packet) 1 (parcels_at parcels q)) ∙ ap (drop 1) (sym (numbers_at parcels q)))

-- ---- the newest send of a packet that an event does not send

abbrev SendsNot : ℕ → Move → Type 0
SendsNot i (Send a q j net target) = j ≡ i → ⊥
SendsNot i _ = Unit {0}

there_pushed : (xs : List Sent) (y x : Sent) (t : ℕ) → slice_get xs t ≡ Some x → slice_get (xs ++ y ∷ []) t ≡ Some x
there_pushed [] y x t e = absurd (cc)
there_pushed (z ∷ xs) y x zero e = e
there_pushed (z ∷ xs) y x (suc t) e = there_pushed xs y x t e

last_pushed : (xs : List Sent) (y : Sent) → slice_get (xs ++ y ∷ []) (length xs) ≡ Some y
last_pushed xs y = slice_get_read (xs ++ y ∷ []) (length (xs ++ y ∷ [])) (length xs) y refl (omega (arith, length_push xs y)) (sym (get_or_push xs y y (length xs) refl))

pushed_cases : (xs : List Sent) (y x : Sent) (t : ℕ) → slice_get (xs ++ y ∷ []) t ≡ Some x → (slice_get xs t ≡ Some x) ⊎ (y ≡ x)
pushed_cases [] y x zero e = inr (cc)
pushed_cases [] y x (suc t) e = absurd (cc)
pushed_cases (z ∷ xs) y x zero e = inl e
pushed_cases (z ∷ xs) y x (suc t) e = pushed_cases xs y x t e

-- a send of another packet leaves it the newest
newest_pushed : (sents : List Sent) (new : Sent) (i t : ℕ) (sent : Sent) → (new.packet ≡ i → ⊥) → IsNewest sents i t sent → IsNewest (sents ++ new ∷ []) i t sent
newest_pushed sents new i t sent other n = record {
  there = there_pushed sents new sent t n.there;
  of = n.of;
  newest = λ u later l e of. ⊎_elim (λ (old : slice_get sents u ≡ Some later). n.newest u later l old of)
      (λ (same : new ≡ later). other (ap (λ (x : Sent). x.packet) same ∙ of))
      (pushed_cases sents new later u e);
}

newest_last : (sents : List Sent) (new : Sent) → IsNewest (sents ++ new ∷ []) new.packet (length sents) new
newest_last sents new = record {
  there = last_pushed sents new;
  of = refl;
  newest = λ u later l e of. omega (arith, l, slice_get_within (sents ++ new ∷ []) u later e, length_push sents new);
}

newest_by : (plan : Plan) (h : List Event) (here : Node) (i t : ℕ) (sent : Sent) (m : Move) (sents : List Sent) → SendsNot i m → IsNewest sents i t sent → IsNewest (with_sent sents (sent_by_move plan h here m)) i t sent
newest_by plan h here i t sent (Send a q j net target) sents other n = newest_pushed sents _ i t sent other n
newest_by plan h here i t sent Stay sents other n = n
newest_by plan h here i t sent (Enter q j) sents other n = n
newest_by plan h here i t sent (Lose j) sents other n = n
newest_by plan h here i t sent (Grab a q g) sents other n = n
newest_by plan h here i t sent (SealLater a q j net target) sents other n = n
newest_by plan h here i t sent (Stop a j) sents other n = n

-- no packet among these is sent
abbrev pub SendsNone : Move → List ParcelView → Type 0
SendsNone (Send a q j net target) ps = count_in j (packets_in ps) ≡ 0
SendsNone _ ps = Unit {0}

first_not : (j x : ℕ) (xs : List ℕ) → count_in j (x ∷ xs) ≡ 0 → j ≡ x → ⊥
first_not j x xs none e =
    let c = sum_by-cons (λ y. cond (y == j) 1 0) x xs in
    grind (arith, common_steps, c, none, e)

rest_none : (j x : ℕ) (xs : List ℕ) → count_in j (x ∷ xs) ≡ 0 → count_in j xs ≡ 0
rest_none j x xs none = omega (arith, sum_by-cons (λ y. cond (y == j) 1 0) x xs, none)

sends_first : (m : Move) (p : ParcelView) (ps : List ParcelView) → SendsNone m (p ∷ ps) → SendsNot p.packet m × SendsNone m ps
sends_first (Send a q j net target) p ps none = (first_not j p.packet (packets_in ps) none, rest_none j p.packet (packets_in ps) none)
sends_first Stay p ps none = (tt, tt)
sends_first (Enter q j) p ps none = (tt, tt)
sends_first (Lose j) p ps none = (tt, tt)
sends_first (Grab a q g) p ps none = (tt, tt)
sends_first (SealLater a q j net target) p ps none = (tt, tt)
sends_first (Stop a j) p ps none = (tt, tt)

module _ (plan : Plan) (h : List Event) (e : Event) (m : Move) (is : move_of plan (state plan h) e ≡ m) where
  newest_kept : (i t : ℕ) (sent : Sent) → SendsNot i m → IsNewest (sends_of plan h) i t sent → IsNewest (sends_of plan (e ∷ h)) i t sent
  unfolding sends_of
  newest_kept i t sent other n =
      subst (λ x. IsNewest (with_sent (sends_of plan h) (sent_by_move plan h (node_of (actor_of e)) x)) i t sent) (sym is)
      (newest_by plan h (node_of (actor_of e)) i t sent m (sends_of plan h) other n)

  sent_kept : (p : ParcelView) → SendsNot p.packet m → IsSentBy plan h p → IsSentBy plan (e ∷ h) p
  sent_kept p other s =
      let newest = newest_kept p.packet s.t s.sent other s.newest in
      record {
        t = s.t;
        sent = s.sent;
        newest = newest;
        bytes = ap (option_map (sent_bytes plan)) newest.there ∙ (sym (ap (option_map (sent_bytes plan)) s.newest.there) ∙ s.bytes);
      }

  -- parcels of packets that are not sent keep the bytes of their newest sends
  pub all_kept : (ps : List ParcelView) → SendsNone m ps → All (IsSentBy plan h) ps → All (IsSentBy plan (e ∷ h)) ps
  all_kept [] none all = All-nil (IsSentBy plan (e ∷ h))
  all_kept (p ∷ ps) none all =
      let parts = sends_first m p ps none in
      All-cons (IsSentBy plan (e ∷ h)) p ps (sent_kept p parts.0 (All-head (IsSentBy plan h) p ps all))
      (all_kept ps parts.1 (All-tail (IsSentBy plan h) p ps all))

-- ---- a new send

envelope_is : (s s' d t t' v o o' : ℕ) (b b' : Bool) → s ≡ s' → t ≡ t' → o ≡ o' → b ≡ b' → (frame frame' : List ℕ) → frame ≡ frame'
    → outer_packet (record { source = s; destination = d; ttl = t; vni = v; source_port = o; sealed = b }) frame
    ≡ outer_packet (record { source = s'; destination = d; ttl = t'; vni = v; source_port = o'; sealed = b' }) frame'
envelope_is s s' d t t' v o o' b b' es et eo eb frame frame' ef = rw (es, et, eo, eb, ef) refl

-- what is known of a packet that is settled
pub record Facts (plan : Plan) (h : List Event) (e : Event) (p : ParcelView) (here : Node) (x : Tuple) (known : Carried) : Type 0 where
  pub node : here ≡ node_of (actor_of e)
  pub tuple : x ≡ tuple_at plan p.packet
  pub left : sends plan h p.packet + known.hops ≡ plan.settings.hop_limit
  pub mark : known.sealed ≡ (carried_at (state plan h) p.packet).sealed
  pub packet : IsPacket plan p
  pub nowhere : (q : ℕ) → q < length (state plan h).flow.queues → count_in p.packet (queue_at (state plan h).flow.queues q) ≡ 0

module _ (plan : Plan) (h : List Event) (e : Event) (p : ParcelView) (here : Node) (x : Tuple) (known : Carried) (f : Facts plan h e p here x known) where
  new_sent : (a q j net : ℕ) (target : Endpoint) → move_of plan (state plan h) e ≡ Send a q j net target → j ≡ p.packet → IsSentBy plan (e ∷ h) (wrapped here x known p net target)
  unfolding sends_of
  new_sent a q j net target is of =
      let here_is = node_of (actor_of e) in
      let some : List ℕ → Option (List ℕ) = Some in
      let ttl : known.hops ≡ plan.settings.hop_limit - sends plan h j = omega (arith, f.left, ap (sends plan h) of) in
      let sent : Sent = record {
        packet = j;
        outer = record {
          source = source_address here_is;
          destination = endpoint_address target;
          ttl = plan.settings.hop_limit - sends plan h j;
          vni = net;
          source_port = entropy_port (flow_hash (tuple_at plan j));
          sealed = (carried_at (state plan h) j).sealed;
        };
      } in
      let sents : sends_of plan (e ∷ h) ≡ sends_of plan h ++ sent ∷ [] = ap (λ y. with_sent (sends_of plan h) (sent_by_move plan h here_is y)) is in
      let last : IsNewest (sends_of plan h ++ sent ∷ []) p.packet (length (sends_of plan h)) sent =
      subst (λ i. IsNewest (sends_of plan h ++ sent ∷ []) i (length (sends_of plan h)) sent) of (newest_last (sends_of plan h) sent) in
      let bytes : sent_bytes plan sent ≡ wire_of (wrapped here x known p net target) =
      sym (envelope_is _ _ (endpoint_address target) _ _ net _ _ _ _ (ap source_address f.node) ttl
      (ap (λ t. entropy_port (flow_hash t)) (f.tuple ∙ ap (tuple_at plan) (sym of)))
      (f.mark ∙ ap (λ k. (carried_at (state plan h) k).sealed) (sym of)) _ _ (f.packet.frame ∙ ap (frame_at plan) (sym of))) in
      record {
        t = length (sends_of plan h);
        sent = sent;
        newest = subst (λ xs. IsNewest xs p.packet (length (sends_of plan h)) sent) (sym sents) last;
        bytes = ap (λ xs. option_map (sent_bytes plan) (slice_get xs (length (sends_of plan h)))) sents
            ∙ (ap (option_map (sent_bytes plan)) (last_pushed (sends_of plan h) sent) ∙ ap some bytes);
      }

-- the move is of this packet, from a hand
abbrev pub IsOf : ℕ → Move → Type 0
IsOf i (Send a q j net target) = j ≡ i
IsOf i (SealLater a q j net target) = j ≡ i
IsOf i (Stop a j) = j ≡ i
IsOf i _ = ⊥

-- ---- a settled packet

-- the `wire` queues stand after the others
wire_after : (v : Settings) (node : Node) → 2 * v.hosts ≤ queue_place v node Wire
wire_after v (Host h) = omega arith
wire_after v (Gate g) = omega arith

module _ (plan : Plan) (h : List Event) (e : Event) (p : ParcelView) (here : Node) (x : Tuple) (known : Carried) (f : Facts plan h e p here x known) (roads : Roads) (all : HasParcels plan h roads) (stands : roads.flow ≡ (state plan h).flow) (sized : length (state plan h).flow.queues ≡ queue_count plan.settings) where
  packets_moved : (m : Move) → All (λ ps. All (IsPacket plan) ps) (parcels_moved here x known roads.parcels p m)
  packets_moved (Send a q j net target) =
      all_with (IsPacket plan) roads.parcels q (wrapped here x known p net target) (record { frame = f.packet.frame; vm = f.packet.vm }) all.packets
  packets_moved (SealLater a q j net target) = all_with (IsPacket plan) roads.parcels q p f.packet all.packets
  packets_moved Stay = all.packets
  packets_moved (Enter q j) = all.packets
  packets_moved (Lose j) = all.packets
  packets_moved (Grab a q g) = all.packets
  packets_moved (Stop a j) = all.packets

  numbers_moved : (m : Move) → IsOf p.packet m → numbers_of (parcels_moved here x known roads.parcels p m) ≡ (flow_after roads.flow m).queues
  unfolding flow_after
  numbers_moved (Send a q j net target) of =
      numbers_with roads.parcels q (wrapped here x known p net target)
      ∙ (ap (λ qs. pushed qs q p.packet) all.numbers ∙ ap (pushed roads.flow.queues q) (sym of))
  numbers_moved (SealLater a q j net target) of =
      numbers_with roads.parcels q p ∙ (ap (λ qs. pushed qs q p.packet) all.numbers ∙ ap (pushed roads.flow.queues q) (sym of))
  numbers_moved (Stop a j) of = all.numbers
  numbers_moved Stay of = absurd of
  numbers_moved (Enter q j) of = absurd of
  numbers_moved (Lose j) of = absurd of
  numbers_moved (Grab a q g) of = absurd of

  -- the packet is in no `wire` queue
  none_in_wire : (node : Node) → IsNode plan.settings node → (j : ℕ) → j ≡ p.packet → count_in j (packets_in (parcels_at roads.parcels (queue_place plan.settings node Wire))) ≡ 0
  none_in_wire node there j of =
      let w = queue_place plan.settings node Wire in
      let within : w < length (state plan h).flow.queues = omega (arith, queue_within plan.settings node Wire there (wire_there node), sized) in
      let queue : queue_at (state plan h).flow.queues w ≡ packets_in (parcels_at roads.parcels w) =
      ap (λ g. queue_at g.queues w) (sym stands) ∙ (ap (λ qs. queue_at qs w) (sym all.numbers) ∙ numbers_at roads.parcels w) in
      ap (count_in j) (sym queue) ∙ (ap (λ i. count_in i (queue_at (state plan h).flow.queues w)) of ∙ f.nowhere w within)

  outers_moved : (m : Move) → move_of plan (state plan h) e ≡ m → IsOf p.packet m → MoveFits plan.settings m → (node : Node) → IsNode plan.settings node → All (IsSentBy plan (e ∷ h)) (parcels_at (parcels_moved here x known roads.parcels p m) (queue_place plan.settings node Wire))
  outers_moved (Send a q j net target) is of fits node there =
      let w = queue_place plan.settings node Wire in
      let old = all_kept plan h e (Send a q j net target) is (parcels_at roads.parcels w) (none_in_wire node there j of) (all.outers node there) in
      let new = wrapped here x known p net target in
      set_at roads.parcels q w (parcels_at roads.parcels q ++ new ∷ []) [] (All (IsSentBy plan (e ∷ h))) old
      (λ same. All-push (IsSentBy plan (e ∷ h)) (parcels_at roads.parcels q) new
      (subst (λ k. All (IsSentBy plan (e ∷ h)) (parcels_at roads.parcels k)) (sym same) old) (new_sent plan h e p here x known f a q j net target is of))
  outers_moved (Stop a j) is of fits node there =
      all_kept plan h e (Stop a j) is (parcels_at roads.parcels (queue_place plan.settings node Wire)) tt (all.outers node there)
  outers_moved (SealLater a q j net target) is of fits node there =
      let w = queue_place plan.settings node Wire in
      let old = all_kept plan h e (SealLater a q j net target) is (parcels_at roads.parcels w) tt (all.outers node there) in
      set_at roads.parcels q w (parcels_at roads.parcels q ++ p ∷ []) [] (All (IsSentBy plan (e ∷ h))) old
      (λ same. let apart : ⊥ = omega (arith, wire_after plan.settings node, fits.1, same) in absurd apart)
  outers_moved Stay is of fits node there = absurd of
  outers_moved (Enter q j) is of fits node there = absurd of
  outers_moved (Lose j) is of fits node there = absurd of
  outers_moved (Grab a q g) is of fits node there = absurd of

  pub settled : (roads' : Roads) (m : Move) → move_of plan (state plan h) e ≡ m → IsOf p.packet m → MoveFits plan.settings m → roads'.flow ≡ flow_after roads.flow m → roads'.parcels ≡ parcels_moved here x known roads.parcels p m → HasParcels plan (e ∷ h) roads'
  settled roads' m is of fits flow parcels =
      record {
        packets = subst (All (λ ps. All (IsPacket plan) ps)) (sym parcels) (packets_moved m);
        numbers = ap numbers_of parcels ∙ (numbers_moved m of ∙ ap (λ (g : Flow). g.queues) (sym flow));
        outers = λ node there. subst (λ ps. All (IsSentBy plan (e ∷ h)) (parcels_at ps (queue_place plan.settings node Wire))) (sym parcels)
            (outers_moved m is of fits node there);
      }

-- a packet in hand is in no queue
pub nowhere : (plan : Plan) (h : List Event) (a : Actor) (i need : ℕ) (q : Queue) → IsSound plan → Run plan h → hand_at (state plan h).flow.hands (hand_place plan.settings a) ≡ Some (record { packet = i; need = need; queue = q }) → (k : ℕ) → k < length (state plan h).flow.queues → count_in i (queue_at (state plan h).flow.queues k) ≡ 0
nowhere plan h a i need q sound r has k there =
    let g : Held = record { packet = i; need = need; queue = q } in
    in_no_queue i (hand_place plan.settings a) g (state plan h).flow has refl (omega (arith, each_has_one plan h r i, (injected_once plan h sound r).once i)) k there

-- ---- the other events

-- no packet moves
pub quiet : (plan : Plan) (h : List Event) (e : Event) (roads : Roads) → move_of plan (state plan h) e ≡ Stay → HasParcels plan h roads → HasParcels plan (e ∷ h) roads
quiet plan h e roads is all =
    record {
      packets = all.packets;
      numbers = all.numbers;
      outers = λ node there. all_kept plan h e Stay is (parcels_at roads.parcels (queue_place plan.settings node Wire)) tt (all.outers node there);
    }

-- the first one of a queue is taken
pub taken : (plan : Plan) (h : List Event) (e : Event) (roads roads' : Roads) (hand from a q : ℕ) (g held : Held) → move_of plan (state plan h) e ≡ Grab a q g → roads'.flow ≡ flow_after roads.flow (Grab hand from held) → roads'.parcels ≡ without_first roads.parcels from → HasParcels plan h roads → HasParcels plan (e ∷ h) roads'
unfolding flow_after
taken plan h e roads roads' hand from a q g held is flow parcels all =
    record {
      packets = all_without_first (IsPacket plan) roads.parcels roads'.parcels from parcels all.packets;
      numbers = ap numbers_of parcels ∙ (numbers_without roads.parcels from ∙ (ap (λ qs. popped qs from) all.numbers ∙ ap (λ (f : Flow). f.queues) (sym flow)));
      outers = λ node there.
          let w = queue_place plan.settings node Wire in
          let old = all_kept plan h e (Grab a q g) is (parcels_at roads.parcels w) tt (all.outers node there) in
          subst (λ ps. All (IsSentBy plan (e ∷ h)) (parcels_at ps w)) (sym parcels)
          (set_at roads.parcels from w (drop 1 (parcels_at roads.parcels from)) [] (All (IsSentBy plan (e ∷ h))) old
          (λ same. All-drop (IsSentBy plan (e ∷ h)) 1 (parcels_at roads.parcels from)
          (subst (λ k. All (IsSentBy plan (e ∷ h)) (parcels_at roads.parcels k)) (sym same) old)));
    }

numbers_entered : (parcels : List (List ParcelView)) (f : Flow) (q : ℕ) (p : ParcelView) (full : Bool) → numbers_of parcels ≡ f.queues → numbers_of (cond full parcels (with_parcel parcels q p)) ≡ (flow_after f (enter_by q p.packet full)).queues
unfolding flow_after
numbers_entered parcels f q p true is = is
numbers_entered parcels f q p false is = numbers_with parcels q p ∙ ap (λ qs. pushed qs q p.packet) is

enters_none : (q i : ℕ) (full : Bool) (ps : List ParcelView) → SendsNone (enter_by q i full) ps
enters_none q i true ps = tt
enters_none q i false ps = tt

outside : (P : List ParcelView → Type 0) (parcels : List (List ParcelView)) (q w : ℕ) (p : ParcelView) (full : Bool) → (q ≡ w → ⊥) → P (parcels_at parcels w) → P (parcels_at (cond full parcels (with_parcel parcels q p)) w)
outside P parcels q w p true other old = old
outside P parcels q w p false other old = set_at parcels q w (parcels_at parcels q ++ p ∷ []) [] P old (λ same. absurd (other same))

-- a packet comes to an `out` queue, or is lost there
pub entered : (plan : Plan) (h : List Event) (e : Event) (roads roads' : Roads) (p : ParcelView) (q k : ℕ) (full : Bool) → move_of plan (state plan h) e ≡ enter_by k p.packet full → q < plan.settings.hosts → roads'.flow ≡ flow_after roads.flow (enter_by q p.packet full) → roads'.parcels ≡ cond full roads.parcels (with_parcel roads.parcels q p) → IsPacket plan p → HasParcels plan h roads → HasParcels plan (e ∷ h) roads'
entered plan h e roads roads' p q k full is out flow parcels ok all =
    record {
      packets = all_entered (IsPacket plan) roads.parcels roads'.parcels q p full parcels ok all.packets;
      numbers = ap numbers_of parcels ∙ (numbers_entered roads.parcels roads.flow q p full all.numbers ∙ ap (λ (f : Flow). f.queues) (sym flow));
      outers = λ node there.
          let w = queue_place plan.settings node Wire in
          let old = all_kept plan h e (enter_by k p.packet full) is (parcels_at roads.parcels w) (enters_none k p.packet full (parcels_at roads.parcels w)) (all.outers node there) in
          subst (λ ps. All (IsSentBy plan (e ∷ h)) (parcels_at ps w)) (sym parcels)
          (outside (All (IsSentBy plan (e ∷ h))) roads.parcels q w p full (λ same. omega (arith, wire_after plan.settings node, out, same)) old);
    }

-- no parcels at the start
numbers_none : (n : ℕ) → numbers_of (replicate n []) ≡ replicate n []
numbers_none zero = refl
numbers_none (suc n) = ap (λ (qs : List (List ℕ)). [] ∷ qs) (numbers_none n)

pub none_yet : (plan : Plan) (roads : Roads) (n : ℕ) → roads.parcels ≡ replicate n [] → roads.flow.queues ≡ replicate n [] → HasParcels plan [] roads
none_yet plan roads n parcels queues =
    let empty : List ParcelView = [] in
    record {
      packets = subst (λ ps. All (λ qs. All (IsPacket plan) qs) ps) (sym parcels) (All-replicate (λ qs. All (IsPacket plan) qs) n empty (All-nil (IsPacket plan)));
      numbers = ap numbers_of parcels ∙ (numbers_none n ∙ sym queues);
      outers = λ node there.
          let w = queue_place plan.settings node Wire in
          subst (All (IsSentBy plan [])) (sym (ap (λ ps. parcels_at ps w) parcels ∙ replicate_at n w empty)) (All-nil (IsSentBy plan []));
    }

-- ---- settled packets

-- the packet in a hand is settled by an event
pub settles : (plan : Plan) (h : List Event) (e : Event) (a : Actor) (need : ℕ) (q : Queue) (p : ParcelView) (here : Node) (x : Tuple) (m : Move) (roads roads' : Roads) →
    IsSound plan → Run plan h → Legal plan (state plan h) e → IsPacket plan p
    → hand_at (state plan h).flow.hands (hand_place plan.settings a) ≡ Some (record { packet = p.packet; need = need; queue = q })
    → roads.flow ≡ (state plan h).flow → here ≡ node_of (actor_of e) → x ≡ tuple_at plan p.packet → m ≡ move_of plan (state plan h) e → IsOf p.packet m
    → roads'.flow ≡ flow_after roads.flow m → roads'.parcels ≡ parcels_moved here x (carried_in roads.flow.carried p.packet) roads.parcels p m
    → HasParcels plan h roads → HasParcels plan (e ∷ h) roads'
settles plan h e a need q p here x m roads roads' sound r legal ok has stands node tuple move of flow parcels all =
    let i = p.packet in
    let g : Held = record { packet = i; need = need; queue = q } in
    let nets = nets_fit plan h sound r in
    let left = hops_left plan h r i (held_is_known plan h (hand_place plan.settings a) i sound r (g, has, refl)) in
    let facts : Facts plan h e p here x (carried_in roads.flow.carried i) = record {
      node = node;
      tuple = tuple;
      left = ap (λ (f : Flow). sends plan h i + (carried_in f.carried i).hops) stands ∙ left;
      mark = ap (λ (f : Flow). (carried_in f.carried i).sealed) stands;
      packet = ok;
      nowhere = nowhere plan h a i need q sound r has;
    } in
    settled plan h e p here x (carried_in roads.flow.carried i) facts roads all stands (sizes plan h).queues roads' m (sym move) of
    (subst (MoveFits plan.settings) (sym move) (event_fits plan h sound r e legal nets)) flow parcels

-- ---- events that move no packet

abbrev pub MovesNone : Event → Type 0
MovesNone (Append n) = Unit {0}
MovesNone (Review n) = Unit {0}
MovesNone (Hold n) = Unit {0}
MovesNone (Free n) = Unit {0}
MovesNone (Wait n) = Unit {0}
MovesNone (Blackout n) = Unit {0}
MovesNone (Resume n) = Unit {0}
MovesNone (Finish n) = Unit {0}
MovesNone (Announce node upto) = Unit {0}
MovesNone (Installed node upto) = Unit {0}
MovesNone (Unpin host vm) = Unit {0}
MovesNone _ = ⊥

stays : (plan : Plan) (s : State) (e : Event) → MovesNone e → move_of plan s e ≡ Stay
unfolding move_of
stays plan s (Append n) t = refl
stays plan s (Review n) t = refl
stays plan s (Hold n) t = refl
stays plan s (Free n) t = refl
stays plan s (Wait n) t = refl
stays plan s (Blackout n) t = refl
stays plan s (Resume n) t = refl
stays plan s (Finish n) t = refl
stays plan s (Announce node upto) t = refl
stays plan s (Installed node upto) t = refl
stays plan s (Unpin host vm) t = refl
stays plan s e t = absurd t

pub still : (plan : Plan) (h : List Event) (e : Event) (roads : Roads) → MovesNone e → HasParcels plan h roads → HasParcels plan (e ∷ h) roads
still plan h e roads t all = quiet plan h e roads (stays plan (state plan h) e t) all

-- ---- what the code asks for

-- a packet in hand is one of the plan, and its hops fit a TTL
pub hops_fit : (plan : Plan) (h : List Event) (f : Flow) (a : Actor) (i need : ℕ) (q : Queue) → IsSound plan → Run plan h → hand_at (state plan h).flow.hands (hand_place plan.settings a) ≡ Some (record { packet = i; need = need; queue = q }) → f ≡ (state plan h).flow → (carried_in f.carried i).hops < 2 ^ 8
hops_fit plan h f a i need q sound r has stands =
    let g : Held = record { packet = i; need = need; queue = q } in
    let left = hops_left plan h r i (held_is_known plan h (hand_place plan.settings a) i sound r (g, has, refl)) in
    omega (arith, left, sound.settings.hop_limit.1, ap (λ (f : Flow). (carried_in f.carried i).hops) stands)

pub net_fits : (plan : Plan) (h : List Event) (f : Flow) (i : ℕ) → IsSound plan → Run plan h → f ≡ (state plan h).flow → (carried_in f.carried i).net < 2 ^ 24
net_fits plan h f i sound r stands = subst (λ (f : Flow). (carried_in f.carried i).net < 2 ^ 24) (sym stands) (nets_fit plan h sound r i)

-- what is taken from `wire` has the bytes of its packet's newest send
pub first_sent : (plan : Plan) (h : List Event) (roads : Roads) (node : Node) (q : Queue) (from : ℕ) (p : ParcelView) → HasParcels plan h roads → IsNode plan.settings node → from ≡ queue_place plan.settings node q → q ≡ Wire → slice_get (parcels_at roads.parcels from) 0 ≡ Some p → IsSentBy plan h p
first_sent plan h roads node q from p all there place is first =
    let at : from ≡ queue_place plan.settings node Wire = place ∙ ap (queue_place plan.settings node) is in
    first_of (IsSentBy plan h) (parcels_at roads.parcels (queue_place plan.settings node Wire)) p (all.outers node there)
    (subst (λ k. slice_get (parcels_at roads.parcels k) 0 ≡ Some p) at first)

-- ---- takes and injections

pub taken_from : (plan : Plan) (h : List Event) (a : Actor) (q : Queue) (i : ℕ) (roads roads' : Roads) (hand from : ℕ) (held : Held) → roads'.flow ≡ flow_after roads.flow (Grab hand from held) → roads'.parcels ≡ without_first roads.parcels from → HasParcels plan h roads → HasParcels plan (Take a q i ∷ h) roads'
unfolding move_of
taken_from plan h a q i roads roads' hand from held flow parcels all = taken plan h (Take a q i) roads roads' hand from _ _ _ held refl flow parcels all

pub injected_to : (plan : Plan) (h : List Event) (n : ℕ) (roads roads' : Roads) (p : ParcelView) (q : ℕ) (full : Bool) → q < plan.settings.hosts → roads'.flow ≡ flow_after roads.flow (enter_by q p.packet full) → roads'.parcels ≡ cond full roads.parcels (with_parcel roads.parcels q p) → IsPacket plan p → HasParcels plan h roads → HasParcels plan (Inject n p.packet full ∷ h) roads'
unfolding move_of
injected_to plan h n roads roads' p q full out flow parcels ok all = entered plan h (Inject n p.packet full) roads roads' p q _ full refl out flow parcels ok all
