-- The parts before the first turn are what they have to be after no events.
use Rattle.std.proofs.Common.{◌≡◌, ℕ, zero, suc, ◌+◌, ◌*◌, ◌<◌, List, [], ◌∷◌, ◌++◌, take, replicate, refl, sym, ap, ◌∙◌, subst, arith, Option, Some, None, Result, Ok}
use Rattle.and_policy.specs.declared.entry.Op.{Op}
use Rattle.and_policy.specs.declared.memory.NoMemory.{NoMemory}
use Rattle.and_policy.specs.Caches.{empty}
use Rattle.and_events.specs.declared.event.Actor.{Actor}
use Rattle.and_events.specs.declared.event.Actor.TheVariants.{Coproc, Gateway}
use Rattle.and_events.specs.declared.event.Held.{Held}
use Rattle.and_events.specs.declared.event.Node.{Node}
use Rattle.and_events.specs.declared.event.Node.TheVariants.{Host, Gate}
use Rattle.and_events.specs.declared.plan.Plan.{Plan}
use Rattle.and_events.specs.declared.plan.Settings.{Settings}
use Rattle.and_events.specs.Places.{hand_count, hand_place, node_count, node_place}
use Rattle.and_events.specs.State.{state, start, announced_of, installed_of, programme_of}
use Rattle.and_laws.proofs.Rows.{replicate_at}
use Rattle.and_others.specs.Ways.{cache_after}
use Rattle.and_tables.specs.HostViews.{HostView}
use Rattle.and_decide.specs.Deciding.{AreRight, Each, IsRight}
use Rattle.and_worker.specs.Workers.{WorkerView}
use Rattle.and_worker.specs.Workers as workers
use Rattle.and_hover.specs.Coprocs.{CoprocView}
use Rattle.and_hover.specs.Hovers.{HoverView}
use Rattle.and_replay.specs.declared.parts.Parts.{Parts}
use Rattle.and_replay.specs.Parting.{AreFresh, AreParts, HasNothing, FreshGates, FreshHosts, FreshWorkers, IsBatch, IsCoprocAt, IsFresh, IsHoverAt, IsWorkerAt, WorkerHas, host_tables, installed_ops}
use Rattle.and_replay.proofs.Rows.{mapped, pushed}

each_empty : (n : ℕ) (t : HostView) → Each (Each (IsRight t)) (replicate n [])
each_empty zero t = tt
each_empty (suc n) t = (tt, each_empty n t)

module _ (plan : Plan) where
  no_programme : (node : Node) → programme_of plan (state plan []) node ≡ []
  unfolding state start
  no_programme node = let nothing : List Op = [] in replicate_at (node_count plan.settings) (node_place plan.settings node) nothing

  none_installed : (node : Node) → installed_of plan (state plan []) node ≡ 0
  unfolding state start
  none_installed node = replicate_at (node_count plan.settings) (node_place plan.settings node) 0

  none_announced : (node : Node) → announced_of plan (state plan []) node ≡ 0
  unfolding state start
  none_announced node = replicate_at (node_count plan.settings) (node_place plan.settings node) 0

  take_none : (n : ℕ) (ops : List Op) → ops ≡ [] → n ≡ 0 → take n ops ≡ []
  take_none n ops is none = rw none refl

  no_ops : (node : Node) → installed_ops plan [] node ≡ []
  no_ops node = take_none (installed_of plan (state plan []) node) (programme_of plan (state plan []) node) (no_programme node) (none_installed node)

  no_batch : (node : Node) (o : Option (List Op)) → o ≡ None → IsBatch plan [] node o
  no_batch node None is = none_installed node ∙ sym (none_announced node)
  no_batch node (Some ops) is = absurd (cc)

  no_hand : (a : Actor) → HasNothing plan [] a
  unfolding state start
  no_hand a = let nothing : Option Held = None in replicate_at (hand_count plan.settings) (hand_place plan.settings a) nothing

  no_cache : (host index : ℕ) → cache_after plan [] host index ≡ empty
  unfolding cache_after
  no_cache host index = refl

  nothing_wrong : (t : HostView) → AreRight t empty
  nothing_wrong t = each_empty 64 t

  worker_begins : (n : ℕ) (w : WorkerView) → IsFresh plan.settings n w → IsWorkerAt plan [] n w
  worker_begins n w is = record {
    host = is.host;
    index = is.index;
    place = is.place;
    working = record {
      hand = subst (WorkerHas plan [] (workers.actor_of w)) (sym is.hand) (no_hand (workers.actor_of w));
      compared = omega (arith, is.compared);
      right = subst (AreRight (host_tables plan [] w.host)) (sym is.cache) (nothing_wrong (host_tables plan [] w.host));
      cache = is.cache ∙ sym (no_cache w.host w.index);
    };
  }

  coproc_begins : (n : ℕ) (c : CoprocView) → c ≡ record { host = n; hand = None } → IsCoprocAt plan [] n c
  coproc_begins n c is = subst (IsCoprocAt plan [] n) (sym is) (record { host = refl; sealing = no_hand (Coproc n) })

  hover_begins : (n : ℕ) (v : HoverView) → v ≡ record { gateway = n; compared = 0; hand = None } → IsHoverAt plan [] n v
  hover_begins n v is =
      subst (IsHoverAt plan [] n) (sym is) (record { gateway = refl; passing = record { hand = no_hand (Gateway n); compared = omega arith } })

  pub parts_begin : (p : Parts) → AreFresh plan.settings p → AreParts plan [] p
  parts_begin p fresh = record {
    hosts = mapped _ (λ n t. t ≡ host_tables plan [] n) plan.settings.hosts p.hosts.items fresh.hosts
        (λ n t l is. is ∙ ap (λ ops. record { host = n; gateways = plan.settings.gateways; ops = ops }) (sym (no_ops (Host n))));
    gates = mapped _ (λ n t. t ≡ installed_ops plan [] (Gate n)) plan.settings.gateways p.gates.items fresh.gates (λ n t l is. is ∙ sym (no_ops (Gate n)));
    host_batches = mapped _ (λ n x. IsBatch plan [] (Host n) x) plan.settings.hosts p.host_batches.items fresh.host_batches (λ n x l is. no_batch (Host n) x is);
    gate_batches = mapped _ (λ n x. IsBatch plan [] (Gate n) x) plan.settings.gateways p.gate_batches.items fresh.gate_batches (λ n x l is. no_batch (Gate n) x is);
    workers = mapped _ (IsWorkerAt plan []) _ p.workers.items fresh.workers (λ n w l is. worker_begins n w is);
    coprocs = mapped _ (IsCoprocAt plan []) plan.settings.hosts p.coprocs.items fresh.coprocs (λ n c l is. coproc_begins n c is);
    hovers = mapped _ (IsHoverAt plan []) plan.settings.gateways p.hovers.items fresh.hovers (λ n v l is. hover_begins n v is);
  }

-- a worker that was just made
pub fresh_worker : (s : Settings) (host index : ℕ) (w : WorkerView) → host < s.hosts → index < s.workers → w ≡ record { host = host; index = index; cache = empty; compared = 0; hand = None } → IsFresh s (host * s.workers + index) w
fresh_worker s host index w in_hosts in_workers is =
    subst (IsFresh s (host * s.workers + index)) (sym is) (record { host = in_hosts; index = in_workers; place = refl; cache = refl; compared = refl; hand = refl })

pub one_more_worker : (s : Settings) (host index : ℕ) (ws : List WorkerView) (w : WorkerView) → host < s.hosts → index < s.workers → w ≡ record { host = host; index = index; cache = empty; compared = 0; hand = None }
    → FreshWorkers s (host * s.workers + index) ws → FreshWorkers s (host * s.workers + (index + 1)) (ws ++ w ∷ [])
one_more_worker s host index ws w in_hosts in_workers is all =
    let next : (host * s.workers + index) + 1 ≡ host * s.workers + (index + 1) = omega arith in
    subst (λ n. FreshWorkers s n (ws ++ w ∷ [])) next (pushed (IsFresh s) (host * s.workers + index) ws w all (fresh_worker s host index w in_hosts in_workers is))

-- tables that were just made
pub one_more_host : (s : Settings) (host : ℕ) (ts : List HostView) (t : HostView) (made : Result HostView NoMemory) → made ≡ Ok t → made ≡ Ok (record { host = host; gateways = s.gateways; ops = [] })
    → FreshHosts s host ts → FreshHosts s (host + 1) (ts ++ t ∷ [])
one_more_host s host ts t made is so all =
    let it : HostView = record { host = host; gateways = s.gateways; ops = [] } in
    let both : Ok t ≡ Ok it = sym is ∙ so in
    let same : t ≡ it = cc in
    pushed _ host ts t all same

pub one_more_gate : (count : ℕ) (ts : List (List Op)) (t : List Op) → t ≡ [] → FreshGates count ts → FreshGates (count + 1) (ts ++ t ∷ [])
one_more_gate count ts t is all = pushed _ count ts t all is
