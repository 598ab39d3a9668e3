-- Actors that take packets: their numbers and places tell them apart, and two with one hand work at one node.
use Rattle.std.proofs.Common.{◌≡◌, ℕ, ◌+◌, ◌*◌, ◌<◌, ◌≤◌, refl, ap, arith, ⊎_elim}
use Rattle.std.proofs.lemmas.Bool.{cases_lt}
use Rattle.std.proofs.lemmas.Nat.{mul-add-lt}
use Rattle.and_events.specs.declared.event.Actor.{Actor}
use Rattle.and_events.specs.declared.event.Actor.TheVariants.{HostInstall, GateInstall, Worker, Coproc, Gateway, Controller, Driver}
use Rattle.and_events.specs.declared.event.Node.TheVariants.{Host, Gate}
use Rattle.and_events.specs.declared.event.Queue.{Queue}
use Rattle.and_events.specs.declared.event.Queue.TheVariants.{Out, Wire, Seal}
use Rattle.and_events.specs.declared.plan.Settings.{Settings}
use Rattle.and_events.specs.declared.plan.Plan.{Plan}
use Rattle.and_events.specs.Places.{node_count, hand_place, actor_number, node_of, IsActor, IsNode, HasQueue, IsWorker, IsGatewayWorker, IsCoprocessor}
use Rattle.and_events.specs.State.{State}
use Rattle.and_events.specs.Legal.{TakesFrom}
use Rattle.and_laws.specs.Stages.{Takes, MayTake}

pub takes_worker : (a : Actor) → IsWorker a → Takes a
takes_worker (Worker h w) is = tt
takes_worker (HostInstall h) is = absurd is
takes_worker (GateInstall g) is = absurd is
takes_worker (Coproc h) is = absurd is
takes_worker (Gateway g) is = absurd is
takes_worker Controller is = absurd is
takes_worker Driver is = absurd is

pub takes_gateway : (a : Actor) → IsGatewayWorker a → Takes a
takes_gateway (Gateway g) is = tt
takes_gateway (HostInstall h) is = absurd is
takes_gateway (GateInstall g) is = absurd is
takes_gateway (Worker h w) is = absurd is
takes_gateway (Coproc h) is = absurd is
takes_gateway Controller is = absurd is
takes_gateway Driver is = absurd is

pub takes_coprocessor : (a : Actor) → IsCoprocessor a → Takes a
takes_coprocessor (Coproc h) is = tt
takes_coprocessor (HostInstall h) is = absurd is
takes_coprocessor (GateInstall g) is = absurd is
takes_coprocessor (Worker h w) is = absurd is
takes_coprocessor (Gateway g) is = absurd is
takes_coprocessor Controller is = absurd is
takes_coprocessor Driver is = absurd is

-- where the actor takes from is a node of the plan that has the queue
pub record TakesAt (plan : Plan) (a : Actor) (q : Queue) : Type 0 where
  pub node : IsNode plan.settings (node_of a)
  pub queue : HasQueue (node_of a) q
  pub takes : Takes a

pub takes_at : (plan : Plan) (s : State) (a : Actor) (q : Queue) → IsActor plan.settings a → TakesFrom plan s a q → TakesAt plan a q
takes_at plan s (Worker h w) Out is from = record { node = is.0; queue = tt; takes = tt }
takes_at plan s (Worker h w) Wire is from = record { node = is.0; queue = tt; takes = tt }
takes_at plan s (Worker h w) Seal is from = absurd from
takes_at plan s (Coproc h) Seal is from = record { node = is; queue = tt; takes = tt }
takes_at plan s (Coproc h) Out is from = absurd from
takes_at plan s (Coproc h) Wire is from = absurd from
takes_at plan s (Gateway g) Wire is from = record { node = is; queue = tt; takes = tt }
takes_at plan s (Gateway g) Out is from = absurd from
takes_at plan s (Gateway g) Seal is from = absurd from
takes_at plan s (HostInstall h) q is from = absurd from
takes_at plan s (GateInstall g) q is from = absurd from
takes_at plan s Controller q is from = absurd from
takes_at plan s Driver q is from = absurd from

-- the number of an actor that takes packets is that of its hand after the nodes
pub hand_number : (s : Settings) (a : Actor) → Takes a → actor_number s a ≡ node_count s + hand_place s a
hand_number s (Worker h w) t = refl
hand_number s (Coproc h) t = refl
hand_number s (Gateway g) t = refl
hand_number s (HostInstall h) t = absurd t
hand_number s (GateInstall g) t = absurd t
hand_number s Controller t = absurd t
hand_number s Driver t = absurd t

pub same_node : (s : Settings) (a b : Actor) → IsActor s a → IsActor s b → Takes a → Takes b → hand_place s a ≡ hand_place s b → node_of a ≡ node_of b
same_node s (Worker h w) (Worker h' w') is is' t t' e =
    ⊎_elim (λ (l : h < h'). absurd (omega (arith, mul-add-lt h s.workers w h' l is.1, e)))
    (λ (l : h' ≤ h).
    ⊎_elim (λ (m : h' < h). absurd (omega (arith, mul-add-lt h' s.workers w' h m is'.1, e)))
    (λ (m : h ≤ h'). let same : h ≡ h' = omega arith in ap Host same) (cases_lt h' h))
    (cases_lt h h')
same_node s (Worker h w) (Coproc h') is is' t t' e = absurd (omega (arith, mul-add-lt h s.workers w s.hosts is.0 is.1, e))
same_node s (Worker h w) (Gateway g) is is' t t' e = absurd (omega (arith, mul-add-lt h s.workers w s.hosts is.0 is.1, e))
same_node s (Coproc h) (Worker h' w') is is' t t' e = absurd (omega (arith, mul-add-lt h' s.workers w' s.hosts is'.0 is'.1, e))
same_node s (Coproc h) (Coproc h') is is' t t' e = let same : h ≡ h' = omega arith in ap Host same
same_node s (Coproc h) (Gateway g) is is' t t' e = absurd (omega (arith, is, e))
same_node s (Gateway g) (Worker h' w') is is' t t' e = absurd (omega (arith, mul-add-lt h' s.workers w' s.hosts is'.0 is'.1, e))
same_node s (Gateway g) (Coproc h') is is' t t' e = absurd (omega (arith, is', e))
same_node s (Gateway g) (Gateway g') is is' t t' e = let same : g ≡ g' = omega arith in ap Gate same
same_node s (HostInstall h) b is is' t t' e = absurd t
same_node s (GateInstall g) b is is' t t' e = absurd t
same_node s Controller b is is' t t' e = absurd t
same_node s Driver b is is' t t' e = absurd t
same_node s a (HostInstall h) is is' t t' e = absurd t'
same_node s a (GateInstall g) is is' t t' e = absurd t'
same_node s a Controller is is' t t' e = absurd t'
same_node s a Driver is is' t t' e = absurd t'

-- ---- which queues

pub may_take : (plan : Plan) (s : State) (a : Actor) (q : Queue) → TakesFrom plan s a q → MayTake a q
may_take plan s (Worker h w) Out from = tt
may_take plan s (Worker h w) Wire from = tt
may_take plan s (Worker h w) Seal from = absurd from
may_take plan s (Coproc h) Seal from = tt
may_take plan s (Coproc h) Out from = absurd from
may_take plan s (Coproc h) Wire from = absurd from
may_take plan s (Gateway g) Wire from = tt
may_take plan s (Gateway g) Out from = absurd from
may_take plan s (Gateway g) Seal from = absurd from
may_take plan s (HostInstall h) q from = absurd from
may_take plan s (GateInstall g) q from = absurd from
may_take plan s Controller q from = absurd from
may_take plan s Driver q from = absurd from

-- two actors with one hand take from the same queues
pub same_kind : (s : Settings) (a b : Actor) (q : Queue) → IsActor s a → IsActor s b → Takes a → Takes b → hand_place s a ≡ hand_place s b → MayTake a q → MayTake b q
same_kind s (Worker h w) (Worker h' w') Out is is' t t' e may = tt
same_kind s (Worker h w) (Worker h' w') Wire is is' t t' e may = tt
same_kind s (Worker h w) (Worker h' w') Seal is is' t t' e may = absurd may
same_kind s (Worker h w) (Coproc h') q is is' t t' e may = absurd (omega (arith, mul-add-lt h s.workers w s.hosts is.0 is.1, e))
same_kind s (Worker h w) (Gateway g) q is is' t t' e may = absurd (omega (arith, mul-add-lt h s.workers w s.hosts is.0 is.1, e))
same_kind s (Coproc h) (Worker h' w') q is is' t t' e may = absurd (omega (arith, mul-add-lt h' s.workers w' s.hosts is'.0 is'.1, e))
same_kind s (Coproc h) (Coproc h') q is is' t t' e may = kept q may
  where
    kept : (q : Queue) → MayTake (Coproc h) q → MayTake (Coproc h') q
    kept Seal may = tt
    kept Out may = absurd may
    kept Wire may = absurd may
same_kind s (Coproc h) (Gateway g) q is is' t t' e may = absurd (omega (arith, is, e))
same_kind s (Gateway g) (Worker h' w') q is is' t t' e may = absurd (omega (arith, mul-add-lt h' s.workers w' s.hosts is'.0 is'.1, e))
same_kind s (Gateway g) (Coproc h') q is is' t t' e may = absurd (omega (arith, is', e))
same_kind s (Gateway g) (Gateway g') q is is' t t' e may = kept q may
  where
    kept : (q : Queue) → MayTake (Gateway g) q → MayTake (Gateway g') q
    kept Wire may = tt
    kept Out may = absurd may
    kept Seal may = absurd may
same_kind s (HostInstall h) b q is is' t t' e may = absurd t
same_kind s (GateInstall g) b q is is' t t' e may = absurd t
same_kind s Controller b q is is' t t' e may = absurd t
same_kind s Driver b q is is' t t' e may = absurd t
same_kind s a (HostInstall h) q is is' t t' e may = absurd t'
same_kind s a (GateInstall g) q is is' t t' e may = absurd t'
same_kind s a Controller q is is' t t' e may = absurd t'
same_kind s a Driver q is is' t t' e may = absurd t'

-- ---- actors by number

same_row : (workers h w h' w' : ℕ) → w < workers → w' < workers → h * workers + w ≡ h' * workers + w' → h ≡ h'
same_row workers h w h' w' l l' e =
    ⊎_elim (λ (m : h < h'). absurd (omega (arith, mul-add-lt h workers w h' m l, e)))
    (λ (m : h' ≤ h).
    ⊎_elim (λ (n : h' < h). absurd (omega (arith, mul-add-lt h' workers w' h n l', e)))
    (λ (n : h ≤ h'). omega arith) (cases_lt h' h))
    (cases_lt h h')

same_worker : (v : Settings) (h w h' w' : ℕ) → w < v.workers → w' < v.workers → actor_number v (Worker h w) ≡ actor_number v (Worker h' w') → Worker h w ≡ Worker h' w'
same_worker v h w h' w' l l' e =
    let row : h ≡ h' = same_row v.workers h w h' w' l l' (omega (arith, e)) in
    let rows : h * v.workers ≡ h' * v.workers = ap (λ n. n * v.workers) row in
    let column : w ≡ w' = omega (arith, rows, e) in
    cc

abbrev Below : Settings → Actor → Type 0
Below v (Worker h w) = h * v.workers + w < v.hosts * v.workers
Below v _ = Unit {0}

below : (v : Settings) (a : Actor) → IsActor v a → Below v a
below v (Worker h w) is = let l = mul-add-lt h v.workers w v.hosts is.0 is.1 in omega (arith, l)
below v _ is = tt

-- two actors of one number are one
pub same_actor : (v : Settings) (a b : Actor) → IsActor v a → IsActor v b → actor_number v a ≡ actor_number v b → a ≡ b
same_actor v (HostInstall h) (HostInstall h') is is' e = ap HostInstall e
same_actor v (GateInstall g) (GateInstall g') is is' e = let same : g ≡ g' = omega (arith, e) in ap GateInstall same
same_actor v (Worker h w) (Worker h' w') is is' e = same_worker v h w h' w' is.1 is'.1 e
same_actor v (Coproc h) (Coproc h') is is' e = let same : h ≡ h' = omega (arith, e) in ap Coproc same
same_actor v (Gateway g) (Gateway g') is is' e = let same : g ≡ g' = omega (arith, e) in ap Gateway same
same_actor v Controller Controller is is' e = refl
same_actor v Driver Driver is is' e = refl
same_actor v a b is is' e = let low = below v a is in let low' = below v b is' in absurd (omega (arith, is, is', e, low, low'))
