-- How many queues, hands, packets, nodes and ports a state has: no event changes it.
use Rattle.std.proofs.Common.{◌≡◌, ℕ, ◌<◌, Bool, true, false, List, [], ◌∷◌, length, set, refl, ap, arith, ◌∙◌, length-set, Option, Some, None}
use Rattle.std.proofs.lemmas.List.{length-map, length-replicate, get_or-replicate}
use Rattle.std.proofs.lemmas.Nat.{mul-add-lt}
use Rattle.std.specs.Prelude.{slice_get}
use Rattle.and_policy.specs.declared.entry.Op.{Op}
use Rattle.and_policy.specs.declared.port.Port.{Port}
use Rattle.and_events.specs.declared.event.Actor.{Actor}
use Rattle.and_events.specs.declared.event.Actor.TheVariants.{HostInstall, GateInstall, Worker, Coproc, Gateway, Controller, Driver}
use Rattle.and_events.specs.declared.event.Event.{Event}
use Rattle.and_events.specs.declared.event.Queue.{Queue}
use Rattle.and_events.specs.declared.event.Event.TheVariants.{Hold, Free}
use Rattle.and_events.specs.declared.plan.What.{What}
use Rattle.and_events.specs.declared.plan.What.TheVariants.{Install, Forward}
use Rattle.and_events.specs.declared.plan.Step.{Step}
use Rattle.and_events.specs.declared.plan.Step.TheVariants as steps
use Rattle.and_events.specs.declared.plan.Plan.{Plan}
use Rattle.and_events.specs.Places.{hand_count, hand_place, IsActor}
use Rattle.and_events.specs.Flow.{Flow, Move, Stay, Enter, Lose, Grab, Send, SealLater, Stop, flow_after}
use Rattle.and_events.specs.declared.event.Given.{Given}
use Rattle.and_events.specs.Programming.{Programmes, Word, Quiet, Logs, Orders, Announces, Installs, programmes_after, with_orders}
use Rattle.and_events.specs.Ports.{PortMove, Unmoved, Boot, Halt, Pause, Arrive, Unpinned, ports_after, ports_of, with_port}
use Rattle.and_events.specs.State.{State, NodeHolds, state, start, after, move_of, word_of, ports_move_of, holds_after, holds_by, with_hold}
use Rattle.and_events.specs.Legal.{TakesFrom}
use Rattle.and_laws.specs.Sizes.{HasSizes, HasNodes, HasPorts, HasNodeHolds}
use Rattle.and_laws.proofs.Rows.{set_at}

-- ---- packets

sizes_after : (plan : Plan) (f : Flow) (m : Move) → HasSizes plan f → HasSizes plan (flow_after f m)
unfolding flow_after
sizes_after plan f Stay h = h
sizes_after plan f (Enter q j) h = record { queues = rw length-set h.queues; hands = h.hands; carried = h.carried }
sizes_after plan f (Lose j) h = h
sizes_after plan f (Grab a q new) h = record { queues = rw length-set h.queues; hands = rw length-set h.hands; carried = h.carried }
sizes_after plan f (Send a q j net target) h = record { queues = rw length-set h.queues; hands = rw length-set h.hands; carried = rw length-set h.carried }
sizes_after plan f (SealLater a q j net target) h = record { queues = rw length-set h.queues; hands = rw length-set h.hands; carried = rw length-set h.carried }
sizes_after plan f (Stop a j) h = record { queues = h.queues; hands = rw length-set h.hands; carried = h.carried }

pub sizes : (plan : Plan) (h : List Event) → HasSizes plan (state plan h).flow
unfolding state start after
sizes plan [] = record { queues = length-replicate _ _; hands = length-replicate _ _; carried = length-replicate _ _ }
sizes plan (e ∷ h) = sizes_after plan (state plan h).flow (move_of plan (state plan h) e) (sizes plan h)

-- an actor that takes packets has a hand
pub hand_is_there : (plan : Plan) (s : State) (a : Actor) (q : Queue) → IsActor plan.settings a → TakesFrom plan s a q → hand_place plan.settings a < hand_count plan.settings
hand_is_there plan s (Worker h w) q is from =
    omega (arith, mul-add-lt h plan.settings.workers w plan.settings.hosts is.0 is.1)
hand_is_there plan s (Coproc h) q is from = omega arith
hand_is_there plan s (Gateway g) q is from = omega arith
hand_is_there plan s (HostInstall h) q is from = absurd from
hand_is_there plan s (GateInstall g) q is from = absurd from
hand_is_there plan s Controller q is from = absurd from
hand_is_there plan s Driver q is from = absurd from

-- ---- programmes

orders_length : (os : List Given) (programmes : List (List Op)) → length (with_orders programmes os) ≡ length programmes
orders_length [] programmes = refl
orders_length (g ∷ os) programmes = orders_length os _ ∙ length-set _ _ _

nodes_after : (plan : Plan) (p : Programmes) (w : Word) → HasNodes plan p → HasNodes plan (programmes_after p w)
unfolding programmes_after
nodes_after plan p Quiet h = h
nodes_after plan p (Logs e) h = record { ops = rw length-map h.ops; announced = h.announced; installed = h.installed }
nodes_after plan p (Orders os) h = record { ops = orders_length os p.ops ∙ h.ops; announced = h.announced; installed = h.installed }
nodes_after plan p (Announces n upto) h = record { ops = h.ops; announced = rw length-set h.announced; installed = h.installed }
nodes_after plan p (Installs n upto) h = record { ops = h.ops; announced = h.announced; installed = rw length-set h.installed }

pub nodes : (plan : Plan) (h : List Event) → HasNodes plan (state plan h).programmes
unfolding state start after
nodes plan [] = record { ops = length-replicate _ _; announced = length-replicate _ _; installed = length-replicate _ _ }
nodes plan (e ∷ h) = nodes_after plan (state plan h).programmes (word_of plan (state plan h) e) (nodes plan h)

-- ---- ports

-- a VM's ports give place to as many
ports_set : (plan : Plan) (ports : List (List Port)) (vm : ℕ) (new : List Port) → length new ≡ length (ports_of ports vm) → HasPorts plan ports → HasPorts plan (set ports vm new)
ports_set plan ports vm new as_many h =
    let none : List Port = [] in
    record {
      vms = rw length-set h.vms;
      hosts = λ v there. set_at ports vm v new none (λ row. length row ≡ plan.settings.hosts) (h.hosts v there) (λ is. as_many ∙ ap (λ m. length (ports_of ports m)) is ∙ h.hosts v there);
    }

port_set : (plan : Plan) (ports : List (List Port)) (host vm : ℕ) (port : Port) → HasPorts plan ports → HasPorts plan (with_port ports host vm port)
port_set plan ports host vm port h = ports_set plan ports vm (set (ports_of ports vm) host port) (length-set (ports_of ports vm) host port) h

port_sizes_after : (plan : Plan) (ports : List (List Port)) (m : PortMove) → HasPorts plan ports → HasPorts plan (ports_after ports m)
unfolding ports_after
port_sizes_after plan ports Unmoved h = h
port_sizes_after plan ports (Boot host vm) h = port_set plan ports host vm _ h
port_sizes_after plan ports (Halt vm) h = ports_set plan ports vm _ (length-replicate _ _) h
port_sizes_after plan ports (Pause vm old new) h = port_set plan _ new vm _ (port_set plan ports old vm _ h)
port_sizes_after plan ports (Arrive vm old new entry) h = port_set plan _ new vm _ (port_set plan ports old vm _ h)
port_sizes_after plan ports (Unpinned host vm) h = port_set plan ports host vm _ h

pub port_sizes : (plan : Plan) (h : List Event) → HasPorts plan (state plan h).ports
unfolding state start after
port_sizes plan [] =
    let none : List Port = [] in
    record { vms = length-replicate _ _; hosts = λ vm there. ap (length {A = Port}) (get_or-replicate (length plan.names) vm _ none there) ∙ length-replicate _ _ }
port_sizes plan (e ∷ h) = port_sizes_after plan (state plan h).ports (ports_move_of plan (state plan h) e) (port_sizes plan h)

-- ---- what is held at the nodes

hold_set : (plan : Plan) (holds : NodeHolds) (n : ℕ) (what : What) (held : Bool) → HasNodeHolds plan holds → HasNodeHolds plan (with_hold holds n what held)
hold_set plan holds n Install held h = record { install = rw length-set h.install; forward = h.forward }
hold_set plan holds n Forward held h = record { install = h.install; forward = rw length-set h.forward }

holds_by_step : (plan : Plan) (holds : NodeHolds) (o : Option Step) → HasNodeHolds plan holds → HasNodeHolds plan (holds_by plan.settings holds o)
holds_by_step plan holds (Some (steps.Hold node what)) h = hold_set plan holds _ what true h
holds_by_step plan holds (Some (steps.Free node what)) h = hold_set plan holds _ what false h
holds_by_step plan holds (Some step) h = h
holds_by_step plan holds None h = h

holds_sizes_after : (plan : Plan) (holds : NodeHolds) (e : Event) → HasNodeHolds plan holds → HasNodeHolds plan (holds_after plan holds e)
unfolding holds_after
holds_sizes_after plan holds (Hold n) h = holds_by_step plan holds (slice_get plan.steps n) h
holds_sizes_after plan holds (Free n) h = holds_by_step plan holds (slice_get plan.steps n) h
holds_sizes_after plan holds e h = h

pub node_holds : (plan : Plan) (h : List Event) → HasNodeHolds plan (state plan h).node_holds
unfolding state start after
node_holds plan [] = record { install = length-replicate _ _; forward = length-replicate _ _ }
node_holds plan (e ∷ h) = holds_sizes_after plan (state plan h).node_holds e (node_holds plan h)
