-- Tables whose operations are the first ones of a node's programme say what the policy says of the programme at their number.
use Rattle.std.proofs.Common.{◌≡◌, ℕ, ◌<◌, ◌≤◌, max, List, length, take, refl, sym, ap, ◌∙◌, subst, arith, Some, None, ⊎_elim}
use Rattle.std.specs.List.{find}
use Rattle.std.specs.Prelude.{◌==◌, ◌&&◌}
use Rattle.std.proofs.Math.Nat.{max-eq_left, max-eq_right}
use Rattle.std.proofs.Math.Seq.{take-length}
use Rattle.std.proofs.lemmas.Bool.{cases_lt}
use Rattle.and_policy.specs.declared.decision.Leaving.{Leaving}
use Rattle.and_policy.specs.declared.decision.Outcome.TheVariants as outcomes
use Rattle.and_policy.specs.declared.entry.FlowKey.{FlowKey}
use Rattle.and_policy.specs.declared.entry.Op.{Op}
use Rattle.and_policy.specs.declared.entry.Side.{Side}
use Rattle.and_policy.specs.declared.entry.Side.TheVariants as sides
use Rattle.and_policy.specs.declared.packet.Tuple.{Tuple}
use Rattle.and_policy.specs.Caches.{said, said_by}
use Rattle.and_policy.specs.Egress.{egress}
use Rattle.and_policy.specs.Fitting.{IsLog}
use Rattle.and_policy.specs.Ingress.{landing}
use Rattle.and_policy.specs.Programmes.{entries, prefix, living, leaving, leaving_by, dest_by, own_net}
use Rattle.and_policy.specs.Logs.{vm_of}
use Rattle.and_events.specs.declared.event.Actor.{Actor}
use Rattle.and_events.specs.declared.event.Event.{Event}
use Rattle.and_events.specs.declared.event.Held.{Held}
use Rattle.and_events.specs.declared.event.Node.{Node}
use Rattle.and_events.specs.declared.event.Queue.{Queue}
use Rattle.and_events.specs.declared.plan.Plan.{Plan}
use Rattle.and_events.specs.Flow.{hand_at}
use Rattle.and_events.specs.Legal.{Decides}
use Rattle.and_events.specs.Places.{hand_place, node_of, IsActor, IsNode}
use Rattle.and_events.specs.Programming.{Programmes, programme_at}
use Rattle.and_events.specs.Run.{Run}
use Rattle.and_events.specs.Sound.{IsSound}
use Rattle.and_events.specs.State.{State, state, programme_of, announced_of}
use Rattle.and_book.proofs.Logged.{prefix_logged}

-- what these operations say of a packet that leaves the VM, with so many gateways
leaving_of : ℕ → List Op → ℕ → Tuple → Leaving
leaving_of gateways ops vm x =
    leaving_by (egress (entries ops) vm x)
    (dest_by gateways x (find (λ order. (order.net == own_net (vm_of (entries ops) vm)) && (order.ip == x.destination)) (living (entries ops) ops)))

leaving_is : (gateways : ℕ) (p : List Op) (j vm : ℕ) (x : Tuple) → leaving gateways p j vm x ≡ leaving_of gateways (take j p) vm x
unfolding leaving_of
leaving_is gateways p j vm x = refl

-- ---- two lists with the same first operations

module _ (p q : List Op) (j : ℕ) (same : take j p ≡ take j q) where
  pub same_prefix : prefix p j ≡ prefix q j
  same_prefix = ap entries same

  pub same_leaving : (gateways vm : ℕ) (x : Tuple) → leaving gateways p j vm x ≡ leaving gateways q j vm x
  same_leaving gateways vm x =
      leaving_is gateways p j vm x ∙ (ap (λ ops. leaving_of gateways ops vm x) same ∙ sym (leaving_is gateways q j vm x))

  same_by : (gateways : ℕ) (key : FlowKey) (side : Side) → said_by gateways p j side key ≡ said_by gateways q j side key
  same_by gateways key sides.Egress = ap outcomes.Leaving (same_leaving gateways key.scope key.tuple)
  same_by gateways key sides.Ingress = ap (λ k. outcomes.Landing (landing k key.scope key.tuple)) same_prefix

  pub same_said : (gateways : ℕ) (key : FlowKey) → said gateways p j key ≡ said gateways q j key
  unfolding said
  same_said gateways key = same_by gateways key key.side

-- ---- tables that are the first operations of a programme

module _ (tables p : List Op) (same : take (length tables) p ≡ tables) where
  pub both : take (length tables) tables ≡ take (length tables) p
  both = take-length tables ∙ sym same

  pub same_entries : prefix p (length tables) ≡ entries tables
  same_entries = ap entries same

  -- more is known to agree
  pub agree_more : (compared : ℕ) → take compared tables ≡ take compared p → take (max compared (length tables)) tables ≡ take (max compared (length tables)) p
  agree_more compared agree =
      ⊎_elim (λ (l : compared < length tables). subst (λ n. take n tables ≡ take n p) (sym (max-eq_right {n = compared} {m = length tables} (omega (arith, l)))) both)
      (λ (l : length tables ≤ compared). subst (λ n. take n tables ≡ take n p) (sym (max-eq_left {n = compared} {m = length tables} l)) agree) (cases_lt compared (length tables))

-- the entries among the operations of tables are a log, where they are the first ones of a programme
pub tables_logged : (plan : Plan) (h : List Event) → IsSound plan → Run plan h → (node : Node) → IsNode plan.settings node → (tables : List Op)
    → take (length tables) (programme_of plan (state plan h) node) ≡ tables → IsLog None (entries tables)
tables_logged plan h sound r node is tables same = subst (IsLog None) (ap entries same) (prefix_logged plan h sound r node is (length tables))

pub held_is : (g : Held) (i : ℕ) (q : Queue) → i ≡ g.packet → g.queue ≡ q → g ≡ record { packet = i; need = g.need; queue = q }
held_is g i q packet queue =
    ap (λ n. record { packet = n; need = g.need; queue = g.queue }) (sym packet) ∙ ap (λ z. record { packet = i; need = g.need; queue = z }) queue

-- the packet in hand may be decided at a number between what it needs and what is announced
pub decides : (plan : Plan) (s : State) (a : Actor) (g : Held) (i at : ℕ) (q : Queue) → IsActor plan.settings a → hand_at s.flow.hands (hand_place plan.settings a) ≡ Some g → i ≡ g.packet → g.queue ≡ q
    → g.need ≤ at → at ≤ announced_of plan s (node_of a) → Decides plan s a i q at
decides plan s a g i at q actor has packet queue least most = record {
  actor = actor;
  need = g.need;
  holds = has ∙ ap Some (held_is g i q packet queue);
  least = least;
  most = most;
}
