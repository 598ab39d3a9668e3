-- What it says of the plain state that a step fits.
use Rattle.std.proofs.Common.{◌≡◌, ℕ, ◌<◌, Bool, true, false, not, refl, arith, Option, Some, None}
use Rattle.std.specs.Prelude.{nat_lt, ◌==◌, if◌then◌else◌}
use Rattle.std.specs.List.{list_any}
use Rattle.std.proofs.lemmas.Grind.{common_steps}
use Rattle.and_policy.specs.declared.entry.Entry.TheVariants as entries
use Rattle.and_policy.specs.declared.entry.EntryFault.{EntryFault}
use Rattle.and_policy.specs.Logs.{is_live, added}
use Rattle.and_policy.specs.Owners.{place}
use Rattle.and_events.specs.declared.event.Node.{Node}
use Rattle.and_events.specs.declared.event.Node.TheVariants as nodes
use Rattle.and_events.specs.declared.plan.What.{What}
use Rattle.and_events.specs.declared.plan.What.TheVariants.{Install}
use Rattle.and_events.specs.declared.plan.Settings.{Settings}
use Rattle.and_events.specs.Places.{IsNode}
use Rattle.and_events.specs.declared.plan.Item.TheVariants as items
use Rattle.and_events.specs.declared.plan.ItemFault.{ItemFault}
use Rattle.and_events.specs.declared.plan.Plan.{Plan}
use Rattle.and_events.specs.Script.{Script, entry_first, is_moving, is_place, is_node, holds_at}
use Rattle.and_events.specs.Sound.{Fits}
use Rattle.and_laws.proofs.Lives.{not_added}

passed : {F : Type 0} (b : Bool) (f : F) (rest : Option F) → (if b then Some f else rest) ≡ None → (b ≡ false) × (rest ≡ None)
passed true f rest e = absurd (cc)
passed false f rest e = (refl, e)

both_none : (a : Option EntryFault) (b : Option ItemFault) → entry_first a b ≡ None → (a ≡ None) × (b ≡ None)
both_none (Some fault) b e = absurd (cc)
both_none None b e = (refl, e)

is_true : (b : Bool) → not b ≡ false → b ≡ true
is_true true e = refl
is_true false e = absurd (cc)

below : (a b : ℕ) → nat_lt a b ≡ true → a < b
below a b e = grind (arith, common_steps)

-- a VM that is added was not live, and its host is there
pub added_anew : (plan : Plan) (p : Script) (vm net mac ip host : ℕ) → Fits plan p (items.Entry (entries.AddVm vm net mac ip host)) → (is_live p.log vm ≡ false) × (host < plan.settings.hosts)
added_anew plan p vm net mac ip host f =
    let entry = (both_none _ _ f).0 in
    let in_net = passed _ _ _ entry in
    let anew = passed _ _ _ in_net.1 in
    let there = passed _ _ _ anew.1 in
    (not_added p.log vm anew.0, below host plan.settings.hosts (is_true _ there.0))

-- nor was it ever added before
pub never_added : (plan : Plan) (p : Script) (vm net mac ip host : ℕ) → Fits plan p (items.Entry (entries.AddVm vm net mac ip host)) → list_any (λ v. v.number == vm) (added p.log) ≡ false
never_added plan p vm net mac ip host f = (passed _ _ _ (passed _ _ _ (both_none _ _ f).0).1).0

-- one that is removed was live and in no blackout
pub removed_at_rest : (plan : Plan) (p : Script) (vm : ℕ) → Fits plan p (items.Entry (entries.RemoveVm vm)) → (is_live p.log vm ≡ true) × (is_moving p vm ≡ false)
removed_at_rest plan p vm f =
    let both = both_none _ _ f in
    (is_true _ (passed _ _ _ both.0).0, (passed _ _ _ both.1).0)

-- one that is paused was live and in no blackout, and goes to another host that is there and whose installs are not held
pub paused_at_rest : (plan : Plan) (p : Script) (vm host : ℕ) → Fits plan p (items.Blackout vm host) → (is_live p.log vm ≡ true) × (host < plan.settings.hosts) × (is_moving p vm ≡ false) × (is_place (place p.log vm) host ≡ false) × (holds_at p (nodes.Host host) Install ≡ false)
paused_at_rest plan p vm host f =
    let live = passed _ _ _ f in
    let there = passed _ _ _ live.1 in
    let resting = passed _ _ _ there.1 in
    let other = passed _ _ _ resting.1 in
    let free = passed _ _ _ other.1 in
    (is_true _ live.0, below host plan.settings.hosts (is_true _ there.0), resting.0, other.0, free.0)

-- one that goes on was live and in a blackout
pub resumed_on_its_way : (plan : Plan) (p : Script) (vm : ℕ) → Fits plan p (items.Resume vm) → (is_live p.log vm ≡ true) × (is_moving p vm ≡ true)
resumed_on_its_way plan p vm f =
    let live = passed _ _ _ f in
    (is_true _ live.0, is_true _ (passed _ _ _ live.1).0)

-- what is held or freed is at a node of the plan
node_is_there : (s : Settings) (node : Node) → is_node s node ≡ true → IsNode s node
node_is_there s (nodes.Host h) e = below h s.hosts e
node_is_there s (nodes.Gate g) e = below g s.gateways e

pub held_there : (plan : Plan) (p : Script) (node : Node) (what : What) → Fits plan p (items.Hold node what) → IsNode plan.settings node
held_there plan p node what f =
    let there = passed _ _ _ f in
    node_is_there plan.settings node (is_true _ there.0)

pub freed_there : (plan : Plan) (p : Script) (node : Node) (what : What) → Fits plan p (items.Free node what) → IsNode plan.settings node
freed_there plan p node what f =
    let there = passed _ _ _ f in
    node_is_there plan.settings node (is_true _ there.0)

-- and was not held before
pub not_held_before : (plan : Plan) (p : Script) (node : Node) (what : What) → Fits plan p (items.Hold node what) → holds_at p node what ≡ false
not_held_before plan p node what f =
    let there = passed _ _ _ f in
    (passed _ _ _ there.1).0

-- no VM is added at a host whose installs are held
pub added_where_free : (plan : Plan) (p : Script) (vm net mac ip host : ℕ) → Fits plan p (items.Entry (entries.AddVm vm net mac ip host)) → holds_at p (nodes.Host host) Install ≡ false
added_where_free plan p vm net mac ip host f =
    let both = both_none _ _ f in
    (passed _ _ _ both.1).0
