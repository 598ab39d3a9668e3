-- The text of the report of a run. Its lines are counts over the plan, and over the tally of the history.
use Rattle.std.specs.Prelude.{ℕ, suc, ◌==◌, ◌&&◌, ◌||◌, Bool, true, false, nat_lt, if◌then◌else◌, List, [], ◌∷◌, ◌++◌, length, codes, Option, Some, None}
use Rattle.std.specs.List.{count_by, filter_map, flat_map, list_any}
use Rattle.std.specs.Fmt.{decimal}
use Rattle.and_policy.specs.declared.packet.Skip.TheVariants as skips
use Rattle.and_policy.specs.declared.entry.EntryFault.{EntryFault}
use Rattle.and_policy.specs.declared.entry.EntryFault.TheVariants as entry_faults
use Rattle.and_policy.specs.Logs.{added}
use Rattle.and_events.specs.declared.plan.ItemFault.{ItemFault}
use Rattle.and_events.specs.declared.plan.ItemFault.TheVariants as item_faults
use Rattle.and_events.specs.declared.plan.SkipReason.{SkipReason}
use Rattle.and_events.specs.declared.plan.SkipReason.TheVariants as reasons
use Rattle.and_events.specs.declared.plan.Plan.{Plan}
use Rattle.and_events.specs.declared.event.Event.{Event}
use Rattle.and_report.specs.declared.fate.Fate.{Fate}
use Rattle.and_report.specs.declared.fate.Key.{Key}
use Rattle.and_report.specs.Tally.{Tally, tally}
use Rattle.and_report.specs.declared.fate.Fate.TheVariants.{Delivered, Spoofed, NoVm, NoOwner, EgressDenied, IngressDenied, RouteDropped, InBlackout, AtFullQueue, OutOfHops}

-- ---- kinds of fates

abbrev pub is_delivered : Fate → Bool
is_delivered (Delivered vm) = true
is_delivered _ = false

abbrev pub is_dropped : Fate → Bool
is_dropped Spoofed = true
is_dropped NoVm = true
is_dropped NoOwner = true
is_dropped (EgressDenied net number) = true
is_dropped (IngressDenied net number) = true
is_dropped (RouteDropped net number) = true
is_dropped _ = false

abbrev pub is_spoofed : Fate → Bool
is_spoofed Spoofed = true
is_spoofed _ = false

abbrev pub is_novm : Fate → Bool
is_novm NoVm = true
is_novm _ = false

abbrev pub is_noowner : Fate → Bool
is_noowner NoOwner = true
is_noowner _ = false

abbrev pub is_in_blackout : Fate → Bool
is_in_blackout InBlackout = true
is_in_blackout _ = false

abbrev pub is_at_full_queue : Fate → Bool
is_at_full_queue AtFullQueue = true
is_at_full_queue _ = false

abbrev pub is_out_of_hops : Fate → Bool
is_out_of_hops OutOfHops = true
is_out_of_hops _ = false

abbrev pub is_received : ℕ → Fate → Bool
is_received vm (Delivered u) = u == vm
is_received vm _ = false

abbrev pub egress_key : Fate → Option Key
egress_key (EgressDenied net number) = Some (record { net = net; number = number })
egress_key _ = None

abbrev pub ingress_key : Fate → Option Key
ingress_key (IngressDenied net number) = Some (record { net = net; number = number })
ingress_key _ = None

abbrev pub route_key : Fate → Option Key
route_key (RouteDropped net number) = Some (record { net = net; number = number })
route_key _ = None

abbrev pub same_key : Key → Key → Bool
same_key a b = (a.net == b.net) && (a.number == b.number)

abbrev pub key_before : Key → Key → Bool
key_before a b = nat_lt a.net b.net || ((a.net == b.net) && nat_lt a.number b.number)

-- the keys in order, each once
abbrev pub with_key : Key → List Key → List Key
with_key key [] = key ∷ []
with_key key (k ∷ ks) = if same_key key k then k ∷ ks else (if key_before key k then key ∷ k ∷ ks else k ∷ with_key key ks)

abbrev pub in_order : List Key → List Key
in_order [] = []
in_order (k ∷ ks) = with_key k (in_order ks)

-- ---- lines

-- words with one space between, and a line feed
abbrev pub words : List (List ℕ) → List ℕ
words [] = []
words (w ∷ []) = w
words (w ∷ ws) = w ++ 32 ∷ words ws

abbrev pub line : List (List ℕ) → List ℕ
line ws = words ws ++ 10 ∷ []

-- a line that stands always, and one that stands where its count is not 0
abbrev pub counted : List ℕ → ℕ → List ℕ
counted name n = line (name ∷ decimal n ∷ [])

abbrev pub counted_if : List ℕ → ℕ → List ℕ
counted_if name n = if n == 0 then [] else counted name n

-- a name and its count
pub record Row : Type 0 where
  pub name : List ℕ
  pub count : ℕ

abbrev pub row : List ℕ → ℕ → Row
row name count = record { name = name; count = count }

-- one line for each row; and one for each row whose count is not 0
abbrev pub all_rows : List Row → List ℕ
all_rows [] = []
all_rows (r ∷ rows) = counted r.name r.count ++ all_rows rows

abbrev pub some_rows : List Row → List ℕ
some_rows [] = []
some_rows (r ∷ rows) = counted_if r.name r.count ++ some_rows rows

-- ---- the first nineteen lines

abbrev pub title : List ℕ
title = line (codes "andromeda report 1" ∷ [])

unfoldable pub head_rows : Plan → Tally → List Row
head_rows plan t =
    row (codes "frames") plan.frames
    ∷ row (codes "skipped") (length plan.skipped)
    ∷ row (codes "unsent") plan.unsent
    ∷ row (codes "injected") (length plan.packets)
    ∷ row (codes "delivered") (count_by is_delivered t.fates)
    ∷ row (codes "dropped") (count_by is_dropped t.fates)
    ∷ row (codes "lost blackout") (count_by is_in_blackout t.fates)
    ∷ row (codes "lost queue") (count_by is_at_full_queue t.fates)
    ∷ row (codes "lost hops") (count_by is_out_of_hops t.fates)
    ∷ row (codes "sends") t.sends
    ∷ row (codes "offload") t.offload
    ∷ row (codes "hover") t.hover
    ∷ row (codes "hairpin") t.hairpin
    ∷ row (codes "redirect") t.redirect
    ∷ row (codes "fast") t.fast
    ∷ row (codes "slow") t.slow
    ∷ row (codes "orders") t.orders
    ∷ row (codes "refused") (length plan.refused)
    ∷ []

-- ---- skipped frames

abbrev pub is_too_long : SkipReason → Bool
is_too_long (reasons.Frame skips.TooLong) = true
is_too_long _ = false

abbrev pub is_short : SkipReason → Bool
is_short (reasons.Frame skips.Short) = true
is_short _ = false

abbrev pub is_not_ip4 : SkipReason → Bool
is_not_ip4 (reasons.Frame skips.NotIp4) = true
is_not_ip4 _ = false

abbrev pub is_cut : SkipReason → Bool
is_cut (reasons.Frame skips.Cut) = true
is_cut _ = false

abbrev pub is_bad_ip4 : SkipReason → Bool
is_bad_ip4 (reasons.Frame skips.BadIp4) = true
is_bad_ip4 _ = false

abbrev pub is_short_ports : SkipReason → Bool
is_short_ports (reasons.Frame skips.ShortPorts) = true
is_short_ports _ = false

abbrev pub is_no_source : SkipReason → Bool
is_no_source reasons.NoSource = true
is_no_source _ = false

abbrev pub is_paused_source : SkipReason → Bool
is_paused_source reasons.PausedSource = true
is_paused_source _ = false

-- how many frames were skipped for this reason
abbrev pub skipped_for : (SkipReason → Bool) → List (ℕ × SkipReason) → ℕ
skipped_for is_reason skipped = count_by (λ s. is_reason s.1) skipped

unfoldable pub skip_rows : List (ℕ × SkipReason) → List Row
skip_rows skipped =
    row (codes "skip TooLong") (skipped_for is_too_long skipped)
    ∷ row (codes "skip Short") (skipped_for is_short skipped)
    ∷ row (codes "skip NotIp4") (skipped_for is_not_ip4 skipped)
    ∷ row (codes "skip Cut") (skipped_for is_cut skipped)
    ∷ row (codes "skip BadIp4") (skipped_for is_bad_ip4 skipped)
    ∷ row (codes "skip ShortPorts") (skipped_for is_short_ports skipped)
    ∷ row (codes "skip NoSource") (skipped_for is_no_source skipped)
    ∷ row (codes "skip PausedSource") (skipped_for is_paused_source skipped)
    ∷ []

-- ---- drops

abbrev pub count_key : Key → List Key → ℕ
count_key key keys = count_by (same_key key) keys

-- what a keyed line counts
abbrev pub egress_name : Key → List ℕ
egress_name k = words (codes "drop egress" ∷ decimal k.net ∷ codes "rule" ∷ decimal k.number ∷ [])

abbrev pub implied_name : Key → List ℕ
implied_name k = words (codes "drop ingress" ∷ decimal k.net ∷ codes "implied" ∷ [])

abbrev pub rule_name : Key → List ℕ
rule_name k = words (codes "drop ingress" ∷ decimal k.net ∷ codes "rule" ∷ decimal k.number ∷ [])

-- number 0 is the implied verdict
abbrev pub ingress_name : Key → List ℕ
ingress_name k = if k.number == 0 then implied_name k else rule_name k

abbrev pub route_name : Key → List ℕ
route_name k = words (codes "drop route" ∷ decimal k.net ∷ decimal k.number ∷ [])

abbrev pub egress_line : List Key → Key → List ℕ
egress_line keys k = counted (egress_name k) (count_key k keys)

abbrev pub ingress_line : List Key → Key → List ℕ
ingress_line keys k = counted (ingress_name k) (count_key k keys)

abbrev pub route_line : List Key → Key → List ℕ
route_line keys k = counted (route_name k) (count_key k keys)

-- one line for each key, in order
abbrev pub keyed_lines : (List Key → Key → List ℕ) → List Key → List ℕ
keyed_lines key_line keys = flat_map (key_line keys) (in_order keys)

unfoldable pub drop_rows : Tally → List Row
drop_rows t =
    row (codes "drop spoofed") (count_by is_spoofed t.fates)
    ∷ row (codes "drop novm") (count_by is_novm t.fates)
    ∷ row (codes "drop noowner") (count_by is_noowner t.fates)
    ∷ []

abbrev pub drop_lines : Tally → List ℕ
drop_lines t =
    some_rows (drop_rows t) ++ keyed_lines egress_line (filter_map egress_key t.fates) ++ keyed_lines ingress_line (filter_map ingress_key t.fates)
    ++ keyed_lines route_line (filter_map route_key t.fates)

-- ---- refused items

abbrev pub entry_fault_name : EntryFault → List ℕ
entry_fault_name entry_faults.NoNet = codes "NoNet"
entry_fault_name entry_faults.NetTaken = codes "NetTaken"
entry_fault_name entry_faults.NoVm = codes "NoVm"
entry_fault_name entry_faults.VmTaken = codes "VmTaken"
entry_fault_name entry_faults.MacTaken = codes "MacTaken"
entry_fault_name entry_faults.AddressTaken = codes "AddressTaken"
entry_fault_name entry_faults.NoHost = codes "NoHost"
entry_fault_name entry_faults.NoRule = codes "NoRule"
entry_fault_name entry_faults.RuleTaken = codes "RuleTaken"
entry_fault_name entry_faults.NoRoute = codes "NoRoute"
entry_fault_name entry_faults.RouteTaken = codes "RouteTaken"
entry_fault_name entry_faults.TooMany = codes "TooMany"

abbrev pub fault_name : ItemFault → List ℕ
fault_name (item_faults.Entry fault) = entry_fault_name fault
fault_name item_faults.Held = codes "Held"
fault_name item_faults.Paused = codes "Paused"
fault_name item_faults.NotPaused = codes "NotPaused"
fault_name item_faults.SameHost = codes "SameHost"
fault_name item_faults.NoNode = codes "NoNode"
fault_name item_faults.HoldTaken = codes "HoldTaken"
fault_name item_faults.NoHold = codes "NoHold"

abbrev pub item_line : ℕ × ItemFault → List ℕ
item_line r = line (codes "item" ∷ decimal r.0 ∷ fault_name r.1 ∷ [])

-- ---- VMs

-- the VM is added by an entry of the plan's log
abbrev pub is_added : Plan → ℕ → Bool
is_added plan vm = list_any (λ v. v.number == vm) (added plan.log)

abbrev pub vm_line : Plan → Tally → ℕ → List ℕ → List ℕ
vm_line plan t vm name =
    if is_added plan vm
    then line (codes "vm" ∷ name ∷ codes "sent" ∷ decimal (count_by (λ p. p.vm == vm) plan.packets) ∷ codes "received"
    ∷ decimal (count_by (is_received vm) t.fates) ∷ [])
    else []

-- the VMs in the order of their numbers, the first of the names having this number
abbrev pub vm_lines : Plan → Tally → ℕ → List (List ℕ) → List ℕ
vm_lines plan t vm [] = []
vm_lines plan t vm (name ∷ names) = vm_line plan t vm name ++ vm_lines plan t (suc vm) names

-- ---- the whole

-- the text over a plan and a tally
unfoldable pub text_of : Plan → Tally → List ℕ
text_of plan t =
    title ++ all_rows (head_rows plan t) ++ some_rows (skip_rows plan.skipped) ++ drop_lines t ++ flat_map item_line plan.refused ++ vm_lines plan t 0 plan.names

-- the report of a plan and a history, whose newest event is first
abbrev pub report : Plan → List Event → List ℕ
report plan h = text_of plan (tally plan h)
