-- The fields of a scenario and of its items, as tables. A further item or field is a row.
use Rattle.std.specs.Prelude.{ℕ, Bool, true, false, if◌then◌else◌, List, [], ◌∷◌, Option, Some, None, codes, bytes_eq}
use Rattle.serde_json.specs.Data.{Data}
use Rattle.serde_json.specs.Find.{get, as_str}
use Rattle.and_script.specs.declared.tables.Form.{Form}
use Rattle.and_script.specs.declared.tables.Form.TheVariants.{Whole, Priority, VmName, Mac, Ip, Cidr, Protocol, Ports, OnSide, Action, Truth, TargetKind, NodeName, HoldKind, Script}
use Rattle.and_script.specs.declared.tables.Given.{Given}
use Rattle.and_script.specs.declared.tables.Given.TheVariants.{Number, Absent, Within, OfProtocol, Between, Allows}
use Rattle.and_script.specs.declared.tables.Command.{Command}
use Rattle.and_script.specs.declared.tables.Command.TheVariants.{AddNet, AddVm, RemoveVm, AddRule, DelRule, AddRoute, DelRoute, Tick, Wait, Send, Blackout, Resume, Hold, Free}
use Rattle.and_script.specs.declared.tables.Row as source

-- a field: its name, its form, and what it gives where it is left out; none where it may not be
pub record Row : Type 0 where
  pub name : List ℕ
  pub form : Form
  pub default : Option Given

-- the row that the code has
abbrev pub row_view : source.Row → Row
row_view r = record { name = r.name.now; form = r.form; default = r.default }

abbrev pub required : List ℕ → Form → Row
required name form = record { name = name; form = form; default = None }

abbrev pub optional : List ℕ → Form → Given → Row
optional name form given = record { name = name; form = form; default = Some given }

unfoldable pub top_rows : List Row
top_rows =
    required (codes "hosts") (Whole 1 64)
    ∷ required (codes "gateways") (Whole 1 8)
    ∷ optional (codes "workers") (Whole 1 4) (Number 2)
    ∷ optional (codes "hop_limit") (Whole 1 32) (Number 16)
    ∷ optional (codes "out_queue") (Whole 1 4096) (Number 256)
    ∷ optional (codes "wire_queue") (Whole 1 4096) (Number 256)
    ∷ optional (codes "seal_queue") (Whole 1 4096) (Number 256)
    ∷ optional (codes "threshold") (Whole 1 1000000000) (Number 20000)
    ∷ optional (codes "life") (Whole 1 10000) (Number 3)
    ∷ required (codes "script") Script
    ∷ []

-- what an item does, by its text
abbrev pub commands : List (List ℕ × Command)
commands =
    (codes "add_net", AddNet) ∷ (codes "add_vm", AddVm) ∷ (codes "remove_vm", RemoveVm) ∷ (codes "add_rule", AddRule)
    ∷ (codes "del_rule", DelRule) ∷ (codes "add_route", AddRoute) ∷ (codes "del_route", DelRoute) ∷ (codes "tick", Tick)
    ∷ (codes "wait", Wait) ∷ (codes "send", Send) ∷ (codes "blackout", Blackout) ∷ (codes "resume", Resume)
    ∷ (codes "hold", Hold) ∷ (codes "free", Free) ∷ []

abbrev pub command_in : List (List ℕ × Command) → List ℕ → Option Command
command_in [] text = None
command_in (c ∷ cs) text = if bytes_eq text c.0 then Some c.1 else command_in cs text

-- the command that a text names
abbrev pub command_of : List ℕ → Option Command
command_of text = command_in commands text

abbrev pub net_row : Row
net_row = required (codes "net") (Whole 1 16777215)

abbrev pub number_row : Row
number_row = required (codes "number") (Whole 1 4294967295)

abbrev pub vm_row : Row
vm_row = required (codes "vm") VmName

abbrev pub host_row : Row
host_row = required (codes "host") (Whole 0 4294967295)

abbrev pub prefix_row : List ℕ → Row
prefix_row name = optional name Cidr (Within (record { address = 0; length = 0 }))

abbrev pub ports_row : List ℕ → Row
ports_row name = optional name Ports (Between 0 65535)

abbrev pub is_text : List ℕ → Option (List ℕ) → Bool
is_text wanted None = false
is_text wanted (Some text) = bytes_eq text wanted

abbrev pub text_in : Option Data → Option (List ℕ)
text_in None = None
text_in (Some d) = as_str d

-- whether the object's target is the text `peer`
abbrev pub has_peer : Data → Bool
has_peer d = is_text (codes "peer") (text_in (get (codes "target") d))

-- the fields of an item beside `do`. A route has a peer exactly where its target is the text `peer`
abbrev pub item_rows : Command → Bool → List Row
item_rows AddNet peer = net_row ∷ []
item_rows AddVm peer = vm_row ∷ net_row ∷ required (codes "mac") Mac ∷ required (codes "ip") Ip ∷ host_row ∷ []
item_rows RemoveVm peer = vm_row ∷ []
item_rows AddRule peer =
    net_row ∷ number_row ∷ required (codes "priority") Priority ∷ required (codes "side") OnSide ∷ required (codes "action") Action
    ∷ optional (codes "protocol") Protocol (OfProtocol None) ∷ prefix_row (codes "source") ∷ prefix_row (codes "destination")
    ∷ ports_row (codes "source_ports") ∷ ports_row (codes "destination_ports") ∷ optional (codes "sealed") Truth (Allows false) ∷ []
item_rows DelRule peer = net_row ∷ number_row ∷ []
item_rows AddRoute true =
    net_row ∷ number_row ∷ required (codes "prefix") Cidr ∷ required (codes "target") TargetKind
    ∷ required (codes "peer") (Whole 1 16777215) ∷ []
item_rows AddRoute false = net_row ∷ number_row ∷ required (codes "prefix") Cidr ∷ required (codes "target") TargetKind ∷ []
item_rows DelRoute peer = net_row ∷ number_row ∷ []
item_rows Tick peer = []
item_rows Wait peer = []
item_rows Send peer = optional (codes "frames") (Whole 1 100000) Absent ∷ []
item_rows Blackout peer = vm_row ∷ host_row ∷ []
item_rows Resume peer = vm_row ∷ []
item_rows Hold peer = required (codes "node") NodeName ∷ required (codes "what") HoldKind ∷ []
item_rows Free peer = required (codes "node") NodeName ∷ required (codes "what") HoldKind ∷ []
