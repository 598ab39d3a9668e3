-- What the fields of a scenario may hold: which JSON values a form takes, and what each gives. A value of the wrong kind is `Field`, one outside
-- its form is `Range`.
use Rattle.std.specs.Prelude.{ℕ, ◌&&◌, Bool, true, false, nat_le, if◌then◌else◌, List, Option, Some, None, option_and_then, option_map, Result, Ok, Err, codes, bytes_eq}
use Rattle.and_policy.specs.declared.entry.Side.TheVariants.{Egress, Ingress}
use Rattle.and_events.specs.declared.plan.What.TheVariants.{Install, Forward}
use Rattle.serde_json.specs.Data.{Data, Items, no_items, item}
use Rattle.serde_json.specs.Find.{as_number, as_u64, as_str, as_bool, as_array}
use Rattle.and_script.specs.declared.tables.Form.{Form}
use Rattle.and_script.specs.declared.tables.Form.TheVariants.{Whole, Priority, VmName, Mac, Ip, Cidr, Protocol, Ports, OnSide, Action, Truth, TargetKind, NodeName, HoldKind, Script}
use Rattle.and_script.specs.declared.tables.Given.{Given}
use Rattle.and_script.specs.declared.tables.Given.TheVariants as givens
use Rattle.and_script.specs.declared.tables.Toward.TheVariants.{ToLocal, ToDrop, ToPeer}
use Rattle.and_script.specs.declared.tables.Cause.{Cause}
use Rattle.and_script.specs.declared.tables.Cause.TheVariants.{Field, Range}
use Rattle.and_script.specs.Words.{ip_of, mac_of, prefix_of, is_name, node_of}

-- a whole number is one that reads as an unsigned one of 64 bits
abbrev pub whole : Data → Option ℕ
whole d = option_and_then as_u64 (as_number d)

abbrev pub in_range : ℕ → ℕ → (ℕ → Given) → Option ℕ → Result Given Cause
in_range low high gives None = Err Field
in_range low high gives (Some n) = if nat_le low n && nat_le n high then Ok (gives n) else Err Range

abbrev pub or_range : Option Given → Result Given Cause
or_range None = Err Range
or_range (Some given) = Ok given

-- ---- texts

abbrev pub name_given : List ℕ → Option Given
name_given text = if is_name text then Some givens.Named else None

abbrev pub side_given : List ℕ → Option Given
side_given text =
    if bytes_eq text (codes "egress") then Some (givens.Sided Egress)
    else (if bytes_eq text (codes "ingress") then Some (givens.Sided Ingress) else None)

abbrev pub action_given : List ℕ → Option Given
action_given text =
    if bytes_eq text (codes "allow") then Some (givens.Allows true)
    else (if bytes_eq text (codes "deny") then Some (givens.Allows false) else None)

abbrev pub target_given : List ℕ → Option Given
target_given text =
    if bytes_eq text (codes "local") then Some (givens.Going ToLocal)
    else (if bytes_eq text (codes "drop") then Some (givens.Going ToDrop)
    else (if bytes_eq text (codes "peer") then Some (givens.Going ToPeer) else None))

abbrev pub what_given : List ℕ → Option Given
what_given text =
    if bytes_eq text (codes "install") then Some (givens.Holding Install)
    else (if bytes_eq text (codes "forward") then Some (givens.Holding Forward) else None)

abbrev pub protocol_given : List ℕ → Option Given
protocol_given text =
    if bytes_eq text (codes "tcp") then Some (givens.OfProtocol (Some 6))
    else (if bytes_eq text (codes "udp") then Some (givens.OfProtocol (Some 17))
    else (if bytes_eq text (codes "icmp") then Some (givens.OfProtocol (Some 1)) else None))

-- what a text gives in a form that takes texts; all others are met by no text
abbrev pub text_given : Form → List ℕ → Option Given
text_given VmName text = name_given text
text_given Mac text = option_map givens.Address (mac_of text)
text_given Ip text = option_map givens.Number (ip_of text)
text_given Cidr text = option_map givens.Within (prefix_of text)
text_given Protocol text = protocol_given text
text_given OnSide text = side_given text
text_given Action text = action_given text
text_given TargetKind text = target_given text
text_given NodeName text = option_map givens.At (node_of text)
text_given HoldKind text = what_given text
text_given _ text = None

abbrev pub texted : Form → Option (List ℕ) → Result Given Cause
texted form None = Err Field
texted form (Some text) = or_range (text_given form text)

-- ---- the others

abbrev pub number_of_protocol : ℕ → Given
number_of_protocol n = givens.OfProtocol (Some n)

-- a protocol is a text or a number
abbrev pub protocol_read : Option (List ℕ) → Option ℕ → Result Given Cause
protocol_read (Some text) number = or_range (protocol_given text)
protocol_read None number = in_range 0 255 number_of_protocol number

abbrev pub ports_read : Option ℕ → Option ℕ → Result Given Cause
ports_read (Some low) (Some high) = if nat_le low high && nat_le high 65535 then Ok (givens.Between low high) else Err Range
ports_read _ _ = Err Field

-- a range of ports is a list of two whole numbers, the first not above the second
abbrev pub ports_in : Option Items → Result Given Cause
ports_in (Some (item low (item high no_items))) = ports_read (whole low) (whole high)
ports_in _ = Err Field

abbrev pub truth_read : Option Bool → Result Given Cause
truth_read None = Err Field
truth_read (Some b) = Ok (givens.Allows b)

abbrev pub list_read : Option Items → Result Given Cause
list_read None = Err Field
list_read (Some list) = Ok givens.Listed

-- what a value gives in a field of this form
abbrev pub read_form : Form → Data → Result Given Cause
read_form (Whole low high) d = in_range low high givens.Number (whole d)
read_form Priority d = in_range 0 65535 givens.Priority (whole d)
read_form Protocol d = protocol_read (as_str d) (whole d)
read_form Ports d = ports_in (as_array d)
read_form Truth d = truth_read (as_bool d)
read_form Script d = list_read (as_array d)
read_form form d = texted form (as_str d)
