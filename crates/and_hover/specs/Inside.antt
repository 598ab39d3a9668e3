-- How a worker's fields are seen, and what is true of what it has in hand.
use Rattle.std.specs.Prelude.{IsOk, Option, Some, None}
use Rattle.and_policy.specs.Frames.{fields}
use Rattle.and_hover.specs.declared.hover.Hover.TheInside.{Inside}
use Rattle.and_hover.specs.declared.hover.InHand.{InHand}
use Rattle.and_hover.specs.Hovers.{HoverView}

abbrev pub view_of : Inside → HoverView
view_of h = record { gateway = h.gateway; compared = h.compared; hand = h.hand }

-- a parcel in hand is one that `read_frame` accepts
abbrev pub IsReadable : Option InHand → Type 0
IsReadable None = Unit {0}
IsReadable (Some x) = IsOk (fields x.parcel.frame)

abbrev pub IsHover : Inside → Type 0
IsHover h = IsReadable h.hand
