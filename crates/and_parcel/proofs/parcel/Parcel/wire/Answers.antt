use Rattle.std.proofs.Common.{sym, ◌∙◌}
use Rattle.std.proofs.lemmas.List.{take-append-drop}
use Rattle.and_parcel.proofs.parcel.Parcel.wire.Goals as goal

pub returns : goal.returns
returns c = rw (← c.self.view_is) (c.as_slice.ensures.value ∙ sym (take-append-drop 36 c.self.inside.bytes.items))
