use Rattle.std.proofs.Common.{ap, sym, ◌∙◌}
use Rattle.std.proofs.lemmas.List.{take-append-drop}
use Rattle.and_parcel.specs.Reading.{reading}
use Rattle.and_parcel.proofs.parcel.Parcel.unwrap.Goals as goal

pub returns : goal.returns
returns c = rw (← c.self.view_is) (c.read_outer.ensures ∙ ap reading (c.as_slice.ensures.value ∙ sym (take-append-drop 36 c.self.inside.bytes.items)))
