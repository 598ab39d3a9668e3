use Rattle.std.proofs.Common.{ap, ◌∙◌, arith}
use Rattle.std.proofs.lemmas.List.{take-append-drop, with_items_is}
use Rattle.and_parcel.specs.Reading.{reading}
use Rattle.and_parcel.proofs.parcel.Parcel.wrap.Goals as goal

pub returns-clause-unwraps : goal.returns-clause-unwraps
returns-clause-unwraps c =
    ap reading (take-append-drop 36 _ ∙ with_items_is c.self.inside.bytes c.write_header.new.bytes (grind arith)) ∙ c.write_header.ensures.reads
