use Rattle.std.proofs.Common.{◌≡◌, ◌∷◌, ◌++◌, [], length, refl, All, rules}
use Rattle.and_outside.specs.Places.{kept_in, IsWithin}
use Rattle.and_outside.proofs.Kept.{kept_in-push}
use Rattle.and_outside.proofs.memory_files.MemoryFiles.hold.Goals as goal

pub returns : goal.returns
returns c =
    let within : All (IsWithin (length c.self.inside.bytes.items)) c.self.inside.places.items = search rules in
    let pushed : kept_in c.append-2.new.all.items c.push_reserved.new.self.items ≡ kept_in c.self.inside.bytes.items c.self.inside.places.items ++ record { name = c.args.name.now; bytes = c.args.bytes.now } ∷ [] =
    rw (c.append-2.ensures.items, c.append.ensures.items, c.as_bytes.ensures.value, c.push_reserved.ensures.items)
    (kept_in-push _ _ _ _ _ within (search rules) (search rules) (search rules)) in
    rw (← c.self.view_is, pushed) refl
