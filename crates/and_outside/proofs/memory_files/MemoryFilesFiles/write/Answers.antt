use Rattle.std.proofs.Common.{◌≡◌, Some}
use Rattle.and_outside.specs.Memory.{content_of}
use Rattle.and_outside.proofs.Kept.{content_of-pushed, content_of-others}
use Rattle.and_outside.proofs.memory_files.MemoryFilesFiles.write.Goals as goal

pub returns-clause-told : goal.returns-clause-told
returns-clause-told c tells = rw c.hold.ensures (content_of-pushed c.begin.new.self.kept c.args.name.now c.args.bytes.now)

pub returns-clause-written : goal.returns-clause-written
returns-clause-written c t told =
    let holds : content_of c.hold.new.self.kept c.args.name.now ≡ Some c.args.bytes.now = rw c.hold.ensures (content_of-pushed c.begin.new.self.kept c.args.name.now c.args.bytes.now) in
    cc

pub returns-clause-still_told : goal.returns-clause-still_told
returns-clause-still_told c t told = rw c.hold.ensures (content_of-pushed c.begin.new.self.kept c.args.name.now c.args.bytes.now)

pub returns-clause-others_stay : goal.returns-clause-others_stay
returns-clause-others_stay c n other = rw (c.hold.ensures, c.begin.ensures) (content_of-others c.args.self.now.kept c.args.name.now c.args.bytes.now n other)
