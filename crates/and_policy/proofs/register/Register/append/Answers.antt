use Rattle.and_policy.proofs.Registering.{replaced}
use Rattle.and_policy.proofs.register.Register.append.Goals as goal

pub returns : goal.returns
returns c = λ hosts k fit is.
    c.note.ensures hosts k fit (c.append.ensures.placements k is.placements) (replaced c.args.self.now c.append.new.self k is.live)
