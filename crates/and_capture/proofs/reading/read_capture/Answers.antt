use Rattle.std.proofs.Common.{arith}
use Rattle.and_capture.proofs.Files.{is_found, is_only}
use Rattle.and_capture.proofs.reading.read_capture.Goals as goal

pub returns-clause-found : goal.returns-clause-found
returns-clause-found c = is_found c.args.bytes.now c.any_capture_of.result (λ i. omega (arith, c.type_inv.bytes i)) c.any_capture_of.ensures

pub returns-clause-only : goal.returns-clause-only
returns-clause-only c = is_only c.args.bytes.now c.any_capture_of.result c.any_capture_of.ensures
