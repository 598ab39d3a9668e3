use Rattle.std.proofs.Common.{◌-◌, ◌+◌, length, take, sym, subst, arith}
use Rattle.std.proofs.lemmas.List.{take_more}
use Rattle.and_policy.specs.Placements.{ArePlacements, HasRoom}
use Rattle.and_outputs.proofs.underlay.places_of.Goals as goal

pub loop-entry-preserved : goal.loop-entry-preserved
loop-entry-preserved c =
    let log = c.as_slice-log.result.now in
    let i = c.loop-entry.entry-index in
    record {
      are = subst (ArePlacements c.append.new.self) (sym (take_more log i _ c.loop-entry-test.true)) (c.append.ensures.placements (take i log) c.loop-entry.invariant.are);
      room = c.append.ensures.room (length log - (i + 1)) (subst (λ n. HasRoom n c.loop-entry.places) (omega (arith, c.loop-entry-test.true)) c.loop-entry.invariant.room);
    }
