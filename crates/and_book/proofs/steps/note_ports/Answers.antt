use Rattle.std.proofs.Common.{◌≡◌, List, None, sym, subst, arith}
use Rattle.and_policy.specs.declared.port.Port.{Port}
use Rattle.and_events.specs.Ports.{port_at}
use Rattle.and_pins.specs.Pinned.{ArePins, hairpin_entry}
use Rattle.and_book.specs.Inside.{BootsAnew}
use Rattle.and_book.proofs.Pinning.{booted_pins}
use Rattle.and_book.proofs.steps.note_ports.Goals as goal

pub returns-in-AddVm-clause-pins : goal.returns-in-AddVm-clause-pins
returns-in-AddVm-clause-pins c =
    let host = c.in-AddVm.host in
    let vm = c.in-AddVm.vm in
    let none : hairpin_entry (port_at c.args.ports.now host vm) ≡ None = subst (BootsAnew c.args.ports.now) c.in-AddVm.is c.requires in
    booted_pins c.args.pins.now c.args.ports.now c.boot.new.self host vm none c.boot.ensures

pub returns-in-RemoveVm-clause-pins : goal.returns-in-RemoveVm-clause-pins
returns-in-RemoveVm-clause-pins c =
    record {
      standing = λ are. subst (λ (rows : List (List Port)). ArePins c.take_all.new.self.pins rows) (sym c.halt.ensures) (c.take_all.ensures.pins c.args.ports.now are);
      few = omega (arith, c.take_all.ensures.fewer);
      least = c.take_all.ensures.least;
      room = c.take_all.ensures.room;
    }
