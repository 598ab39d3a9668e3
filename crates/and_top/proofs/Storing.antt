-- Calls one after the other: what the later ones say is so from the beginning.
use Rattle.std.proofs.Common.{◌≡◌, ◌≤◌, ◌+◌, ◌∙◌, ℕ, List, true, arith}
use Rattle.and_outside.specs.Disk.{Disk}
use Rattle.and_top.specs.Answers.{IsKept, Leaves, Stands}
use Rattle.and_top.specs.Outside.{Calls, Stays, WriteFailed}
use Rattle.and_top.specs.Words.{Named}

-- ---- how many calls were made

pub calls_more : (n m : ℕ) (old mid new : Disk) → old.read_faults ≤ mid.read_faults → old.write_faults ≤ mid.write_faults → old.taken ≤ mid.taken
    → Calls n old mid → Calls m mid new → Calls (n + m) old new
calls_more n m old mid new reads writes taken first more =
    let a = first.number in
    let b = more.number in
    let c = more.read_faults in
    let d = more.write_faults in
    let e = more.taken in
    record { number = omega (arith, a, b); read_faults = omega (arith, reads, c); write_faults = omega (arith, writes, d); taken = omega (arith, taken, e) }

pub failed_more : (n m : ℕ) (old mid new : Disk) → old.read_faults ≤ mid.read_faults → old.write_faults ≤ mid.write_faults → old.taken ≤ mid.taken
    → Calls n old mid → WriteFailed m mid new → WriteFailed (n + m) old new
failed_more n m old mid new reads writes taken first f = record { call = calls_more n m old mid new reads writes taken first f.call; rose = f.rose }

-- ---- what comes later is so from the beginning

pub stands_later : (name : List ℕ) (old mid new : Disk) (text : List ℕ) → IsKept name old mid → (old.tells ≡ true → mid.tells ≡ true) → Stands name mid new text → Stands name old new text
stands_later name old mid new text kept tells s = record { held = s.held; told = λ before told. s.told before (kept ∙ told); given = λ t. s.given (tells t) }

pub leaves_later : (names : Named) (old mid new : Disk) → Stays old mid → Leaves names mid new → Leaves names old new
leaves_later names old mid new stays l =
    record {
      others = λ other a b c. l.others other a b c ∙ stays.contents other;
      calm = λ e. l.calm (stays.calm e);
      tells = λ e. l.tells (stays.tells e);
      write_faults = omega (arith, stays.write_faults, l.write_faults);
      read_faults = omega (arith, stays.read_faults, l.read_faults);
      taken = omega (arith, stays.taken, l.taken);
    }
