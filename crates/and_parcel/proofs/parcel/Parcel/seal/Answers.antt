use Rattle.std.proofs.Common.{◌≡◌, ◌∙◌, drop, length, ap, sym, arith}
use Rattle.std.proofs.lemmas.List.{take-append-drop, with_items_is}
use Rattle.and_policy.specs.Outer.{outer_packet}
use Rattle.and_parcel.specs.Parcels.{envelope, wire_of}
use Rattle.and_parcel.specs.Sealing.{checksummed}
use Rattle.and_parcel.proofs.Packets.{sealed_bytes, sealed_unwraps}
use Rattle.and_parcel.proofs.parcel.Parcel.seal.Goals as goal

pub returns-clause-sealed : goal.returns-clause-sealed
returns-clause-sealed c =
    λ o w.
    let items = c.self.inside.bytes.items in
    let was : items ≡ outer_packet (envelope o) c.args.self.now.frame = sym (ap wire_of (sym c.self.view_is) ∙ take-append-drop 36 items) ∙ w.1 in
    take-append-drop 36 _ ∙ with_items_is c.self.inside.bytes c.put_checksum.new.bytes (grind arith) ∙ c.put_checksum.ensures ∙ ap checksummed c.deref_mut.ensures.value
    ∙ sealed_bytes o c.args.self.now.frame items was

pub returns-clause-unwraps : goal.returns-clause-unwraps
returns-clause-unwraps c =
    λ p r.
    let o = c.requires.0 in
    let was = sym (ap wire_of (sym c.self.view_is) ∙ take-append-drop 36 c.self.inside.bytes.items) ∙ c.requires.1.1 in
    sealed_unwraps o p c.args.self.now.frame _ _ c.requires.1.0 (omega (arith, ap length was, c.self.invariant.1)) c.requires.1.1 (returns-clause-sealed c o c.requires.1) r

pub returns-clause-kept : goal.returns-clause-kept
returns-clause-kept c =
    let o = c.requires.0 in
    let items = c.self.inside.bytes.items in
    let was : items ≡ outer_packet (envelope o) c.args.self.now.frame = sym (ap wire_of (sym c.self.view_is) ∙ take-append-drop 36 items) ∙ c.requires.1.1 in (
      ap (drop 36) (with_items_is c.self.inside.bytes c.put_checksum.new.bytes (grind arith) ∙ c.put_checksum.ensures ∙ ap checksummed c.deref_mut.ensures.value
          ∙ sealed_bytes o c.args.self.now.frame items was),
      ap (λ v. v.packet) c.self.view_is,
      ap (λ v. v.vm) c.self.view_is,
    )
