use Rattle.and_policy.proofs.underlay.flow_hash.Goals as goal

pub returns : goal.returns
returns c =
    rw (c.mixed.ensures, c.to_be_bytes-4.ensures, c.mixed-hash-3.ensures, c.to_be_bytes-3.ensures, c.mixed-hash-2.ensures, c.to_be_bytes-2.ensures, c.mixed-hash.ensures, c.to_be_bytes.ensures, c.of_protocol-hash.ensures)
