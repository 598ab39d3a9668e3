use Rattle.std.proofs.Common.{ℕ, ◌++◌, ◌-◌, length, drop, ap, ◌∙◌, refl, arith, length-drop}
use Rattle.and_policy.specs.Outer.{ones_sum, ip_header, udp_header, vxlan_header}
use Rattle.and_parcel.specs.Parcels.{envelope}
use Rattle.and_parcel.proofs.Headers.{put_next, open_packet_is}
use Rattle.and_parcel.proofs.header.write_open.Goals as goal

pub returns-clause-packet : goal.returns-clause-packet
returns-clause-packet c =
    let o = envelope c.args.outer in
    let n = length c.args.bytes.now - 36 in
    let sum = 65535 - c.ones_sum-checksum.result in
    let two = put_next 20 8 _ (ip_header o n sum) (udp_header o n 0) c.args.bytes.now c.put_ip.new.out c.put_udp.new.out refl refl c.put_ip.ensures c.put_udp.ensures.header in
    let three = put_next 28 8 _ (ip_header o n sum ++ udp_header o n 0) (vxlan_header o) c.args.bytes.now _ c.put_vxlan.new.out refl refl two c.put_vxlan.ensures in
    three ∙ open_packet_is o n sum (drop 36 c.args.bytes.now) (omega (arith, length-drop 36 c.args.bytes.now)) (ap (λ (s : ℕ). 65535 - s) (c.ones_sum-checksum.ensures.sum ∙ ap ones_sum c.ip_header.ensures.header))

pub returns-clause-range : goal.returns-clause-range
returns-clause-range c = record { source = c.ip_header.ensures.fits.0; destination = c.ip_header.ensures.fits.1; ttl = c.ip_header.ensures.fits.2; vni = c.requires.vni; source_port = c.put_udp.ensures.fits }
