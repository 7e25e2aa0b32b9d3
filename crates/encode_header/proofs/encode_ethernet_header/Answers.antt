-- `encode_header::encode_ethernet_header` meets its contract: one writer after another, each where the last ended. The room that
-- each needs is part of the header's. Assumes nothing.
use borrow.Author.Rules.{rules}
use Prim.Native.Nat.{◌+◌, ◌≤◌}
use native.Mathlib.Omega.{arith}
use lib.ListN.{length}
use Rattle.encode_header.specs.Header.{tag_octets, header_written, smv_octets, length_header, header_fits_lem}
use Rattle.ber_encode.specs.Put.{and_then}
use Rattle.definition.proofs.OctetLaws.{length-octets}
use Rattle.encode_header.proofs.encode_ethernet_header.Goals as goal

pub put_bytes-p1-requires : goal.put_bytes-p1-requires
put_bytes-p1-requires c =
    let room : 22 + length (tag_octets c.args.header.vlan) ≤ length c.args.frame.now = omega (arith, length_header c.args.header c.args.sim c.args.len (search rules) (search rules), c.requires.1) in
    omega (arith, room)

pub put_bytes-p2-requires : goal.put_bytes-p2-requires
put_bytes-p2-requires c =
    let room : 22 + length (tag_octets c.args.header.vlan) ≤ length c.args.frame.now = omega (arith, length_header c.args.header c.args.sim c.args.len (search rules) (search rules), c.requires.1) in
    omega (arith, room)

pub put_vlan-p3-requires : goal.put_vlan-p3-requires
put_vlan-p3-requires c =
    let room : 22 + length (tag_octets c.args.header.vlan) ≤ length c.args.frame.now = omega (arith, length_header c.args.header c.args.sim c.args.len (search rules) (search rules), c.requires.1) in
    ((header_fits_lem c.args.header c.requires.0).1, omega (arith, room))

pub put_bytes-p4-requires : goal.put_bytes-p4-requires
put_bytes-p4-requires c =
    let room : 22 + length (tag_octets c.args.header.vlan) ≤ length c.args.frame.now = omega (arith, length_header c.args.header c.args.sim c.args.len (search rules) (search rules), c.requires.1) in
    omega (arith, room)

pub put_octets-p5-requires : goal.put_octets-p5-requires
put_octets-p5-requires c =
    let room : 22 + length (tag_octets c.args.header.vlan) ≤ length c.args.frame.now = omega (arith, length_header c.args.header c.args.sim c.args.len (search rules) (search rules), c.requires.1) in
    omega (arith, room)

pub put_octets-p6-requires : goal.put_octets-p6-requires
put_octets-p6-requires c =
    let room : 22 + length (tag_octets c.args.header.vlan) ≤ length c.args.frame.now = omega (arith, length_header c.args.header c.args.sim c.args.len (search rules) (search rules), c.requires.1) in
    omega (arith, room, length-octets 2 c.args.header.appid, length-octets 2 c.args.len)

pub put_reserved-requires : goal.put_reserved-requires
put_reserved-requires c =
    let room : 22 + length (tag_octets c.args.header.vlan) ≤ length c.args.frame.now = omega (arith, length_header c.args.header c.args.sim c.args.len (search rules) (search rules), c.requires.1) in
    omega (arith, room, length-octets 2 c.args.header.appid, length-octets 2 c.args.len)

pub returns : goal.returns
unfolding header_written
returns c = rw ((header_fits_lem c.args.header c.requires.0).0, smv_octets)
    (and_then c.put_bytes-p1.ensures
    (and_then c.put_bytes-p2.ensures
    (and_then c.put_vlan-p3.ensures
    (and_then c.put_bytes-p4.ensures
    (and_then c.put_octets-p5.ensures
    (and_then c.put_octets-p6.ensures c.put_reserved.ensures))))))
