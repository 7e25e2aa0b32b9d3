-- `ber_encode::put_number` meets its contract: tag and length, then the content. Assumes nothing.
use native.Mathlib.Omega.{arith}
use Rattle.ber_encode.specs.Put.{and_then}
use Rattle.ber_encode.specs.Size.{tlv_number, number_room, length-length_octets}
use Rattle.ber_encode.proofs.put_number.Goals as goal

pub put_tag_length-p-requires : goal.put_tag_length-p-requires
put_tag_length-p-requires c = let a = c.args in
    omega (arith, number_room a.tag a.k a.v)

pub put_octets-requires : goal.put_octets-requires
put_octets-requires c = let a = c.args in
    omega (arith, number_room a.tag a.k a.v, length-length_octets a.k, c.put_tag_length-p.ensures.place)

pub returns : goal.returns
returns c = let a = c.args in
    rw (tlv_number a.tag a.k a.v) (and_then c.put_tag_length-p.ensures c.put_octets.ensures)
