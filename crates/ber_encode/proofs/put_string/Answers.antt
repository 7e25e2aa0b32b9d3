-- `ber_encode::put_string` meets its contract: tag and length, then the content. Assumes nothing.
use native.Mathlib.Omega.{arith}
use lib.ListN.{length}
use Rattle.ber_encode.specs.Put.{and_then}
use Rattle.definition.specs.Octets.{tlv}
use Rattle.ber_encode.specs.Size.{length_tlv, length-length_octets}
use Rattle.ber_encode.proofs.put_string.Goals as goal

pub put_tag_length-p-requires : goal.put_tag_length-p-requires
put_tag_length-p-requires c = let a = c.args in
    omega (arith, length_tlv a.tag a.src.now)

pub put_bytes-requires : goal.put_bytes-requires
put_bytes-requires c = let a = c.args in
    omega (arith, length_tlv a.tag a.src.now, length-length_octets (length a.src.now), c.put_tag_length-p.ensures.place)

pub returns : goal.returns
unfolding tlv
returns c = and_then c.put_tag_length-p.ensures c.put_bytes.ensures
