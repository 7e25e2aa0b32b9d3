-- `ber_encode::encode_unsigned_integer` meets its contract: it asks whether all its octets can be written, and writes them where they can. Assumes nothing.
use Rattle.std.proofs.Common.{◌≡◌, length, sym, ap, ◌∙◌, arith}
use Rattle.std.proofs.lemmas.Result.{err_from_is_err_and}
use Rattle.definition.specs.Octets.{tlv, uint_octets}
use Rattle.definition.specs.Answers.{encode_ber}
use Rattle.definition.proofs.OctetLaws.{length-uint_octets}
use Rattle.ber_encode.specs.Size.{length_size, length_tlv}
use Rattle.ber_encode.specs.Told.{written, refused_it, has_room, wrote_it}
use Rattle.ber_encode.proofs.encode_unsigned_integer.Goals as goal

pub returns-in_err-check_room : goal.returns-in_err-check_room
unfolding encode_ber written
returns-in_err-check_room c = let a = c.args in
    let k : c.unsigned_integer_length-size.result ≡ length (uint_octets a.value) = c.unsigned_integer_length-size.ensures ∙ sym (length-uint_octets a.value) in
    let p = err_from_is_err_and c.from_residual.result c.from_residual.ensures.1 in
    let both = refused_it a.buffer.now a.at (length (uint_octets a.value)) (tlv a.tag (uint_octets a.value)) (omega (arith, length_tlv a.tag (uint_octets a.value), ap length_size k)) (rw k at c.in_err-check_room.ensures) in
    record { written = rw (p.1, p.2) both.0; elements = both.1 }

pub put_uint-requires : goal.put_uint-requires
put_uint-requires c = let a = c.args in
    let k : c.unsigned_integer_length-size.result ≡ length (uint_octets a.value) = c.unsigned_integer_length-size.ensures ∙ sym (length-uint_octets a.value) in
    let f = has_room a.buffer.now a.at (length (uint_octets a.value)) (tlv a.tag (uint_octets a.value)) (omega (arith, length_tlv a.tag (uint_octets a.value), ap length_size k)) (rw k at c.in_ok-check_room.ensures) in
    omega (arith)

pub returns : goal.returns
unfolding encode_ber written
returns c = let a = c.args in
    let k : c.unsigned_integer_length-size.result ≡ length (uint_octets a.value) = c.unsigned_integer_length-size.ensures ∙ sym (length-uint_octets a.value) in
    let both = wrote_it a.buffer.now a.at (length (uint_octets a.value)) (tlv a.tag (uint_octets a.value)) (omega (arith, length_tlv a.tag (uint_octets a.value), ap length_size k)) (rw k at c.in_ok-check_room.ensures) c.put_uint.ensures in
    record { written = both.0; elements = both.1 }
