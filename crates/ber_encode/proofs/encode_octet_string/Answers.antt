-- `ber_encode::encode_octet_string` meets its contract: it asks whether all its octets can be written, and writes them where they can. Assumes nothing.
use Rattle.std.proofs.Common.{length, arith}
use Rattle.std.proofs.lemmas.Result.{err_from_is_err_and}
use Rattle.definition.specs.Octets.{tlv}
use Rattle.definition.specs.Answers.{encode_ber}
use Rattle.ber_encode.specs.Size.{length_tlv}
use Rattle.ber_encode.specs.Told.{written, refused_it, has_room, wrote_it}
use Rattle.ber_encode.proofs.encode_octet_string.Goals as goal

pub returns-in_err-check_room : goal.returns-in_err-check_room
unfolding encode_ber written
returns-in_err-check_room c = let a = c.args in
    let p = err_from_is_err_and c.from_residual.result c.from_residual.ensures.1 in
    let both = refused_it a.buffer.now a.at (length a.value.now) (tlv a.tag a.value.now) (omega (arith, length_tlv a.tag a.value.now)) c.in_err-check_room.ensures in
    record { written = rw (p.1, p.2) both.0; elements = both.1 }

pub put_string-requires : goal.put_string-requires
put_string-requires c = let a = c.args in
    let f = has_room a.buffer.now a.at (length a.value.now) (tlv a.tag a.value.now) (omega (arith, length_tlv a.tag a.value.now)) c.in_ok-check_room.ensures in
    omega (arith)

pub returns : goal.returns
unfolding encode_ber written
returns c = let a = c.args in
    let both = wrote_it a.buffer.now a.at (length a.value.now) (tlv a.tag a.value.now) (omega (arith, length_tlv a.tag a.value.now)) c.in_ok-check_room.ensures c.put_string.ensures in
    record { written = both.0; elements = both.1 }
