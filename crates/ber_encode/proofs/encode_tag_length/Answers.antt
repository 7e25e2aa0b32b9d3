-- `ber_encode::encode_tag_length` meets its contract: it asks whether all its octets can be written, and writes them where they can. Assumes nothing.
use Rattle.std.proofs.Common.{◌∷◌, arith}
use Rattle.std.proofs.lemmas.Result.{err_from_is_err_and}
use Rattle.definition.specs.Octets.{length_octets}
use Rattle.definition.specs.Answers.{encode_tag_length}
use Rattle.ber_encode.specs.Size.{length_head}
use Rattle.ber_encode.specs.Told.{written, refused_it, has_room, wrote_it}
use Rattle.ber_encode.proofs.encode_tag_length.Goals as goal

pub returns-in_err-check_room : goal.returns-in_err-check_room
unfolding encode_tag_length written
returns-in_err-check_room c = let a = c.args in
    let p = err_from_is_err_and c.from_residual.result c.from_residual.ensures.1 in
    let both = refused_it a.buffer.now a.at a.value (a.tag ∷ length_octets a.value) (omega (arith, length_head a.tag a.value)) c.in_err-check_room.ensures in
    record { written = rw (p.1, p.2) both.0; elements = both.1 }

pub put_tag_length-requires : goal.put_tag_length-requires
put_tag_length-requires c = let a = c.args in
    let f = has_room a.buffer.now a.at a.value (a.tag ∷ length_octets a.value) (omega (arith, length_head a.tag a.value)) c.in_ok-check_room.ensures in
    omega (arith, length_head a.tag a.value)

pub returns : goal.returns
unfolding encode_tag_length written
returns c = let a = c.args in
    let both = wrote_it a.buffer.now a.at a.value (a.tag ∷ length_octets a.value) (omega (arith, length_head a.tag a.value)) c.in_ok-check_room.ensures c.put_tag_length.ensures in
    record { written = both.0; elements = both.1 }
