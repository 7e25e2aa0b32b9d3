-- `ber_encode::put_tag_length` meets its contract: the tag, the first length octet, then the octets of the length. Assumes nothing.
use Prim.Native.Nat.{◌+◌}
use native.Mathlib.Omega.{arith}
use lib.ListN.{length-set}
use Rattle.ber_encode.specs.Put.{and_then, one_wrote}
use Rattle.definition.proofs.OctetLaws.{length_more-le, length_short, length_long}
use Rattle.ber_encode.specs.Size.{size_short, size_long}
use Rattle.ber_encode.proofs.put_tag_length.Goals as goal

pub bounds-buffer-p : goal.bounds-buffer-p
bounds-buffer-p c = simp length-set (omega (arith, size_short _ c.if-n-lt128.true))

pub returns-then-n-lt128 : goal.returns-then-n-lt128
returns-then-n-lt128 c = let a = c.args in
    rw (length_short a.n c.if-n-lt128.true) (and_then (one_wrote a.buffer.now a.at a.tag) (one_wrote _ (a.at + 1) a.n))

pub overflow_add-buffer : goal.overflow_add-buffer
overflow_add-buffer c = omega (arith, length_more-le c.args.n)

pub overflow_cast-buffer-2 : goal.overflow_cast-buffer-2
overflow_cast-buffer-2 c = omega (arith, length_more-le c.args.n)

pub bounds-buffer-p-2 : goal.bounds-buffer-p-2
bounds-buffer-p-2 c = simp length-set (omega (arith, size_long _ c.if-n-lt128.false))

pub put_octets-requires : goal.put_octets-requires
put_octets-requires c = simp length-set (omega (arith, size_long _ c.if-n-lt128.false))

pub returns : goal.returns
returns c = let a = c.args in
    let k = c.length_more-k in
    rw (length_long a.n c.if-n-lt128.false, ← k.ensures)
    (and_then (and_then (one_wrote a.buffer.now a.at a.tag) (one_wrote _ (a.at + 1) (128 + k.result))) c.put_octets.ensures)
