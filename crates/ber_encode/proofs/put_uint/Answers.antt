-- `ber_encode::put_uint` meets its contract: the octets of its content with their tag. Assumes nothing.
use native.Mathlib.Omega.{arith}
use Rattle.definition.specs.Octets.{uint_octets}
use Rattle.definition.proofs.OctetLaws.{uint_size-le}
use Rattle.ber_encode.proofs.put_uint.Goals as goal

pub put_number-requires : goal.put_number-requires
unfolding uint_octets
put_number-requires c = (rw c.unsigned_integer_length.ensures c.requires, omega (arith, c.unsigned_integer_length.ensures, uint_size-le c.args.v))

pub returns : goal.returns
unfolding uint_octets
returns c = rw (← c.unsigned_integer_length.ensures) c.put_number.ensures
