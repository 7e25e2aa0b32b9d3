-- `ber_encode::tlv_size` meets its contract: the sum of the definition. Assumes nothing.
use native.Mathlib.Omega.{arith}
use borrow.Author.Rules.{rules}
use Rattle.ber_encode.specs.Size.{tlv_size, length_size-le}
use Rattle.ber_encode.proofs.tlv_size.Goals as goal

pub overflow_add-result : goal.overflow_add-result
overflow_add-result c = omega (arith, length_size-le c.args.n)

pub overflow_add-result-2 : goal.overflow_add-result-2
overflow_add-result-2 c = omega (arith, length_size-le c.args.n)

pub returns : goal.returns
unfolding tlv_size
returns c = search rules
