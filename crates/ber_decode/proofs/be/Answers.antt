-- be: the sum and the product of the loop do not overflow, and the number of the octets so far grows by one.
use Rattle.std.proofs.Common.{◌+◌, arith}
use Rattle.ber_decode.specs.Cases.{be_more, be_none, pow_three, digit_more}
use Rattle.ber_decode.proofs.be.Goals as goal

pub loop-i-init : goal.loop-i-init
loop-i-init c = (be_none _ _, omega arith)

pub overflow_mul-value : goal.overflow_mul-value
overflow_mul-value c = omega (arith, pow_three {n = c.loop-i.i} (omega arith))

pub overflow_add-value-in-loop-i : goal.overflow_add-value-in-loop-i
overflow_add-value-in-loop-i c = omega (arith, c.type_inv.s (c.args.at + c.loop-i.i), pow_three {n = c.loop-i.i} (omega arith))

pub loop-i-preserved : goal.loop-i-preserved
loop-i-preserved c = (
  rw c.loop-i.invariant.0 (be_more _ _ _),
  digit_more _ c.loop-i.invariant.1 (omega (arith, c.type_inv.s (c.args.at + c.loop-i.i))),
)
