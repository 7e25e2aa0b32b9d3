-- `ber_encode::size_length` meets its contract: its test is the definition's. Assumes nothing.
use mathlib.Core.Path.{sym, ap, ◌∙◌}
use Prim.Native.Nat.{ℕ, ◌+◌}
use native.Mathlib.Omega.{arith}
use Rattle.definition.proofs.OctetLaws.{length_more-le}
use Rattle.ber_encode.specs.Size.{size_short, size_long}
use Rattle.ber_encode.proofs.size_length.Goals as goal

pub returns-then-value-lt128 : goal.returns-then-value-lt128
returns-then-value-lt128 c = sym (size_short _ c.if-value-lt128.true)

pub overflow_add-result : goal.overflow_add-result
overflow_add-result c = omega (arith, length_more-le c.args.value)

pub returns : goal.returns
returns c = ap (λ (m : ℕ). 1 + m) c.length_more.ensures ∙ sym (size_long _ c.if-value-lt128.false)
