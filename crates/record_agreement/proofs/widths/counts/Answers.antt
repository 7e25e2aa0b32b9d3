-- `record_agreement::widths::counts` meets its contract, by the invariant beside this file.
use Rattle.std.specs.Prelude.{List, [], ◌∷◌, ℕ, ◌+◌, ◌<◌, ℤ, pos, negsuc, length, take, get_or}
use Rattle.std.proofs.Common.{add-one, take-suc, arith}
use lib.Signed.{mag}
use Rattle.definition.specs.Frame.{Count, All}
use Rattle.definition.proofs.Sound.{all_append}
use Rattle.record_agreement.proofs.widths.counts.Goals as goal

of_32_bits : (z : ℤ) → mag z < 2147483648 → Count z
unfolding Count
of_32_bits (pos n) h = h
of_32_bits (negsuc n) h = h

one_more : (l : List ℤ) (i : ℕ) → i < length l → All Count (take i l) → mag (get_or l i (pos 0)) < 2147483648 → All Count (take (i + 1) l)
unfolding All
one_more l i h a m = rw (add-one, take-suc l i (pos 0) h) (all_append Count (take i l) (get_or l i (pos 0) ∷ []) a (of_32_bits (get_or l i (pos 0)) m, tt))

pub loop-z-init : goal.loop-z-init
unfolding All
loop-z-init c = tt

pub loop-z-preserved : goal.loop-z-preserved
loop-z-preserved c = one_more c.args.l.now c.loop-z.z-index c.loop-z-test.true c.loop-z.invariant (omega arith)
