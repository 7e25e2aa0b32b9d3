-- integer: a sum of 2^64 or more is refused; else what integer_after promises.
use Rattle.std.proofs.Common.{sym, ◌∙◌, arith}
use borrow.Author.Tests.{ltb-false}
use Rattle.ber_decode.specs.Cases.{number_sum}
use Rattle.ber_decode.proofs.Cursor.integer.Goals as goal

pub returns-then-not-sum_fits : goal.returns-then-not-sum_fits
returns-then-not-sum_fits c = rw c.at.ensures (sym (number_sum _ _ _ _ (omega arith) (ltb-false _ _ (sym c.sum_fits.ensures ∙ c.if-not-sum_fits.true))))
