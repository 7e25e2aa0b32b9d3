-- octets: a sum of 2^64 or more is refused; else what octets_after promises.
use Rattle.std.proofs.Common.{sym, ap, ◌∙◌, arith}
use borrow.Author.Tests.{ltb-false}
use Rattle.ber_decode.specs.Told.{found, span_from}
use Rattle.ber_decode.specs.Cases.{span_sum}
use Rattle.ber_decode.proofs.Cursor.octets.Goals as goal

pub returns-then-not-sum_fits : goal.returns-then-not-sum_fits
returns-then-not-sum_fits c = rw (c.ended.ensures.0, c.ended.ensures.1) (sym (ap (found (span_from _ _)) (span_sum _ _ _ _ _ (omega arith) (ltb-false _ _ (sym c.sum_fits.ensures ∙ c.if-not-sum_fits.true)))))
