-- integer_of: each return is a case of number_at.
use Rattle.std.proofs.Common.{sym, arith}
use Rattle.ber_decode.specs.Cases.{number_none_at, number_cut_at, number_plain, number_signed, number_long, number_full, number_idle, number_front}
use Rattle.ber_decode.proofs.integer_of.Goals as goal
use Rattle.ber_decode.proofs.integer_of.Goals.{then-s-at-via-then-s-at, then-s-at-via-else-s-at+then-s-at-2, then-width-len-via-then-width-len, then-width-len-via-else-width-len+then-first-gt0, then-width-len-via-else-width-len+else-first-gt0+then-s-at-lt128}

pub returns-then-s-at : goal.returns-then-s-at
returns-then-s-at c =
    rw c.at.ensures
    (elim c.then-s-at.branch [
      | then-s-at-via-then-s-at w ↦ sym (number_none_at _ _ _ _ (omega arith) (omega arith))
      | then-s-at-via-else-s-at+then-s-at-2 w ↦ sym (number_cut_at _ _ _ _ (omega arith) (omega arith) (omega arith))
    ])

pub returns-then-first-lt128 : goal.returns-then-first-lt128
returns-then-first-lt128 c = rw c.be.ensures (sym (number_plain _ _ _ _ (omega arith) (omega arith) (omega arith) (omega arith)))

pub returns-then-len-width : goal.returns-then-len-width
returns-then-len-width c = rw c.extended.ensures (sym (number_signed _ _ _ _ (omega arith) (omega arith) (omega arith) (omega arith)))

pub returns-then-width-len : goal.returns-then-width-len
returns-then-width-len c =
    rw c.at-then-width-len.ensures
    (elim c.then-width-len.branch [
      | then-width-len-via-then-width-len w ↦ sym (number_long _ _ _ _ (omega arith) (omega arith) (omega arith))
      | then-width-len-via-else-width-len+then-first-gt0 w ↦ sym (number_full _ _ _ _ (omega arith) (omega arith) (omega arith) (omega arith))
      | then-width-len-via-else-width-len+else-first-gt0+then-s-at-lt128 w ↦ sym (number_idle _ _ _ _ (omega arith) (omega arith) (omega arith) (omega arith) (omega arith))
    ])

pub returns : goal.returns
returns c = rw c.be-2.ensures (sym (number_front _ _ _ _ (omega arith) (omega arith) (omega arith) (omega arith) (omega arith)))
