-- octets_for_after: each return is a case of span_at.
use Rattle.std.proofs.Common.{sym, ap, arith}
use Rattle.ber_decode.specs.Told.{found, span_from}
use Rattle.ber_decode.specs.Cases.{span_cut_at, span_long, span_held}
use Rattle.ber_decode.proofs.Cursor.octets_for_after.Goals as goal
use Rattle.ber_decode.proofs.Cursor.octets_for_after.Goals.{then-s-at-via-then-s-at, then-s-at-via-else-s-at+then-s-at-2}

pub returns-then-s-at : goal.returns-then-s-at
returns-then-s-at c =
    rw c.at.ensures
    (elim c.then-s-at.branch [
      | then-s-at-via-then-s-at w ↦ sym (ap (found (span_from _ _)) (span_cut_at _ _ _ _ _ (omega arith) (omega arith)))
      | then-s-at-via-else-s-at+then-s-at-2 w ↦ sym (ap (found (span_from _ _)) (span_cut_at _ _ _ _ _ (omega arith) (omega arith)))
    ])

pub returns-then-limit-len : goal.returns-then-limit-len
returns-then-limit-len c = rw c.at-then-limit-len.ensures (sym (ap (found (span_from _ _)) (span_long _ _ _ _ _ (omega arith) (omega arith))))

pub returns : goal.returns
returns c = sym (ap (found (span_from _ _)) (span_held _ _ _ _ _ (omega arith) (omega arith)))
