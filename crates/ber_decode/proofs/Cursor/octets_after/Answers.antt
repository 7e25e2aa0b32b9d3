-- octets_after: each return is a case of span_at.
use Rattle.std.proofs.Common.{sym, ap, arith}
use Rattle.ber_decode.specs.Told.{found, span_from}
use Rattle.ber_decode.specs.Cases.{span_cut_at, span_long, span_held}
use Rattle.ber_decode.proofs.Cursor.octets_after.Goals as goal
use Rattle.ber_decode.proofs.Cursor.octets_after.Goals.{then-at-s-via-then-at-s, then-at-s-via-else-at-s+then-len-s}

pub returns-then-at-s : goal.returns-then-at-s
returns-then-at-s c =
    rw (c.ended.ensures.0, c.ended.ensures.1)
    (elim c.then-at-s.branch [
      | then-at-s-via-then-at-s w ↦ sym (ap (found (span_from _ _)) (span_cut_at _ _ _ _ _ (omega arith) (omega arith)))
      | then-at-s-via-else-at-s+then-len-s w ↦ sym (ap (found (span_from _ _)) (span_cut_at _ _ _ _ _ (omega arith) (omega arith)))
    ])

pub returns-then-limit-len : goal.returns-then-limit-len
returns-then-limit-len c = sym (ap (found (span_from _ _)) (span_long _ _ _ _ _ (omega arith) (omega arith)))

pub returns : goal.returns
returns c = sym (ap (found (span_from _ _)) (span_held _ _ _ _ _ (omega arith) (omega arith)))
