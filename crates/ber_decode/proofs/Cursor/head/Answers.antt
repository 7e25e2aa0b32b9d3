-- head: each return is a case of head_at.
use Rattle.std.proofs.Common.{sym, ap, arith}
use Rattle.ber_decode.specs.Told.{found, head_of}
use Rattle.ber_decode.specs.Cases.{head_none, head_short, head_bad, head_cut, head_long}
use Rattle.ber_decode.proofs.Cursor.head.Goals as goal
use Rattle.ber_decode.proofs.Cursor.head.Goals.{then-s-at-via-then-s-at, then-s-at-via-else-s-at+then-s-at-lt2}

pub returns-then-s-at : goal.returns-then-s-at
returns-then-s-at c = rw c.at.ensures (sym (ap (found head_of) (head_none _ _ (omega arith))))

pub returns-then-first-lt128 : goal.returns-then-first-lt128
returns-then-first-lt128 c = sym (ap (found head_of) (head_short _ _ (omega arith) (omega arith)))

pub returns-then-first : goal.returns-then-first
returns-then-first c = rw c.at-then-first.ensures (sym (ap (found head_of) (head_bad _ _ (omega arith) (omega arith) (λ l h. omega arith))))

pub returns-then-s-at-2 : goal.returns-then-s-at-2
returns-then-s-at-2 c = rw c.at-then-s-at-2.ensures (sym (ap (found head_of) (head_cut _ _ (omega arith) (omega arith) (omega arith) (omega arith))))

pub returns : goal.returns
returns c = rw c.be-len.ensures (sym (ap (found head_of) (head_long _ _ (omega arith) (omega arith) (omega arith) (omega arith))))
