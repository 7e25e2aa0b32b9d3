-- `calls::header` meets its contract: each way out is one of the laws of `proofs/FlatHeader.antt`. Assumes nothing.
use Rattle.std.proofs.Common.{length, ◌∙◌, inl, inr}
use Rattle.std.proofs.lemmas.Result.{err_from_is_err_and}
use Rattle.calls.proofs.FlatHeader.{header_refused, header_lacks, header_read}
use Rattle.calls.proofs.header.Goals.{then-numbers-lt-HEADER_NUMBERS-via-then-numbers-lt-HEADER_NUMBERS, then-numbers-lt-HEADER_NUMBERS-via-else-numbers-lt-HEADER_NUMBERS+then-octets-lt-HEADER_OCTETS}
use Rattle.calls.proofs.header.Goals as goal

pub returns-in_err-header : goal.returns-in_err-header
returns-in_err-header c =
    let a = c.args in
    let p = err_from_is_err_and c.from_residual.result c.from_residual.ensures.1 in
    let e = header_refused (length a.numbers.now) (length a.octets.now) a.frame.now c.in_err-header.ensures in
    record { answer = rw (p.1, p.2, e); numbers = rw e; octets = rw e }

pub returns-then-numbers-lt-HEADER_NUMBERS : goal.returns-then-numbers-lt-HEADER_NUMBERS
returns-then-numbers-lt-HEADER_NUMBERS c =
    let a = c.args in
    let e = header_lacks (length a.numbers.now) (length a.octets.now) a.frame.now c.in_ok-header.ensures (elim c.then-numbers-lt-HEADER_NUMBERS.branch [
      | then-numbers-lt-HEADER_NUMBERS-via-then-numbers-lt-HEADER_NUMBERS w ↦ inl w.if-numbers-lt-HEADER_NUMBERS.true
      | then-numbers-lt-HEADER_NUMBERS-via-else-numbers-lt-HEADER_NUMBERS+then-octets-lt-HEADER_OCTETS w ↦ inr w.if-octets-lt-HEADER_OCTETS.true
    ]) in
    record { answer = rw (c.at.ensures, e); numbers = rw e; octets = rw e }

pub returns : goal.returns
returns c =
    let a = c.args in
    let e = header_read (length a.numbers.now) (length a.octets.now) a.frame.now c.in_ok-header.ensures c.if-numbers-lt-HEADER_NUMBERS.false c.if-octets-lt-HEADER_OCTETS.false in
    record { answer = rw e; numbers = c.put_header.ensures ∙ rw e; octets = c.put_header-2.ensures ∙ rw e }
