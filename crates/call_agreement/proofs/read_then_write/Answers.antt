-- `call_agreement::read_then_write` meets its contract: `read_then_write`, of the arrays that were handed back.
use Rattle.definition.proofs.Sound.{octets_known}
use Rattle.flat_agreement.specs.Calls.{WriteCall, StrictCall}
use Rattle.flat_agreement.proofs.Theorems.{read_then_write}
use Rattle.call_agreement.proofs.read_then_write.Goals as goal

pub returns-clause-write : goal.returns-clause-write
returns-clause-write c = λ zero room.
    let a = c.args in
    let r = c.hopsickle_read_strict-number in
    let w = c.hopsickle_write-number in
    let strict : StrictCall a.fixed a.channels a.s.now a.numbers.now r.new.numbers a.octets.now r.new.octets a.counts.now r.new.counts a.qualities.now r.new.qualities 0 r.new.place = record { meets = rw zero at r.ensures } in
    let call : WriteCall a.fixed a.channels r.new.numbers r.new.octets r.new.counts r.new.qualities a.frame.now w.new.frame w.result w.new.size = record { meets = w.ensures } in
    let (number, size, left) = read_then_write (octets_known a.s.now (λ i. (c.type_inv.s i).fits)) strict room call in
    (rw (number, size), left)
