-- `call_agreement::size_then_write` meets its contract: `write_sized` and `size_enough`.
use Rattle.flat_agreement.specs.Calls.{WriteCall, SizeCall}
use Rattle.flat_agreement.proofs.Theorems.{write_sized, size_enough}
use Rattle.call_agreement.proofs.size_then_write.Goals as goal

pub returns-clause-written : goal.returns-clause-written
returns-clause-written c = λ zero.
    let a = c.args in
    let z = c.hopsickle_size-number in
    let w = c.hopsickle_write-number in
    let size : SizeCall a.fixed a.channels a.numbers.now a.octets.now z.result z.new.size = record { meets = z.ensures } in
    let write : WriteCall a.fixed a.channels a.numbers.now a.octets.now a.counts.now a.qualities.now a.frame.now w.new.frame 0 w.new.size = record { meets = rw zero at w.ensures } in
    write_sized write size

pub returns-clause-enough : goal.returns-clause-enough
returns-clause-enough c = λ zero counts qualities room.
    let a = c.args in
    let z = c.hopsickle_size-number in
    let w = c.hopsickle_write-number in
    let size : SizeCall a.fixed a.channels a.numbers.now a.octets.now 0 z.new.size = record { meets = rw zero at z.ensures } in
    let write : WriteCall a.fixed a.channels a.numbers.now a.octets.now a.counts.now a.qualities.now a.frame.now w.new.frame w.result w.new.size = record { meets = w.ensures } in
    size_enough size counts qualities room write
