-- `call_agreement::read_both` meets its contract: `ordinary_same`, of arrays that held the same.
use Rattle.flat_agreement.specs.Calls.{StrictCall, ReadCall}
use Rattle.flat_agreement.proofs.Theorems.{ordinary_same}
use Rattle.call_agreement.proofs.read_both.Goals as goal

pub returns-clause-same : goal.returns-clause-same
returns-clause-same c = λ zero ek eo ec eq.
    let a = c.args in
    let r = c.hopsickle_read_strict-number in
    let o = c.hopsickle_read-number in
    let strict : StrictCall a.fixed a.channels a.s.now a.other_numbers.now r.new.numbers a.other_octets.now r.new.octets a.other_counts.now r.new.counts a.other_qualities.now r.new.qualities 0 r.new.place = record { meets = rw (zero, ek, eo, ec, eq) at r.ensures } in
    let ordinary : ReadCall a.channels a.s.now a.other_numbers.now o.new.numbers a.other_octets.now o.new.octets a.other_counts.now o.new.counts a.other_qualities.now o.new.qualities o.result o.new.place = record { meets = o.ensures } in
    ordinary_same strict ordinary
