-- `values_agreement::flat::read_then_write_values` meets its contract: `read_values_written` and `read_then_write_values`, of what was read.
use Rattle.std.specs.Prelude.{◌≡◌, length}
use Rattle.std.proofs.Common.{arith}
use Rattle.definition.proofs.Sound.{octets_known}
use Rattle.definition.specs.Flat.{nth}
use Rattle.flat_agreement.specs.Calls.{ReadCall}
use Rattle.values_agreement.specs.Calls.{ValuesCall, WriteValuesCall}
use Rattle.values_agreement.specs.Read.{accepted_call, call_as_strict}
use Rattle.values_agreement.specs.Flat.{read_values_written, read_then_write_values}
use Rattle.values_agreement.proofs.flat.read_then_write_values.Goals as goal

pub returns-then-number-gt0-clause-strict : goal.returns-then-number-gt0-clause-strict
returns-then-number-gt0-clause-strict c = λ f e long within room.
    let a = c.args in
    let r = c.hopsickle_read-number in
    let o : ReadCall (length a.scales.now) a.s.now a.numbers.now r.new.numbers a.octets.now r.new.octets a.counts.now r.new.counts a.qualities.now r.new.qualities r.result r.new.place = record { meets = r.ensures } in
    let (_, zero) = call_as_strict a.fixed f o e in
    absurd (omega (arith, c.if-number-gt0.true, zero))

pub bounds-numbers-9 : goal.bounds-numbers-9
bounds-numbers-9 c = let a = c.args in
    let r = c.hopsickle_read-number in
    let zero : r.result ≡ 0 = omega (arith, c.if-number-gt0.false) in
    let o : ReadCall (length a.scales.now) a.s.now a.numbers.now r.new.numbers a.octets.now r.new.octets a.counts.now r.new.counts a.qualities.now r.new.qualities 0 r.new.place = record { meets = rw zero at r.ensures } in
    (accepted_call (octets_known a.s.now (λ i. (c.type_inv.s i).fits)) o).number

pub overflow_cast-no_asdu : goal.overflow_cast-no_asdu
overflow_cast-no_asdu c = let a = c.args in
    let r = c.hopsickle_read-number in
    let zero : r.result ≡ 0 = omega (arith, c.if-number-gt0.false) in
    let o : ReadCall (length a.scales.now) a.s.now a.numbers.now r.new.numbers a.octets.now r.new.octets a.counts.now r.new.counts a.qualities.now r.new.qualities 0 r.new.place = record { meets = rw zero at r.ensures } in
    record { fits = omega (arith, (accepted_call (octets_known a.s.now (λ i. (c.type_inv.s i).fits)) o).reading.asdus) }

pub returns-clause-write : goal.returns-clause-write
returns-clause-write c = λ zero long within.
    let a = c.args in
    let r = c.hopsickle_read-number in
    let v = c.hopsickle_values-number in
    let w = c.hopsickle_write_values-number in
    let o : ReadCall (length a.scales.now) a.s.now a.numbers.now r.new.numbers a.octets.now r.new.octets a.counts.now r.new.counts a.qualities.now r.new.qualities 0 r.new.place = record { meets = rw zero at r.ensures } in
    let x : ValuesCall a.scales.now (nth r.new.numbers 9) r.new.counts a.values.now v.new.values v.result v.new.size = record { meets = v.ensures } in
    let e : WriteValuesCall a.fixed a.scales.now r.new.numbers r.new.octets v.new.values r.new.qualities a.frame.now w.new.frame w.result w.new.size = record { meets = w.ensures } in
    read_values_written (octets_known a.s.now (λ i. (c.type_inv.s i).fits)) o within long x e

pub returns-clause-strict : goal.returns-clause-strict
returns-clause-strict c = λ f g long within room.
    let a = c.args in
    let r = c.hopsickle_read-number in
    let v = c.hopsickle_values-number in
    let w = c.hopsickle_write_values-number in
    let o : ReadCall (length a.scales.now) a.s.now a.numbers.now r.new.numbers a.octets.now r.new.octets a.counts.now r.new.counts a.qualities.now r.new.qualities r.result r.new.place = record { meets = r.ensures } in
    let x : ValuesCall a.scales.now (nth r.new.numbers 9) r.new.counts a.values.now v.new.values v.result v.new.size = record { meets = v.ensures } in
    let e : WriteValuesCall a.fixed a.scales.now r.new.numbers r.new.octets v.new.values r.new.qualities a.frame.now w.new.frame w.result w.new.size = record { meets = w.ensures } in
    let (strict, _) = call_as_strict a.fixed f o g in
    let (number, size, left) = read_then_write_values (octets_known a.s.now (λ i. (c.type_inv.s i).fits)) strict within long x room e in
    (rw (number, size), left)
