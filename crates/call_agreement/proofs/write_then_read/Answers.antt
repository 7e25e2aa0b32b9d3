-- `call_agreement::write_then_read` meets its contract: `write_then_read`, of arrays whose elements keep to their types.
use Rattle.std.specs.Prelude.{◌≡◌, take}
use Rattle.std.proofs.Common.{sym, length-take-le, arith}
use Rattle.definition.specs.Frame.{Word}
use Rattle.definition.proofs.Sound.{all_known, octets_known}
use Rattle.flat_agreement.specs.Lent.{Lent}
use Rattle.flat_agreement.specs.Calls.{WriteCall, StrictCall}
use Rattle.flat_agreement.proofs.Results.{wrote}
use Rattle.flat_agreement.proofs.Theorems.{write_then_read}
use Rattle.call_agreement.proofs.write_then_read.Goals as goal

pub slice_bounds-hopsickle_read_strict-end : goal.slice_bounds-hopsickle_read_strict-end
slice_bounds-hopsickle_read_strict-end c = let a = c.args in
    let w = c.hopsickle_write-number in
    let zero : w.result ≡ 0 = omega (arith, c.if-number-gt0.false) in
    let call : WriteCall a.fixed a.channels a.numbers.now a.octets.now a.counts.now a.qualities.now a.frame.now w.new.frame 0 w.new.size = record { meets = rw zero at w.ensures } in
    (wrote call).within

pub slice_bounds-hopsickle_read_strict-end-2 : goal.slice_bounds-hopsickle_read_strict-end-2
slice_bounds-hopsickle_read_strict-end-2 c = let a = c.args in
    let w = c.hopsickle_write-number in
    let zero : w.result ≡ 0 = omega (arith, c.if-number-gt0.false) in
    let call : WriteCall a.fixed a.channels a.numbers.now a.octets.now a.counts.now a.qualities.now a.frame.now w.new.frame 0 w.new.size = record { meets = rw zero at w.ensures } in
    sym (length-take-le _ _ (wrote call).within)

pub returns-clause-read : goal.returns-clause-read
returns-clause-read c = λ zero room.
    let a = c.args in
    let w = c.hopsickle_write-number in
    let r = c.hopsickle_read_strict-number in
    let call : WriteCall a.fixed a.channels a.numbers.now a.octets.now a.counts.now a.qualities.now a.frame.now w.new.frame 0 w.new.size = record { meets = rw zero at w.ensures } in
    let lent : Lent a.numbers.now a.octets.now a.counts.now a.qualities.now = record {
      numbers = all_known Word 0 a.numbers.now (λ i. (c.type_inv.numbers i).fits);
      octets = octets_known a.octets.now (λ i. (c.type_inv.octets i).fits);
      counts = c.counts.ensures;
      qualities = all_known Word 0 a.qualities.now (λ i. (c.type_inv.qualities i).fits);
    } in
    let strict : StrictCall a.fixed a.channels (take w.new.size w.new.frame) a.numbers_back.now r.new.numbers a.octets_back.now r.new.octets a.counts_back.now r.new.counts a.qualities_back.now r.new.qualities r.result r.new.place = record { meets = r.ensures } in
    write_then_read lent call room strict
