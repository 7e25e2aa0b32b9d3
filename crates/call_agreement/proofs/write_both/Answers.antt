-- `call_agreement::write_both` meets its contract: `write_same`, of arrays whose elements keep to their types.
use Rattle.definition.specs.Frame.{Word}
use Rattle.definition.proofs.Sound.{all_known, octets_known}
use Rattle.flat_agreement.specs.Lent.{Lent}
use Rattle.flat_agreement.specs.Calls.{WriteCall}
use Rattle.flat_agreement.proofs.Theorems.{write_same}
use Rattle.call_agreement.proofs.write_both.Goals as goal

pub returns-clause-same : goal.returns-clause-same
returns-clause-same c = λ zero zero' same.
    let a = c.args in
    let w = c.hopsickle_write-number in
    let o = c.hopsickle_write-number-2 in
    let call : WriteCall a.fixed a.channels a.numbers.now a.octets.now a.counts.now a.qualities.now a.frame.now w.new.frame 0 w.new.size = record { meets = rw zero at w.ensures } in
    let other_call : WriteCall a.other_fixed a.channels a.other_numbers.now a.other_octets.now a.other_counts.now a.other_qualities.now a.other_frame.now o.new.frame 0 o.new.size = record { meets = rw zero' at o.ensures } in
    let lent : Lent a.numbers.now a.octets.now a.counts.now a.qualities.now = record {
      numbers = all_known Word 0 a.numbers.now (λ i. (c.type_inv.numbers i).fits);
      octets = octets_known a.octets.now (λ i. (c.type_inv.octets i).fits);
      counts = c.counts.ensures;
      qualities = all_known Word 0 a.qualities.now (λ i. (c.type_inv.qualities i).fits);
    } in
    let other_lent : Lent a.other_numbers.now a.other_octets.now a.other_counts.now a.other_qualities.now = record {
      numbers = all_known Word 0 a.other_numbers.now (λ i. (c.type_inv.other_numbers i).fits);
      octets = octets_known a.other_octets.now (λ i. (c.type_inv.other_octets i).fits);
      counts = c.counts-2.ensures;
      qualities = all_known Word 0 a.other_qualities.now (λ i. (c.type_inv.other_qualities i).fits);
    } in
    write_same lent call other_lent other_call same
