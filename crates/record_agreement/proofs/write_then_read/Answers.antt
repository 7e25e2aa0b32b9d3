-- `record_agreement::write_then_read` meets its contract: `write_then_read`, with the widths that the types of its parameters tell.
use Rattle.std.specs.Prelude.{Ok}
use Rattle.std.proofs.Common.{sym, length-take-le}
use Rattle.definition.specs.Frame.{Word}
use Rattle.definition.proofs.Sound.{all_known}
use Rattle.record_agreement.specs.Calls.{Encodes}
use Rattle.record_agreement.specs.Results.{encoded}
use Rattle.record_agreement.specs.Theorems.{write_then_read}
use Rattle.record_agreement.proofs.Known.{known}
use Rattle.record_agreement.proofs.write_then_read.Goals as goal

pub slice_bounds-read_strict-end : goal.slice_bounds-read_strict-end
slice_bounds-read_strict-end c = let a = c.args in
    let w = c.in_ok-size in
    let call : Encodes a.fixed a.channels a.header a.pdu a.counts.now a.qualities.now a.frame.now c.encode_smv.new.frame (Ok w.size) = record { said = w.ensures.written; left = w.ensures.elements } in
    (encoded call).within

pub slice_bounds-read_strict-end-2 : goal.slice_bounds-read_strict-end-2
slice_bounds-read_strict-end-2 c = let a = c.args in
    let w = c.in_ok-size in
    let call : Encodes a.fixed a.channels a.header a.pdu a.counts.now a.qualities.now a.frame.now c.encode_smv.new.frame (Ok w.size) = record { said = w.ensures.written; left = w.ensures.elements } in
    sym (length-take-le _ _ (encoded call).within)

pub returns-clause-read : goal.returns-clause-read
returns-clause-read c = λ counts_long qualities_long.
    let a = c.args in
    let w = c.in_ok-size in
    let call : Encodes a.fixed a.channels a.header a.pdu a.counts.now a.qualities.now a.frame.now c.encode_smv.new.frame (Ok w.size) = record { said = w.ensures.written; left = w.ensures.elements } in
    let qualities = all_known Word 0 a.qualities.now (λ i. (c.type_inv.qualities i).fits) in
    let widths = known a.header a.pdu a.counts.now a.qualities.now _ _ c.well_formed.0 c.well_formed.1.0 c.counts.ensures qualities in
    write_then_read widths call counts_long qualities_long (record { meets = c.read_strict-read.ensures })
