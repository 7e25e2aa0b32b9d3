-- `values_agreement::read_then_write_values` meets its contract: `read_values_written` and `read_then_write_values`, of what was read.
use Rattle.std.specs.Prelude.{Ok, Err}
use Rattle.definition.proofs.Sound.{octets_known}
use Rattle.record_agreement.specs.Calls.{ReadsOrdinarily}
use Rattle.values_agreement.specs.Calls.{Scales, EncodesValues}
use Rattle.values_agreement.specs.Read.{as_strict}
use Rattle.values_agreement.specs.Records.{read_values_written, read_then_write_values}
use Rattle.values_agreement.proofs.read_then_write_values.Goals as goal

pub returns-in_err-read-clause-strict : goal.returns-in_err-read-clause-strict
returns-in_err-read-clause-strict c = λ f e.
    let a = c.args in
    let r = c.read_frame in
    let o : ReadsOrdinarily a.config.channels a.s.now a.counts.now r.new.counts a.qualities.now r.new.qualities (Err c.in_err-read.field-0.0) = record { meets = c.in_err-read.ensures } in
    let (_, accepted) = as_strict a.fixed f o e in
    cc accepted

pub returns-clause-write : goal.returns-clause-write
returns-clause-write c = λ long within.
    let a = c.args in
    let r = c.read_frame in
    let x = c.in_ok-read.read in
    let v = c.values_of-valued in
    let w = c.encode_values-written in
    let o : ReadsOrdinarily a.config.channels a.s.now a.counts.now r.new.counts a.qualities.now r.new.qualities (Ok x) = record { meets = c.in_ok-read.ensures } in
    let y : Scales a.config x.pdu.no_asdu r.new.counts a.values.now v.new.values v.result = record { meets = v.ensures } in
    let e : EncodesValues a.fixed a.config x.header x.pdu v.new.values r.new.qualities a.frame.now w.new.frame w.result = record { meets = w.ensures } in
    read_values_written (octets_known a.s.now (λ i. (c.type_inv.s i).fits)) o within long y e

pub returns-clause-strict : goal.returns-clause-strict
returns-clause-strict c = λ f g long within room.
    let a = c.args in
    let r = c.read_frame in
    let x = c.in_ok-read.read in
    let v = c.values_of-valued in
    let w = c.encode_values-written in
    let o : ReadsOrdinarily a.config.channels a.s.now a.counts.now r.new.counts a.qualities.now r.new.qualities (Ok x) = record { meets = c.in_ok-read.ensures } in
    let y : Scales a.config x.pdu.no_asdu r.new.counts a.values.now v.new.values v.result = record { meets = v.ensures } in
    let e : EncodesValues a.fixed a.config x.header x.pdu v.new.values r.new.qualities a.frame.now w.new.frame w.result = record { meets = w.ensures } in
    let (strict, _) = as_strict a.fixed f o g in
    read_then_write_values (octets_known a.s.now (λ i. (c.type_inv.s i).fits)) strict within long y room e
