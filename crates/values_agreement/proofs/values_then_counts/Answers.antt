-- `values_agreement::values_then_counts` meets its contract: `values_then_counts`, of the two calls.
use Rattle.std.specs.Prelude.{refl, Ok, Some}
use Rattle.std.proofs.Common.{◌∙◌, sym, ap}
use Rattle.std.proofs.Math.Seq.{length-take-le}
use Rattle.scaling.specs.Numbers.{counts_of_first}
use Rattle.values_agreement.specs.Calls.{Scales}
use Rattle.values_agreement.specs.Records.{values_many, counts_asked, values_then_counts}
use Rattle.values_agreement.proofs.values_then_counts.Goals as goal

pub slice_bounds-counts_of-end : goal.slice_bounds-counts_of-end
slice_bounds-counts_of-end c = let a = c.args in
    let v = c.in_ok-valued in
    let x : Scales a.config a.no_asdu a.counts.now a.values.now c.values_of.new.values (Ok v.valued) = record { meets = v.ensures } in
    (counts_asked x refl).1.1

pub slice_bounds-counts_of-end-2 : goal.slice_bounds-counts_of-end-2
slice_bounds-counts_of-end-2 c = let a = c.args in
    let v = c.in_ok-valued in
    let x : Scales a.config a.no_asdu a.counts.now a.values.now c.values_of.new.values (Ok v.valued) = record { meets = v.ensures } in
    sym (length-take-le v.valued c.values_of.new.values (counts_asked x refl).1.1)

pub counts_of-requires-clause-channels_fit : goal.counts_of-requires-clause-channels_fit
counts_of-requires-clause-channels_fit c = let a = c.args in
    let v = c.in_ok-valued in
    let x : Scales a.config a.no_asdu a.counts.now a.values.now c.values_of.new.values (Ok v.valued) = record { meets = v.ensures } in
    (counts_asked x refl).0

pub counts_of-requires-clause-no_channel : goal.counts_of-requires-clause-no_channel
counts_of-requires-clause-no_channel c = let a = c.args in
    let v = c.in_ok-valued in
    let x : Scales a.config a.no_asdu a.counts.now a.values.now c.values_of.new.values (Ok v.valued) = record { meets = v.ensures } in
    λ z. length-take-le v.valued c.values_of.new.values (counts_asked x refl).1.1 ∙ (counts_asked x refl).1.0 z

pub returns-clause-back : goal.returns-clause-back
returns-clause-back c = λ few within.
    let a = c.args in
    let v = c.in_ok-valued in
    let x : Scales a.config a.no_asdu a.counts.now a.values.now c.values_of.new.values (Ok v.valued) = record { meets = v.ensures } in
    let e = counts_of_first a.config.channels a.config.scale_factor c.values_of.new.values v.valued (counts_asked x refl).1.1 in
    ap Some (values_then_counts within x refl (rw (e, values_many x refl) at c.counts_of.ensures))
