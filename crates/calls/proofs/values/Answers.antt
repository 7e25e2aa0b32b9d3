-- `calls::values` meets its contract: 8, then the answer of `values_of` of their data set. Assumes nothing.
use Rattle.std.proofs.Common.{length}
use Rattle.std.proofs.lemmas.Result.{err_from_is_err_and}
use Rattle.rt_services.specs.DataSet.{data_set_of}
use Rattle.calls.proofs.Scales.{many, set_of, values_many, values_are}
use Rattle.calls.proofs.values.Goals as goal

pub returns-in_err-config : goal.returns-in_err-config
returns-in_err-config c =
    let a = c.args in
    let p = err_from_is_err_and c.from_residual.result c.from_residual.ensures.1 in
    let m = many (length a.scales.now) (data_set_of a.scales.now) c.in_err-config.ensures in
    let many_said = values_many a.scales.now a.no_asdu (length a.counts.now) (length a.values.now) m.0 in
    record { written = rw (p.1, p.2, m.1, m.2, many_said); elements = rw many_said }

pub returns : goal.returns
unfolding data_set_of
returns c =
    let a = c.args in
    let e = set_of (length a.scales.now) (data_set_of a.scales.now) c.in_ok-config.ensures in
    let w = c.values_of.ensures in
    record { written = rw e at w.written; elements = rw (values_are a.scales.now a.counts.now a.no_asdu c.in_ok-config.config e, e) at w.elements }
