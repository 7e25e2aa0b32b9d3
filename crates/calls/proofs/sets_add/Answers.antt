-- `calls::sets_add` meets its contract: 8, then the answer of the store. Assumes nothing.
use Rattle.std.proofs.Common.{length}
use Rattle.std.proofs.lemmas.Result.{err_from_is_err_and}
use Rattle.rt_services.specs.DataSet.{data_set_of}
use Rattle.calls.proofs.Scales.{many, added_not}
use Rattle.calls.proofs.sets_add.Goals as goal

pub returns-in_err-set : goal.returns-in_err-set
returns-in_err-set c =
    let a = c.args in
    let p = err_from_is_err_and c.from_residual.result c.from_residual.ensures.1 in
    let m = many (length a.scales.now) (data_set_of a.scales.now) c.in_err-set.ensures in
    added_not a.conf_rev a.scales.now a.sets.now a.set_scales.now m.0 (rw (p.1, p.2, m.1, m.2))
