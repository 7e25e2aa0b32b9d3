-- `hopsickle::hopsickle_sets_add` meets its contract: the answer of the store, as two numbers. Assumes nothing.
use Rattle.calls.proofs.Crosses.{adds}
use Rattle.hopsickle.proofs.hopsickle_sets_add.Goals as goal

pub returns : goal.returns
returns c = adds c.sets_add.ensures c.answer.ensures
