-- `hopsickle::hopsickle_values` meets its contract: the answer, as two numbers. Assumes nothing.
use Rattle.calls.proofs.Crosses.{writes}
use Rattle.hopsickle.proofs.hopsickle_values.Goals as goal

pub returns : goal.returns
returns c = writes c.values.ensures.written c.values.ensures.elements c.answer.ensures
