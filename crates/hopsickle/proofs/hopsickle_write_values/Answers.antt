-- `hopsickle::hopsickle_write_values` meets its contract: the answer of the writer, as two numbers. Assumes nothing.
use Rattle.calls.proofs.Crosses.{writes}
use Rattle.hopsickle.proofs.hopsickle_write_values.Goals as goal

pub returns : goal.returns
returns c = writes c.encode_values-written.ensures.written c.encode_values-written.ensures.elements c.answer.ensures
