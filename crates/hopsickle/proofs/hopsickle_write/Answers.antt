-- `hopsickle::hopsickle_write` meets its contract: the answer of the writer, as two numbers. Assumes nothing.
use Rattle.calls.proofs.Crosses.{writes}
use Rattle.hopsickle.proofs.hopsickle_write.Goals as goal

pub returns : goal.returns
returns c = writes c.encode_smv-written.ensures.written c.encode_smv-written.ensures.elements c.answer.ensures
