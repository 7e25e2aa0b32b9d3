-- `hopsickle::hopsickle_read_granted` meets its contract: the answer of the reader, as two numbers. Assumes nothing.
use Rattle.calls.proofs.Crosses.{reads}
use Rattle.hopsickle.proofs.hopsickle_read_granted.Goals as goal

pub returns : goal.returns
returns c = reads c.read_granted-read.ensures c.and.ensures c.answer.ensures
