-- `hopsickle::hopsickle_read_strict` meets its contract: the answer of the reader, as two numbers. Assumes nothing.
use Rattle.calls.proofs.Crosses.{reads}
use Rattle.hopsickle.proofs.hopsickle_read_strict.Goals as goal

pub returns : goal.returns
returns c = reads c.read_strict-read.ensures c.and.ensures c.answer.ensures
