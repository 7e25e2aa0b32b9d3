-- `hopsickle::hopsickle_read` meets its contract: the answer of the reader, as two numbers. Assumes nothing.
use Rattle.calls.proofs.Crosses.{reads}
use Rattle.hopsickle.proofs.hopsickle_read.Goals as goal

pub returns : goal.returns
returns c = reads c.read_frame-read.ensures c.and.ensures c.answer.ensures
