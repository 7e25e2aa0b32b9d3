-- `hopsickle::hopsickle_read_checked` meets its contract: the answer of the reader, as two numbers. Assumes nothing.
use Rattle.calls.proofs.Crosses.{reads}
use Rattle.hopsickle.proofs.hopsickle_read_checked.Goals as goal

pub returns : goal.returns
returns c = reads c.read_checked-read.ensures c.and.ensures c.answer.ensures
