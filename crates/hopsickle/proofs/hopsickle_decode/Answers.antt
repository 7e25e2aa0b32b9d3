-- `hopsickle::hopsickle_decode` meets its contract: the answer of the reader, as two numbers. Assumes nothing.
use Rattle.calls.proofs.Crosses.{reads}
use Rattle.hopsickle.proofs.hopsickle_decode.Goals as goal

pub returns : goal.returns
returns c = reads c.decode_smv-read.ensures c.and.ensures c.answer.ensures
