-- `hopsickle::hopsickle_header` meets its contract: the answer of the reader, as two numbers. Assumes nothing.
use Rattle.calls.proofs.Crosses.{reads_header}
use Rattle.hopsickle.proofs.hopsickle_header.Goals as goal

pub returns : goal.returns
returns c = reads_header c.header.ensures.answer c.header.ensures.numbers c.header.ensures.octets c.answer.ensures
