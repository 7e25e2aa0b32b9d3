-- `hopsickle::hopsickle_read_by_sets` meets its contract: the answer of the reader, as two numbers. Assumes nothing.
use Rattle.calls.proofs.Crosses.{reads}
use Rattle.hopsickle.proofs.hopsickle_read_by_sets.Goals as goal

pub returns : goal.returns
returns c = let by = c.read_by_sets-read.ensures in record { read = reads by.read c.and.ensures c.answer.ensures; channels = by.channels; scales = by.scales }
