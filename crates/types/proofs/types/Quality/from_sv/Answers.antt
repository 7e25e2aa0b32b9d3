-- `Quality::from_sv` meets its contract: the flags compute, and the validity is what `Validity::from_sv` ensures.
-- Assumes nothing.
use Rattle.types.specs.Quality.{quality_of}
use Rattle.types.proofs.types.Quality.from_sv.Goals as goal

pub returns : goal.returns
unfolding quality_of
returns c = rw c.from_sv.ensures
