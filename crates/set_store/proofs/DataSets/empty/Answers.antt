-- The record of zeros, element by element.
use mathlib.Core.Path.{refl}
use lib.Ieee.{of_bits}
use Rattle.set_store.specs.Told.{empty_store}
use Rattle.set_store.proofs.DataSets.empty.Goals as goal

pub returns : goal.returns
unfolding empty_store of_bits
returns c = refl
