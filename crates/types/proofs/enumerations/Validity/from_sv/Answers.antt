-- `Validity::from_sv` meets its contract: each arm knows the number, and of the last arm it is 3.
-- Assumes nothing.
use Prim.Native.Nat.{◌%◌}
use mathlib.Core.Path.{◌≡◌}
use native.Mathlib.Omega.{arith}
use Rattle.types.specs.Quality.{validity_of}
use Rattle.types.proofs.enumerations.Validity.from_sv.Goals as goal

pub returns-in-0 : goal.returns-in-0
unfolding validity_of
returns-in-0 c = rw c.in-0.is

pub returns-in-1 : goal.returns-in-1
unfolding validity_of
returns-in-1 c = rw c.in-1.is

pub returns-in-2 : goal.returns-in-2
unfolding validity_of
returns-in-2 c = rw c.in-2.is

pub returns-in_default : goal.returns-in_default
unfolding validity_of
returns-in_default c = let e : c.args.word % 4 ≡ 3 = omega arith in rw e
