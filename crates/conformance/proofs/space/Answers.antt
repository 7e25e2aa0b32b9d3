-- A repeated octet, as often as is said.
use Rattle.std.proofs.Common.{ℕ}
use Rattle.std.proofs.lemmas.List.{length-replicate}
use Rattle.conformance.proofs.space.Goals as goal

pub returns : goal.returns
returns c = length-replicate {A = ℕ} 1048576 0
