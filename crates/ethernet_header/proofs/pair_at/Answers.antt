-- pair_at: the three tests in turn.
use Rattle.std.proofs.Common.{arith}
use Rattle.std.proofs.lemmas.Bool.Decides.{nat_tests}
use Rattle.definition.specs.Frame.{and}
use Rattle.ethernet_header.specs.Header.{pair_at}
use Rattle.ethernet_header.proofs.pair_at.Goals as goal

pub returns-then-s-at : goal.returns-then-s-at
unfolding pair_at and
returns-then-s-at c = grind (arith, nat_tests)

pub returns-else-s-at : goal.returns-else-s-at
unfolding pair_at and
returns-else-s-at c = grind (arith, nat_tests)
