-- simulation: past the end the mark is off.
use Rattle.std.proofs.Common.{sym, ◌∙◌, arith}
use borrow.Author.Tests.{le-ltb}
use Rattle.ethernet_header.specs.Header.{mark_none, mark_there}
use Rattle.ethernet_header.proofs.simulation.Goals as goal

pub returns-then-at-s : goal.returns-then-at-s
returns-then-at-s c = sym (mark_there _ _ c.type_place-place.ensures)

pub returns-else-at-s : goal.returns-else-at-s
returns-else-at-s c = le-ltb _ _ (omega arith) ∙ sym (mark_none _ _ c.type_place-place.ensures (omega arith))
