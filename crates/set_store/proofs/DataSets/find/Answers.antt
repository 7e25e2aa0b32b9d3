-- find: the position of the set, then the set there.
use Rattle.std.proofs.Common.{◌∙◌, sym, arith}
use Rattle.set_store.specs.Held.{found_at, not_found, position_held}
use Rattle.set_store.proofs.DataSets.find.Goals as goal

pub returns-in_err-i : goal.returns-in_err-i
returns-in_err-i c = c.from_residual.ensures ∙ sym (not_found _ _ _ c.in_err-i.ensures)

pub set_at-requires : goal.set_at-requires
set_at-requires c = omega (arith, position_held _ _ c.in_ok-i.ensures)

pub returns : goal.returns
returns c = rw c.set_at.ensures (sym (found_at _ _ _ c.in_ok-i.ensures))
