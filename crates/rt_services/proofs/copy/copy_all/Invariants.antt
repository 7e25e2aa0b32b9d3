-- copy_all: the first i elements are there.
use Rattle.std.specs.Prelude.{◌≡◌, length, take}
use Rattle.definition.specs.Answers.{over}
use Rattle.rt_services.proofs.copy.copy_all.Given as goal

abbrev pub invariant-loop-i : goal.invariant-loop-i
invariant-loop-i g l = (length l.to ≡ length l.initial.to) × (l.to ≡ over l.initial.to 0 (take l.i l.from))
