-- The loop's invariant: the elements passed are numbers of 32 bits.
use Rattle.std.proofs.Common.{take}
use Rattle.definition.specs.Frame.{Count, All}
use Rattle.record_agreement.proofs.widths.counts.Given as goal

abbrev pub invariant-loop-z : goal.invariant-loop-z
invariant-loop-z l = All Count (take l.z-index l.l)
