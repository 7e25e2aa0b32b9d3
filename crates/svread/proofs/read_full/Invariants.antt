-- The loop of read_full: what is read stays within the buffer.
use Rattle.std.proofs.Common.{length, ◌≤◌}
use Rattle.svread.proofs.read_full.Given as goal

abbrev pub invariant-loop : goal.invariant-loop
invariant-loop g l = l.done ≤ length l.buf
