-- be: the loop keeps that value is the number of the first i octets, below 256 ^ i, so that no product overflows.
use Rattle.std.proofs.Common.{◌≡◌, ◌<◌, ◌^◌}
use Rattle.definition.specs.Read.{be_at}
use Rattle.ber_decode.proofs.be.Given as goal

abbrev pub invariant-loop-i : goal.invariant-loop-i
invariant-loop-i l = (l.value ≡ be_at l.s l.at l.i) × (l.value < 256 ^ l.i)
