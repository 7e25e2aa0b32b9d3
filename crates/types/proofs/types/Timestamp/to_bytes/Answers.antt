-- `Timestamp::to_bytes` meets its contract: the library's big-endian octets are the definition's.
use native.Mathlib.Nat.{div-div-eq-div-mul}
use Rattle.types.specs.Time.{timestamp_octets}
use Rattle.definition.specs.Octets.{octets}
use Rattle.types.proofs.types.Timestamp.to_bytes.Goals as goal

pub returns : goal.returns
unfolding timestamp_octets octets
returns c = rw (c.to_be_bytes-s.ensures, c.to_be_bytes-f.ensures, c.to_byte-last.ensures) (simp div-div-eq-div-mul)
