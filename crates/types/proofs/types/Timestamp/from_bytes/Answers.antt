-- `Timestamp::from_bytes` meets its contract: the library's big-endian numbers are the definition's.
use native.Mathlib.Omega.{arith}
use Rattle.std.specs.Prelude.{◌≡◌}
use Rattle.types.specs.Time.{timestamp_of}
use Rattle.definition.specs.Read.{be_at}
use Rattle.types.proofs.types.Timestamp.from_bytes.Goals as goal

pub returns : goal.returns
unfolding timestamp_of be_at
returns c = let s = c.args.bytes in
    let a : c.from_be_bytes.result ≡ be_at s 0 4 = omega (arith, c.from_be_bytes.ensures) in
    let b : c.from_be_bytes-2.result ≡ be_at s 4 3 = omega (arith, c.from_be_bytes-2.ensures) in
    rw (a, b, c.from_byte.ensures)
