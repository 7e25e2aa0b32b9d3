-- `ber_encode::put_bytes` meets its contract: the octets stand in the place of as many from `at` on. Assumes nothing.
use Rattle.std.proofs.Common.{◌+◌, ◌-◌, length, arith}
use Rattle.ber_encode.specs.Put.{mid_wrote}
use Rattle.ber_encode.proofs.put_bytes.Goals as goal

pub returns : goal.returns
returns c = mid_wrote c.args.buffer.now c.args.at (c.args.at + length c.args.src.now - c.args.at) c.copy_all.ensures.after (omega arith) (omega arith)
