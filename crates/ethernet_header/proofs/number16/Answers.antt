-- number16: the number of two octets.
use Rattle.std.proofs.Common.{◌∙◌, sym}
use Rattle.ethernet_header.specs.Header.{two}
use Rattle.ethernet_header.proofs.number16.Goals as goal

pub returns : goal.returns
returns c = c.from_be_bytes.ensures ∙ sym (two _ _)
