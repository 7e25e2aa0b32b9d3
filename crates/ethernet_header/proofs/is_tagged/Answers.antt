-- is_tagged: two octets are 81 00 where their number is.
use Rattle.std.proofs.Common.{◌∙◌}
use Rattle.ethernet_header.specs.Header.{tagged_is}
use Rattle.ethernet_header.proofs.is_tagged.Goals as goal

pub returns : goal.returns
returns c = c.pair_at.ensures ∙ tagged_is _ (λ k. (c.type_inv.s k).fits)
