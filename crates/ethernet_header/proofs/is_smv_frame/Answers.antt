-- is_smv_frame: two octets are 88 BA where their number is.
use Rattle.std.proofs.Common.{◌∙◌}
use Rattle.ethernet_header.specs.Header.{smv_at}
use Rattle.ethernet_header.proofs.is_smv_frame.Goals as goal

pub returns : goal.returns
returns c = c.pair_at.ensures ∙ smv_at _ (λ k. (c.type_inv.s k).fits) _ c.type_place.ensures
