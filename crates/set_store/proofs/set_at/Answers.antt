-- set_at: all 24 scale factors are copied over zeros.
use Rattle.std.proofs.Common.{◌∙◌, sym}
use Rattle.definition.specs.Limits.{max_channels}
use Rattle.set_store.specs.Held.{all_sets, up_length, set_is}
use Rattle.set_store.proofs.set_at.Goals as goal

pub returns : goal.returns
returns c = let a = c.args in
    set_is a.numbers.now a.scales.now a.i c.channels_at.ensures (c.scales_at.ensures ∙ all_sets _ _ (sym (up_length max_channels _)))
