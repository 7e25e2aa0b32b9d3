-- scales_at: the 24 scale factors from the set's place.
use Rattle.std.proofs.Common.{◌≡◌, ◌+◌, ◌-◌, ◌*◌, ◌∙◌, sym, arith}
use Rattle.std.specs.Float.{nan}
use Rattle.definition.specs.Limits.{max_channels}
use Rattle.set_store.specs.Held.{all_sets, part_up, up_length}
use Rattle.set_store.proofs.scales_at.Goals as goal

pub returns : goal.returns
returns c = let a = c.args in
    let at = a.i * max_channels in
    let e : at + max_channels - at ≡ max_channels = omega arith in
    c.copy_all.ensures.after ∙ rw e (part_up a.scales.now at nan max_channels (omega arith) ∙ sym (all_sets a.factors.now _ (c.told-factors ∙ sym (up_length max_channels _))))
