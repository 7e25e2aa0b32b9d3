-- put_set: three numbers are put, then the scale factors.
use Rattle.std.proofs.Common.{◌≡◌, length, arith, rules}
use Rattle.definition.specs.Limits.{max_channels}
use Rattle.set_store.specs.Held.{put_sets}
use Rattle.set_store.specs.Added.{put_numbers}
use Rattle.set_store.proofs.put_set.Goals as goal

pub returns : goal.returns
returns c = let a = c.args in
    let long : length a.set.scale_factor ≡ max_channels = search rules in
    (put_numbers a.numbers.now a.i a.conf_rev a.set.channels, rw c.copy_all.ensures.after (put_sets a.scales.now _ _ a.set.scale_factor (omega arith) (omega arith)))
