-- `values_agreement::value_then_count` meets its contract: `value_then_count`, of the two calls.
use Rattle.std.specs.Prelude.{◌≡◌}
use mir.Syntax.{w32}
use mir.ValLaws.{to_z-of_z}
use Rattle.definition.specs.Scaling.{value_of}
use Rattle.values_agreement.specs.Records.{value_then_count}
use Rattle.values_agreement.proofs.value_then_count.Goals as goal

pub returns-clause-back : goal.returns-clause-back
returns-clause-back c = λ h k.
    let value : c.value_of.result ≡ value_of c.args.count c.args.scale = rw (to_z-of_z w32 c.args.count c.ranges.count) at c.value_of.ensures in
    value_then_count c.args.scale h k value c.count_of.ensures
