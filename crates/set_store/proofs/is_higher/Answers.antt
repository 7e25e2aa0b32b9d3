-- is_higher: `all` over the places of the sets held.
use Rattle.std.specs.Prelude.{◌+◌, ◌*◌, ltb}
use Rattle.std.proofs.Common.{arith, ◌∙◌, rules, tests}
use Rattle.std.proofs.lemmas.Iterator.{YieldsList-from_range}
use Rattle.std.proofs.lemmas.Iterator.Search.{all_from_yields_List}
use Rattle.definition.specs.Flat.{nth}
use Rattle.data_sets.specs.DataSets.{held_in}
use Rattle.set_store.specs.Held.{all_above}
use Rattle.set_store.proofs.is_higher.Goals as goal

pub returns : goal.returns
returns c =
    let k = c.args.numbers.now in
    let n = held_in k in
    all_from_yields_List (λ j. ltb (nth k (1 + j * 2)) c.args.conf_rev) _ _ _ c.all.ensures.ran (YieldsList-from_range 0 n n (cc) (omega arith)) (λ x b q h. search (rules, tests))
    ∙ all_above k c.args.conf_rev n 0
