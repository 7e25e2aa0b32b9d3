-- position: `find` over the places of the sets held.
use Rattle.std.specs.Prelude.{◌+◌, ◌*◌, eqb}
use Rattle.std.proofs.Common.{arith, sym, ◌∙◌, rules, tests}
use Rattle.std.proofs.lemmas.Iterator.{YieldsList-from_range}
use Rattle.std.proofs.lemmas.Iterator.Adapters.{option_map_id}
use Rattle.std.proofs.lemmas.Iterator.Search.{find_from_yields_List}
use Rattle.definition.specs.Flat.{nth}
use Rattle.data_sets.specs.DataSets.{held_in}
use Rattle.set_store.specs.Held.{first_of}
use Rattle.set_store.proofs.position.Goals as goal

pub returns : goal.returns
returns c =
    let k = c.args.numbers.now in
    let n = held_in k in
    sym (option_map_id c.find.result)
    ∙ find_from_yields_List (λ j. eqb (nth k (1 + j * 2)) c.args.conf_rev) _ _ _ c.find.ensures.ran (YieldsList-from_range 0 n n (cc) (omega arith)) (λ x b q h. search (rules, tests))
    ∙ first_of k c.args.conf_rev n 0
