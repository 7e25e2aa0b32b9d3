-- first_difference: where the octets agree as far as the shorter goes, the lengths tell; else `position` finds the first that differs.
use Rattle.std.proofs.Common.{take, ◌∙◌, rules, tests}
use Rattle.std.proofs.lemmas.Slice.Eq.{slice_eq-Decides}
use Rattle.std.proofs.lemmas.Bool.Decides.{Decides-eqb, not_from_Decides}
use Rattle.std.proofs.lemmas.Iterator.{YieldsList-from_slice, YieldsList-from_zip}
use Rattle.std.proofs.lemmas.Iterator.Search.{position_from_yields_List}
use Rattle.compare.proofs.Differ.{unlike, differ_ends, differ_first}
use Rattle.compare.proofs.first_difference.Goals as goal

pub returns-then-eq : goal.returns-then-eq
returns-then-eq c =
    let s = c.args.s.now in
    let t = c.args.t.now in
    let n = c.min-n.result in
    c.then_some.ensures ∙ differ_ends s t n c.min-n.ensures ((slice_eq-Decides Decides-eqb _ _ c.eq.result c.eq.ensures).0 c.if-eq.true)

pub returns : goal.returns
returns c =
    let s = c.args.s.now in
    let t = c.args.t.now in
    let n = c.min-n.result in
    position_from_yields_List unlike c.position.new.self _ _ c.position.ensures.ran (YieldsList-from_zip (YieldsList-from_slice (take n s) cc) (YieldsList-from_slice (take n t) cc)) (λ x b q k. search (rules, tests))
    ∙ differ_first s t n c.min-n.ensures (not_from_Decides _ (slice_eq-Decides Decides-eqb _ _ c.eq.result c.eq.ensures) c.if-eq.false)
