-- copy_all: an element more each time.
use Rattle.std.specs.Prelude.{◌≡◌, refl, ◌+◌, take, set, get_or}
use Rattle.std.proofs.Common.{arith, ap, ◌∙◌, length-set}
use Rattle.definition.specs.Answers.{over}
use Rattle.rt_services.proofs.Copies.{copied_none, copied_more, copied_all}
use Rattle.rt_services.proofs.copy.copy_all.Goals as goal

pub loop-i-init : goal.loop-i-init
loop-i-init g c = (refl, copied_none c.args.from.now c.args.to.now)

pub loop-i-preserved : goal.loop-i-preserved
loop-i-preserved g c = let l = c.loop-i in
    let more : set l.to l.i (get_or c.args.from.now l.i c.index-from-i.result) ≡ over c.args.to.now 0 (take (l.i + 1) c.args.from.now) =
    copied_more c.args.from.now c.args.to.now l.i c.index-from-i.result c.loop-i-test.true (omega (arith, c.loop-i-test.true, c.requires)) l.invariant.1 in
    (length-set l.to l.i _ ∙ l.invariant.0, ap (λ x. set l.to l.i x) c.index-from-i.is ∙ more)

pub returns-clause-after : goal.returns-clause-after
returns-clause-after g c = copied_all _ _ _ (omega (arith, c.loop-i-test.false)) c.requires c.loop-i.invariant.1
