-- add_to: 8, 14 where the confRev is not higher or 32 are held, then the set is put.
use Rattle.std.proofs.Common.{sym, ◌∙◌, arith}
use Rattle.set_store.specs.Added.{added_many, added_low, added_full, added_taken}
use Rattle.set_store.proofs.add_to.Goals as goal
use Rattle.set_store.proofs.add_to.Goals.{then-not-is_higher-via-then-not-is_higher, then-not-is_higher-via-else-not-is_higher+then-n-ge-MAX_SETS}

pub returns-then-set-gt-MAX_CHANNELS : goal.returns-then-set-gt-MAX_CHANNELS
returns-then-set-gt-MAX_CHANNELS c = let a = c.args in rw c.at.ensures (added_many a.conf_rev a.set a.numbers.now a.scales.now (omega arith))

pub returns-then-not-is_higher : goal.returns-then-not-is_higher
returns-then-not-is_higher c = let a = c.args in
    rw c.at-then-not-is_higher.ensures
    (elim c.then-not-is_higher.branch [
      | then-not-is_higher-via-then-not-is_higher w ↦ added_low a.conf_rev a.set a.numbers.now a.scales.now (omega arith) (sym c.is_higher.ensures ∙ w.if-not-is_higher.true)
      | then-not-is_higher-via-else-not-is_higher+then-n-ge-MAX_SETS w ↦ added_full a.conf_rev a.set a.numbers.now a.scales.now (omega arith) (sym c.is_higher.ensures ∙ w.if-not-is_higher.false) (omega (arith, c.held-n.ensures))
    ])

pub returns : goal.returns
returns c = let a = c.args in
    added_taken a.conf_rev a.set a.numbers.now a.scales.now (omega arith) (sym c.is_higher.ensures ∙ c.if-not-is_higher.false) c.held-n.ensures (omega arith) c.put_set.ensures.0 c.put_set.ensures.1
