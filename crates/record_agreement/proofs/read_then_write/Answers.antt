-- `record_agreement::read_then_write` meets its contract: `read_then_write`, of the record and the arrays that were handed back.
use Rattle.std.specs.Prelude.{Ok}
use Rattle.definition.proofs.Sound.{octets_known}
use Rattle.record_agreement.specs.Calls.{Encodes, ReadsStrictly}
use Rattle.record_agreement.specs.Theorems.{read_then_write}
use Rattle.record_agreement.proofs.read_then_write.Goals as goal

pub returns-clause-write : goal.returns-clause-write
returns-clause-write c = λ room.
    let a = c.args in
    let r = c.read_strict in
    let x = c.in_ok-read.read in
    let w = c.encode_smv-written in
    let strict : ReadsStrictly a.fixed a.channels a.s.now a.counts.now r.new.counts a.qualities.now r.new.qualities (Ok x) = record { meets = c.in_ok-read.ensures } in
    let call : Encodes a.fixed a.channels x.header x.pdu r.new.counts r.new.qualities a.frame.now w.new.frame w.result = record { said = w.ensures.written; left = w.ensures.elements } in
    read_then_write (octets_known a.s.now (λ i. (c.type_inv.s i).fits)) strict room call
