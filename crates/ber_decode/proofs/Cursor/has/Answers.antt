-- has: past the end there is no tag, else it is the octet there.
use Rattle.std.proofs.Common.{◌≡◌, ℕ, eqb, List, Option, Some, None, Bor, sym, ap, ◌∙◌, arith}
use Rattle.std.specs.Option.{option_eq}
use Rattle.std.specs.Slice.{IsItemAt}
use Rattle.definition.specs.Read.{has_at}
use Rattle.ber_decode.specs.Cases.{has_end, has_there}
use Rattle.ber_decode.proofs.Cursor.has.Goals as goal

-- what `get` finds, beside a tag
tag_read : (s : List ℕ) (at : ℕ) (found : Option (Bor ℕ)) (t : Bor ℕ) → IsItemAt s at found → option_eq (λ x y. eqb x.now y.now) found (Some t) ≡ has_at s at t.now
tag_read s at None t h = sym (has_end s at t.now (omega arith))
tag_read s at (Some x) t h = ap (λ n. eqb n t.now) (h.3.1 0) ∙ sym (has_there s at t.now (omega arith))

pub returns : goal.returns
returns c = c.eq.ensures ∙ tag_read c.args.s.now c.args.self.at c.get.result _ c.get.ensures.lookup
