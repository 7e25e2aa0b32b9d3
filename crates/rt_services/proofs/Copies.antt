-- A copy of a list over another of as many elements, one by one.
use Rattle.std.specs.Prelude.{◌≡◌, List, [], ◌++◌, ℕ, suc, ◌+◌, ◌<◌, ◌≤◌, length, take, set, get_or}
use Rattle.std.proofs.Common.{arith, sym, ◌∙◌, zero-add, length-take-le, take-suc, take_all, drop_of_length-le, append-nil}
use Rattle.definition.specs.Answers.{over}
use Rattle.definition.specs.Over.{over_none, over_more, over_start}

module _ {A : Type 0} (from to : List A) where
  pub copied_none : to ≡ over to 0 (take 0 from)
  copied_none = over_none to 0

  pub copied_more : (i : ℕ) (x : A) {a : List A} → i < length from → i < length to → a ≡ over to 0 (take i from) → set a i (get_or from i x) ≡ over to 0 (take (i + 1) from)
  copied_more i x h g e =
      let l : length (take i from) ≡ i = length-take-le i from (omega arith) in
      let p : i + 1 ≡ suc i = omega arith in
      rw (e, p, take-suc from i x h) (rw (zero-add (length (take i from)), l) at (over_more to 0 (take i from) (get_or from i x) (omega arith)))

  pub copied_all : (i : ℕ) {a : List A} → length from ≤ i → length to ≡ length from → a ≡ over to 0 (take i from) → a ≡ from
  copied_all i h g e =
      let d : length to ≤ length from = omega arith in
      rw (e, take_all i from h) (over_start to from ∙ rw (drop_of_length-le to d) (append-nil from))
