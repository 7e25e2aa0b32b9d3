-- Laws of `over`, a list in which the elements from a place on are others, and of no elements.
use Rattle.std.specs.Prelude.{◌≡◌, refl, take, set}
use Rattle.std.proofs.Common.{sym, ◌∙◌, zero-add, take-append-drop, take_at}
use mathlib.Core.List.{List, [], ◌∷◌, ◌++◌, append_assoc, append-nil}
use Prim.Native.Nat.{ℕ, suc, ◌+◌, ◌≤◌, ◌<◌}
use Rattle.std.proofs.Math.Nat.{add-zero}
use native.Mathlib.Omega.{arith}
use Rattle.std.proofs.Math.ListN.{length, get_or, drop, length-append, length-drop}
use Rattle.std.proofs.Math.Seq.{drop-cons, length-take-le, drop-length, take-append_seam, drop-append-add, drop-drop}
use Rattle.std.proofs.lemmas.List.{set_at}
use Rattle.definition.specs.Answers.{over}

module _ {A : Type 0} (l : List A) where
  pub take_none : take 0 l ≡ []
  take_none = refl

  pub over_none : (at : ℕ) → l ≡ over l at []
  unfolding over
  over_none at = rw add-zero (sym (take-append-drop at l))

  -- at the start
  pub over_start : (vs : List A) → over l 0 vs ≡ vs ++ drop (length vs) l
  unfolding over
  over_start vs = rw (zero-add (length vs))

  pub over_itself : l ≡ over l 0 l
  over_itself = sym (over_start l ∙ rw (drop-length l) (append-nil l))

  pub take_over : (vs : List A) (m : ℕ) → length vs ≡ m → take m (over l 0 vs) ≡ vs
  take_over vs m e = rw (over_start vs) (take_at vs (drop (length vs) l) m e)

  pub over_length : (at : ℕ) (vs : List A) → at + length vs ≤ length l → length (over l at vs) ≡ length l
  unfolding over
  over_length at vs h =
      let t : length (take at l) ≡ at = length-take-le at l (omega arith) in
      rw (length-append, length-append, length-drop, t) (omega arith)

  -- one element more, stored after the others
  pub over_more : (at : ℕ) (vs : List A) (v : A) → at + length vs < length l → set (over l at vs) (at + length vs) v ≡ over l at (vs ++ (v ∷ []))
  unfolding over
  over_more at vs v h =
      let t : length (take at l) ≡ at = length-take-le at l (omega arith) in
      let f : length (take at l ++ vs) ≡ at + length vs = length-append (take at l) vs ∙ rw t in
      let d : drop (at + length vs) l ≡ get_or l (at + length vs) v ∷ drop (suc (at + length vs)) l = drop-cons l (at + length vs) v h in
      let e : at + length (vs ++ (v ∷ [])) ≡ suc (at + length vs) = omega (arith, length-append vs (v ∷ [])) in
      rw (d, ← append_assoc (take at l) vs (get_or l (at + length vs) v ∷ drop (suc (at + length vs)) l))
      (set_at (take at l ++ vs) _ _ v (at + length vs) f ∙ rw (e, append_assoc, append_assoc))

  -- a second run straight after the first
  pub over_over : (vs ws : List A) → over (over l 0 vs) (length vs) ws ≡ over l 0 (vs ++ ws)
  unfolding over
  over_over vs ws =
      let e : 0 + length vs ≡ length vs = omega arith in
      let k : 0 + length (vs ++ ws) ≡ length vs + length ws = omega (arith, length-append vs ws) in
      rw (e, k, take-append_seam vs (drop (length vs) l), drop-append-add vs (drop (length vs) l) (length ws), drop-drop, append_assoc)
