-- All samples of a reading: the counts of their values are the counts that were read. Element by element, by the theorem in Lossless.
use Rattle.std.specs.Prelude.{◌≡◌, ℤ, pos, length, take, get_or, Float}
use Rattle.std.proofs.Math.Path.{refl, ap}
use Rattle.std.proofs.Common.{◌∙◌, eq-or-lt_of_le, le_of_suc-le-suc, not-suc-le-zero, arith, take-suc}
use Rattle.std.proofs.Math.Logic.{inl, inr}
use mathlib.Core.List.{List, [], ◌∷◌, ◌++◌}
use Prim.Native.Nat.{ℕ, zero, suc, ◌%◌, ◌≤◌, ◌<◌}
use Rattle.std.proofs.Math.Numerals.{add-one}
use Rattle.std.proofs.Math.ListN.{length-append, get_or-append}
use Rattle.std.proofs.Math.Seq.{get_or-append_seam}
use Rattle.std.specs.Float.{nan}
use Rattle.definition.specs.Answers.{Answer, accepted}
use Rattle.definition.specs.Scaling.{value_of, count_of, up_to, values_of, counts_up_to, counts_of_values}
use Rattle.definition.specs.UpTo.{channel_below}
use Rattle.lossless.specs.Bounds.{AllWithin}
use Rattle.lossless.proofs.Lossless.{lossless_to}

-- ---- f 0, f 1, ..

module _ {A : Type 0} (f : ℕ → A) where
  length-up_to : (m : ℕ) → length (up_to m f) ≡ m
  unfolding up_to
  length-up_to zero = refl
  length-up_to (suc m) = length-append (up_to m f) (f m ∷ []) ∙ add-one (length (up_to m f)) ∙ ap suc (length-up_to m)

  get_or-up_to : (m k : ℕ) (d : A) → k < m → get_or (up_to m f) k d ≡ f k
  unfolding up_to
  get_or-up_to zero k d h = absurd (not-suc-le-zero h)
  get_or-up_to (suc m) k d h = elim (eq-or-lt_of_le (le_of_suc-le-suc h)) [
    | inl e ↦ rw e (rw (length-up_to m) at (get_or-append_seam (up_to m f) (f m) [] d))
    | inr q ↦ get_or-append (up_to m f) (f m ∷ []) d k (omega (arith, length-up_to m, q)) ∙ get_or-up_to m k d q
  ]

pub length-values_of : (n : ℕ) (scales : List Float) (counts : List ℤ) (m : ℕ) → length (values_of n scales counts m) ≡ m
unfolding values_of
length-values_of n scales counts m = length-up_to _ m

-- counts that are all had
counts_are : (f : ℕ → Answer ℤ) (counts : List ℤ) (m : ℕ) → m ≤ length counts → ((k : ℕ) → k < m → f k ≡ accepted (get_or counts k (pos 0))) → counts_up_to m f ≡ accepted (take m counts)
unfolding counts_up_to
counts_are f counts zero h e = refl
counts_are f counts (suc m) h e = rw (counts_are f counts m (omega arith) (λ k l. e k (omega arith)), e m (omega arith), take-suc counts m (pos 0) h) refl

-- The counts of the values of the first m counts, with other values after them as in an array, are these counts. Without channels there
-- are none.
pub samples_lossless : (n : ℕ) (scales : List Float) (counts : List ℤ) (m : ℕ) (rest : List Float) → (n ≡ 0 → m ≡ 0) → m ≤ length counts → AllWithin n scales counts m
    → counts_of_values n scales (values_of n scales counts m ++ rest) m ≡ accepted (take m counts)
unfolding counts_of_values values_of
samples_lossless n scales counts m rest none enough within =
    counts_are _ counts m enough
    (λ k h. ap (λ (v : Float). count_of v (get_or scales (k % n) nan)) (value_at k h)
    ∙ lossless_to (get_or counts k (pos 0)) (get_or scales (k % n) nan) (within.each_count k h) (within.each_scale (k % n) (channel_below n m k none h)))
  where
    value : ℕ → Float
    value k = value_of (get_or counts k (pos 0)) (get_or scales (k % n) nan)

    value_at : (k : ℕ) → k < m → get_or (up_to m value ++ rest) k nan ≡ value k
    value_at k h = get_or-append (up_to m value) rest nan k (omega (arith, length-up_to value m, h)) ∙ get_or-up_to value m k nan h
