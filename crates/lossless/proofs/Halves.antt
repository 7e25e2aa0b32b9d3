-- The two f32 operations over whole numbers. n is the magnitude of a count, a / b that of a scale factor, and 1 / L is the smallest f32
-- above 0. The value read is r / L, where r × b is n × a × L, moved by at most one part in 2^24. The quotient written is q / L, where q × a is
-- r × b, moved by at most one part in 2^24. Both together move n by at most 2 / 2^24 + 1 / 2^48 of itself, which is less than a half for every n
-- below 2^22: so n is the whole number nearest to the quotient.
-- L stands for 2^149, since `omega` takes no number of more than 38 digits.
use Rattle.std.specs.Prelude.{◌≡◌, ℕ, zero, suc, ◌+◌, ◌*◌, ◌^◌, ◌≤◌, ◌<◌}
use Rattle.std.proofs.Common.{ap, inl, inr, eq-zero-or-pos, mul-le-mul, mul-le-mul_right, mul-lt-mul_of_pos_right, le_of_mul-le-mul_right, lt_of_mul-lt-mul_right, arith}
use Rattle.std.proofs.Math.Nat.{div-eq_of_lt-le}
use Rattle.definition.specs.Scaling.{nearest_whole}
use Rattle.lossless.specs.Bounds.{greatest, range}
use Rattle.lossless.specs.Rounding.{Near}
use Rattle.lossless.specs.Halves.{Given, twice}

-- Why they stay under one half: n × (2 / 2^24 + 1 / 2^48) < 1 / 2.
under_half : (n : ℕ) → n ≤ greatest → n * twice < 2 ^ 47
under_half n h = omega arith

-- a multiple that isn't 0
once : (n a : ℕ) → 0 < n * a → a ≤ n * a
once zero a h = absurd (omega arith)
once (suc n) a h = omega arith

module _ {n a b L : ℕ} (g : Given n a b L) where
  pub scale_above : 0 < a
  scale_above = omega (arith, g.above, g.least)

  above_zero : 0 < L
  above_zero = omega (arith, g.fine)

  half : n * twice * L < 2 ^ 47 * L
  half = mul-lt-mul_of_pos_right (under_half n g.count) above_zero

  -- the scale factor in units
  unit : 2 ^ 53 * a ≤ L * a
  unit = mul-le-mul_right a g.fine

  -- the product is 0 or in the normal range
  pub product_normal : 0 < n * a → 2 ^ 23 * b ≤ n * a * L
  product_normal p = omega (arith, g.least, unit, mul-le-mul_right L (once n a p))

  module _ (r : ℕ) (first : Near (r * b) (n * a * L)) where
    -- the value read is no infinity
    pub value_under : r ≤ 2 ^ 53 * L
    value_under =
        let h : n * a * L ≤ greatest * (range * b) * L = mul-le-mul_right L (mul-le-mul g.count g.most) in
        le_of_mul-le-mul_right {k = b} (omega (arith, first.over, h)) g.above

    -- the quotient is 0 or in the normal range
    pub quotient_normal : 0 < r * b → 2 ^ 23 * (a * L) ≤ r * b * L
    quotient_normal p = elim (eq-zero-or-pos (n * a)) [
      | inl z ↦ absurd (let e : n * a * L ≡ 0 * L = ap (λ (x : ℕ). x * L) z in omega (arith, first.over, e, p))
      | inr h ↦
          let l : 2 ^ 23 * a ≤ r * b = omega (arith, first.under, unit, mul-le-mul_right L (once n a h)) in
          omega (arith, mul-le-mul_right L l)
    ]

    module _ (q : ℕ) (second : Near (q * (a * L)) (r * b * L)) where
      -- the second rounding, without L
      second_over : q * a * 2 ^ 24 ≤ r * b * 2 ^ 24 + r * b
      second_over = le_of_mul-le-mul_right {k = L} (omega (arith, second.over)) above_zero

      second_under : r * b * 2 ^ 24 ≤ q * a * 2 ^ 24 + r * b
      second_under = le_of_mul-le-mul_right {k = L} (omega (arith, second.under)) above_zero

      -- both roundings: n is moved by at most 2 / 2^24 + 1 / 2^48 of itself
      both_over : q * 2 ^ 48 ≤ n * L * 2 ^ 48 + n * L * twice
      both_over = le_of_mul-le-mul_right {k = a} (omega (arith, second_over, first.over)) scale_above

      both_under : n * L * 2 ^ 48 ≤ q * 2 ^ 48 + n * L * twice
      both_under = le_of_mul-le-mul_right {k = a} (omega (arith, second_under, first.over, first.under)) scale_above

      -- so by less than a half
      pub from_above : q * 2 < n * L * 2 + L
      from_above = omega (arith, both_over, half)

      pub from_below : n * L * 2 ≤ q * 2 + L
      from_below = omega (arith, both_under, half)

      -- nor is the quotient an infinity
      pub quotient_under : q ≤ 2 ^ 24 * L
      quotient_under = omega (arith, from_above, mul-le-mul_right L g.count)

-- n is the whole number nearest to X / D, which is q / L
pub whole_is : (n q L X D : ℕ) → 0 < L → 0 < D → X * L ≡ q * D → n * L * 2 ≤ q * 2 + L → q * 2 < n * L * 2 + L → nearest_whole X D ≡ n
whole_is n q L X D l d e low high =
    let low' : n * L * 2 * D ≤ (q * 2 + L) * D = mul-le-mul_right D low in
    let high' : q * 2 * D < (n * L * 2 + L) * D = mul-lt-mul_of_pos_right high d in
    div-eq_of_lt-le (D * 2) (le_of_mul-le-mul_right {k = L} (omega (arith, low', e)) l) (lt_of_mul-lt-mul_right L (omega (arith, high', e)))
