-- The theorem of change request U7: reading the value of a count and writing it returns the count. How far one operation moves a number
-- stands in Rounding, and why both together move a count by less than a half in Halves; here the two operations of f32 are taken to
-- fractions of whole numbers.
use Rattle.std.specs.Prelude.{◌≡◌, refl, Bool, true, false, ℕ, suc, ◌+◌, ◌*◌, ◌^◌, ◌≤◌, ◌<◌, ℤ, pos, negsuc, Float}
use Rattle.std.proofs.Common.{sym, ap, ◌∙◌, le_trans, lt_of_le_of_lt, mul-one, zero-mul, mul-pos, mul-le-mul_right, arith, ne_eqb, le-ltb, lit<, lit≤, pow_pos}
use Rattle.std.proofs.Math.Nat.{min-eq_left}
use Rattle.std.specs.Float.{nan, inf, fin}
use Rattle.std.specs.Float.Ieee.{binary32, up, down, unlike, round, mul, div, of_int}
use Rattle.std.specs.Float.Ieee.Fits.{down_pos}
use Rattle.std.specs.Float.Ieee.Exact.{HasValue, round_exact}
use Rattle.std.specs.Float.Ieee.Scale.{grid, round_same}
use Rattle.definition.specs.Answers.{accepted}
use Rattle.definition.specs.Scaling.{whole_mag, signed, counted, whole_of, value_of, count_of}
use Rattle.lossless.specs.Bounds.{requested, greatest, CountWithin, ScaleWithin}
use Rattle.lossless.specs.Rounding.{Near}
use Rattle.lossless.proofs.Rounding.{near_round, round_value}
use Rattle.lossless.specs.Halves.{Given}
use Rattle.lossless.proofs.Halves.{scale_above, product_normal, whole_is, value_under, quotient_normal, quotient_under, from_below, from_above}

-- ---- the operations on magnitudes: `HasValue x s a c` says that x is a / c with the sign s

-- a count of the sign s and the magnitude n times the scale factor
product_is : (x : Float) (s : Bool) (n : ℕ) (t : Bool) (m : ℕ) (e : ℤ) → HasValue x s n 1 → mul binary32 x (fin t m e) ≡ round binary32 (unlike s t) (n * (m * up e)) (down e)
unfolding mul
product_is nan s n t m e h = absurd h
product_is (inf u) s n t m e h = absurd h
product_is (fin u k i) s n t m e h =
    rw h.0 (round_same binary32 (unlike s t) (k * up i * (m * up e)) (down i * down e) (n * (m * up e)) (down e) (mul-pos (down_pos i) (down_pos e)) (down_pos e)
    (cross (k * up i) (m * up e) (down e) n (down i) h.1))
  where
    cross : (x a b n d : ℕ) → x * 1 ≡ n * d → x * a * b ≡ n * a * (d * b)
    cross x a b n d p = let q : x * 1 * (a * b) ≡ n * d * (a * b) = ap (λ (i : ℕ). i * (a * b)) p in omega (arith, q)

-- a value of g units over the scale factor
quotient_is : (v : Float) (s : Bool) (g : ℕ) (t : Bool) (m : ℕ) (e : ℤ) → 0 < m * up e → HasValue v s g (2 ^ 149) → div binary32 v (fin t m e) ≡ round binary32 (unlike s t) (g * down e) (m * up e * 2 ^ 149)
unfolding div
quotient_is nan s g t m e P h = absurd h
quotient_is (inf u) s g t m e P h = absurd h
quotient_is (fin u k i) s g t m e P h =
    rw (ne_eqb m 0 (not_zero m (up e) P), h.0)
    (round_same binary32 (unlike s t) (k * up i * down e) (m * up e * down i) (g * down e) (m * up e * 2 ^ 149) (mul-pos P (down_pos i)) (mul-pos P (pow_pos 149))
    (cross (k * up i) (m * up e) (down e) g (down i) (2 ^ 149) h.1))
  where
    not_zero : (m u : ℕ) → 0 < m * u → m ≡ 0 → ⊥
    not_zero m u P z = let q : m * u ≡ 0 = ap (λ (i : ℕ). i * u) z ∙ zero-mul u in omega (arith, q, P)

    cross : (x a b g d L : ℕ) → x * L ≡ g * d → x * b * (a * L) ≡ g * b * (a * d)
    cross x a b g d L p = let q : x * L * (b * a) ≡ g * d * (b * a) = ap (λ (i : ℕ). i * (b * a)) p in omega (arith, q)

-- the sign of a count comes back
unlike_twice : (s t : Bool) → unlike (unlike s t) t ≡ s
unlike_twice true true = refl
unlike_twice true false = refl
unlike_twice false true = refl
unlike_twice false false = refl

-- the count of a quotient of q units that is less than a half from n
count_is : (x : Float) (s : Bool) (n q : ℕ) → n ≤ greatest → HasValue x s q (2 ^ 149) → n * 2 ^ 149 * 2 ≤ q * 2 + 2 ^ 149 → q * 2 < n * 2 ^ 149 * 2 + 2 ^ 149 → whole_of x ≡ accepted (signed s n)
unfolding whole_of whole_mag counted
count_is nan s n q b h low high = absurd h
count_is (inf u) s n q b h low high = absurd h
count_is (fin u k i) s n q b h low high =
    rw (whole_is n q (2 ^ 149) (k * up i) (down i) (pow_pos 149) (down_pos i) h.1 low high, h.0, le-ltb (2 ^ 31) n (le_trans b (lit≤ tt))) refl

-- ---- there and back

module _ (n m : ℕ) (t : Bool) (e : ℤ) (top : n ≤ greatest) (scale : ScaleWithin (fin t m e)) where
  abbrev a : ℕ
  a = m * up e

  abbrev b : ℕ
  b = down e

  given : Given n a b (2 ^ 149)
  given = record { count = top; above = down_pos e; least = scale.0; most = scale.1; fine = lit≤ tt }

  -- the value read, in units of 2^−149
  abbrev r : ℕ
  r = grid binary32 (n * a) b

  first : Near (r * b) (n * a * 2 ^ 149)
  first = near_round (n * a) b (down_pos e) (product_normal given)

  -- the quotient written
  abbrev q : ℕ
  q = grid binary32 (r * b) (a * 2 ^ 149)

  second : Near (q * (a * 2 ^ 149)) (r * b * 2 ^ 149)
  second = near_round (r * b) (a * 2 ^ 149) (mul-pos (scale_above given) (pow_pos 149)) (quotient_normal given r first)

  there_and_back : (x : Float) (s : Bool) → HasValue x s n 1 → count_of (mul binary32 x (fin t m e)) (fin t m e) ≡ accepted (signed s n)
  unfolding count_of
  there_and_back x s h =
      rw (
        product_is x s n t m e h,
        quotient_is (round binary32 (unlike s t) (n * a) b) (unlike s t) r t m e (scale_above given)
            (round_value (unlike s t) (n * a) b (lt_of_le_of_lt (value_under given r first) (lit< {m = 2 ^ 53 * 2 ^ 149} {n = 2 ^ 277} tt))),
        unlike_twice s t,
      )
      (count_is (round binary32 s (r * b) (a * 2 ^ 149)) s n q top
      (round_value s (r * b) (a * 2 ^ 149) (lt_of_le_of_lt (quotient_under given r first q second) (lit< {m = 2 ^ 24 * 2 ^ 149} {n = 2 ^ 277} tt)))
      (from_below given r first q second) (from_above given r first q second))

-- the count as f32 is exact
exact : (s : Bool) (n : ℕ) → n ≤ greatest → HasValue (round binary32 s n 1) s n 1
exact s n h =
    round_exact binary32 s n 1 n 149 (pow_pos 0) (lt_of_le_of_lt h (lit< {n = 2 ^ 24} tt))
    (lt_of_le_of_lt (mul-le-mul_right (2 ^ 149) h) (lit< {m = greatest * 2 ^ 149} {n = 2 ^ 277} tt))
    (sym (mul-one (n * 2 ^ 149)))

-- ---- the theorem

-- As far as the reason reaches: of every count from −4,194,303 to 4,194,303 and every scale factor whose magnitude lies from 2^−30 to
-- 2^30, reading the value and writing it returns the same count.
pub lossless_to : (c : ℤ) (scale : Float) → CountWithin greatest c → ScaleWithin scale → count_of (value_of c scale) scale ≡ accepted c
unfolding value_of of_int signed
lossless_to c nan h k = absurd k
lossless_to c (inf t) h k = absurd k
lossless_to (pos n) (fin t m e) h k = there_and_back n m t e h k (round binary32 false n 1) false (exact false n h) ∙ ap (λ (i : ℕ). accepted (pos i)) (min-eq_left (le_trans h (lit≤ tt)))
lossless_to (negsuc n) (fin t m e) h k = there_and_back (suc n) m t e h k (round binary32 true (suc n) 1) true (exact true (suc n) h)

-- "For counts from −2,097,152 to 2,097,152 and scale factors whose magnitude lies from 2^−30 to 2^30, show that reading the value and
-- writing it returns the same count."
pub lossless : (c : ℤ) (scale : Float) → CountWithin requested c → ScaleWithin scale → count_of (value_of c scale) scale ≡ accepted c
lossless c scale h k = lossless_to c scale (le_trans h (lit≤ tt)) k
