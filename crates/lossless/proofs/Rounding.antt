-- How far one f32 operation moves a number, over whole numbers: by at most half a unit in the last place of a 24-bit significand. In
-- the normal range that unit is at most one part in 2^23 of the number, so the number is moved by at most one part in 2^24.
use Rattle.std.specs.Prelude.{◌≡◌, refl, Bool, not, T, eqb}
use Rattle.std.proofs.Common.{ap, subst, inl, inr, eq-zero-or-pos, mul-pos, mod-lt, div-add-mod', le-div_iff_mul-le, arith, lit<, leb→le, eqb→eq, pow-add, pow_pos}
use Prim.Native.Nat.{ℕ, zero, suc, ◌+◌, ◌-◌, ◌*◌, ◌/◌, ◌%◌, ◌^◌, ◌≤◌, ◌<◌, compare, Ordering}
use Rattle.std.proofs.Math.Dec.{is_le, compare_is_eq, nleb→lt, eqb_refl}
use Rattle.std.proofs.Math.Arith.{lt_of_le-ne}
use Rattle.std.specs.Float.{binary32}
use Rattle.std.specs.Float.Ieee.{size, nearest, round}
use Rattle.std.specs.Float.Ieee.Digits.{size_reaches}
use Rattle.std.specs.Float.Ieee.Fits.{round_is}
use Rattle.std.specs.Float.Ieee.Exact.{HasValue, units_val}
use Rattle.std.specs.Float.Ieee.Nearest.{closest}
use Rattle.std.specs.Float.Ieee.Order.{drop, kept}
use Rattle.std.specs.Float.Ieee.Scale.{grid, overflow, normal_of_fraction}
use Rattle.lossless.specs.Rounding.{Cmp, Half, Near}

cmp : (a b : ℕ) → Cmp (compare a b) a b
cmp a b = go (compare a b) (leb→le a b) (nleb→lt a b) (eqb→eq a b) (λ (e : a ≡ b). subst (λ (x : ℕ). T (eqb a x)) e (eqb_refl a))
  where
    go : (o : Ordering) → (T (is_le o) → a ≤ b) → (T (not (is_le o)) → b < a) → (T (compare_is_eq o) → a ≡ b) → (a ≡ b → T (compare_is_eq o)) → Cmp o a b
    go Ordering.lt h k e n = lt_of_le-ne (h tt) n
    go Ordering.eq h k e n = e tt
    go Ordering.gt h k e n = k tt

-- of a number that is w times u and r over
half_of : (w r u : ℕ) (o : Ordering) → Cmp o (r * 2) u → r < u → Half (nearest w o * u) (w * u + r) u
half_of w r u Ordering.lt h l = record { over = omega arith; under = omega arith }
half_of w r u Ordering.gt h l = record { over = omega arith; under = omega arith }
half_of w r u Ordering.eq h l = tie (w % 2) (mod-lt w (lit< tt))
  where
    tie : (t : ℕ) → t < 2 → Half ((w + t) * u) (w * u + r) u
    tie zero b = record { over = omega arith; under = omega arith }
    tie (suc zero) b = record { over = omega arith; under = omega arith }
    tie (suc (suc t)) b = absurd (omega arith)

-- the nearest multiple of u
half_unit : (n u : ℕ) → 0 < u → Half (closest n u * u) n u
half_unit n u U = rw (div-add-mod' n u) at (half_of (n / u) (n % u) u (compare (n % u * 2) u) (cmp (n % u * 2) u) (mod-lt n U))

-- half of u is at most one part in 2^24 of n, where u is at most one part in 2^23 of it; and of 0 the nearest multiple is 0
near_of : (k n u : ℕ) → 0 < u → (0 < n → u * 2 ^ 23 ≤ n) → Half (k * u) n u → Near (k * u) n
near_of k n u U unit h = elim (eq-zero-or-pos n) [
  | inl z ↦ let e = none k (omega (arith, h.over)) in rw (e, z) (record { over = omega arith; under = omega arith })
  | inr p ↦ let l = unit p in record { over = omega (arith, h.over); under = omega (arith, h.under) }
]
  where
    none : (k : ℕ) → k * u * 2 ≤ u → k ≡ 0
    none zero m = refl
    none (suc k) m = absurd (omega arith)

-- the unit c × 2^k of a number n / c that has 24 digits and k more
unit_le : (n c k : ℕ) → 0 < c → 2 ^ (23 + k) ≤ n / c → c * 2 ^ k * 2 ^ 23 ≤ n
unit_le n c k C h =
    let p : 2 ^ (23 + k) * c ≤ n = (le-div_iff_mul-le C).0 h in
    let q : 2 ^ (23 + k) * c ≡ 2 ^ 23 * 2 ^ k * c = ap (λ (x : ℕ). x * c) (pow-add 2 23 k) in
    omega (arith, p, q)

-- a / c, which is 0 or in the normal range, rounded: `grid` is the result in units of 2^−149
pub near_round : (a c : ℕ) → 0 < c → (0 < a → 2 ^ 23 * c ≤ a * 2 ^ 149) → Near (grid binary32 a c * c) (a * 2 ^ 149)
near_round a c C normal =
    let n = a * 2 ^ 149 in
    let k = drop 24 n c in
    let u = c * 2 ^ k in
    let same : closest n u * 2 ^ k * c ≡ closest n u * u = omega arith in
    rw same (near_of (closest n u) n u (mul-pos C (pow_pos k)) (λ p. unit_le n c k C (size_reaches (n / c) (23 + k) (dropped (size (n / c)) (normal_of_fraction binary32 a c C (normal (above a p)))))) (half_unit n u (mul-pos C (pow_pos k))))
  where
    dropped : (z : ℕ) → 24 ≤ z → 23 + (z - 24) < z
    dropped z h = omega arith

    above : (a : ℕ) → 0 < a * 2 ^ 149 → 0 < a
    above zero p = p
    above (suc a) p = omega arith

-- the result is that number of units, unless they are too many
pub round_value : (s : Bool) (a c : ℕ) → grid binary32 a c < overflow binary32 → HasValue (round binary32 s a c) s (grid binary32 a c) (2 ^ 149)
round_value s a c h = rw (round_is binary32 s a c) (units_val binary32 s (kept 24 (a * 2 ^ 149) c) (drop 24 (a * 2 ^ 149) c) h)
