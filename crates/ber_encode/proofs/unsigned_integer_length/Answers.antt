-- `ber_encode::unsigned_integer_length` meets its contract: the significant bits are 32 less the leading zero bits, and one octet more than
-- their whole octets leaves the first bit 0. Assumes nothing.
use mathlib.Core.Path.{◌≡◌}
use mathlib.Core.Logic.{◌⊎◌, inl, inr}
use Prim.Native.Nat.{ℕ, suc, ◌+◌, ◌-◌, ◌*◌, ◌/◌, ◌^◌, ◌≤◌, ◌<◌}
use native.Mathlib.Omega.{arith}
use borrow.Author.Tests.{lt-ltb, le-ltb}
use lib.Count.{count_leading_zeros, leading_length}
use lib.Pow.{pow_mono}
use Rattle.definition.specs.Octets.{uint_size}
use Rattle.definition.proofs.OctetLaws.{lt_or_ge}
use Rattle.ber_encode.proofs.unsigned_integer_length.Goals as goal

-- m bits hold v and m - 1 do not: m is at most b where v is below 2 ^ b, and above b where it is not
above : (v m b : ℕ) → 2 ^ m ≤ 2 * v + 1 → 2 * v + 1 < 2 ^ suc b → m ≤ b
above v m b l h = go (lt_or_ge b m)
  where
    go : (b < m) ⊎ (m ≤ b) → m ≤ b
    go (inl g) = absurd (omega (arith, pow_mono g))
    go (inr g) = g

below : (v m b : ℕ) → v < 2 ^ m → 2 ^ b ≤ v → b < m
below v m b l h = go (lt_or_ge b m)
  where
    go : (b < m) ⊎ (m ≤ b) → b < m
    go (inl g) = g
    go (inr g) = absurd (omega (arith, pow_mono g))

size_is : (v : ℕ) → v < 2 ^ 32 → (32 - count_leading_zeros 32 v) / 8 + 1 ≡ uint_size v
unfolding uint_size
size_is v h = go (leading_length 32 v h) (lt_or_ge v 128) (lt_or_ge v 32768) (lt_or_ge v 8388608) (lt_or_ge v 2147483648)
  where
    go : (m : ℕ) × (count_leading_zeros 32 v + m ≡ 32) × (v < 2 ^ m) × (2 ^ m ≤ 2 * v + 1)
        → (v < 128) ⊎ (128 ≤ v) → (v < 32768) ⊎ (32768 ≤ v) → (v < 8388608) ⊎ (8388608 ≤ v) → (v < 2147483648) ⊎ (2147483648 ≤ v)
        → (32 - count_leading_zeros 32 v) / 8 + 1 ≡ uint_size v
    go s (inl a) b d e = simp (lt-ltb v 128 a) (omega (arith, above v s.0 7 s.3 (omega arith)))
    go s (inr a) (inl b) d e = simp (le-ltb v 128 a, lt-ltb v 32768 b) (omega (arith, above v s.0 15 s.3 (omega arith), below v s.0 7 s.2 a))
    go s (inr a) (inr b) (inl d) e = simp (le-ltb v 128 a, le-ltb v 32768 b, lt-ltb v 8388608 d) (omega (arith, above v s.0 23 s.3 (omega arith), below v s.0 15 s.2 b))
    go s (inr a) (inr b) (inr d) (inl e) = simp (le-ltb v 128 a, le-ltb v 32768 b, le-ltb v 8388608 d, lt-ltb v 2147483648 e) (omega (arith, above v s.0 31 s.3 (omega arith), below v s.0 23 s.2 d))
    go s (inr a) (inr b) (inr d) (inr e) = simp (le-ltb v 128 a, le-ltb v 32768 b, le-ltb v 8388608 d, le-ltb v 2147483648 e) (omega (arith, below v s.0 31 s.2 e))

pub returns : goal.returns
returns c = size_is c.args.value c.ranges.value.fits
