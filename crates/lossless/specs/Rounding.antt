-- How far one f32 operation moves a number, over whole numbers: by at most half a unit in the last place of a 24-bit significand. In
-- the normal range that unit is at most one part in 2^23 of the number, so the number is moved by at most one part in 2^24.
use Rattle.std.specs.Prelude.{◌≡◌}
use Prim.Native.Nat.{ℕ, ◌+◌, ◌*◌, ◌^◌, ◌≤◌, ◌<◌, Ordering}

-- ---- half a unit

-- what `compare` says
abbrev pub Cmp : Ordering → ℕ → ℕ → Type 0
Cmp Ordering.lt a b = a < b
Cmp Ordering.eq a b = a ≡ b
Cmp Ordering.gt a b = b < a

-- x is within half of u of n
pub record Half (x n u : ℕ) : Type 0 where
  pub over : x * 2 ≤ n * 2 + u
  pub under : n * 2 ≤ x * 2 + u

-- ---- one part in 2^24

-- x is within one part in 2^24 of y
pub record Near (x y : ℕ) : Type 0 where
  pub over : x * 2 ^ 24 ≤ y * 2 ^ 24 + y
  pub under : y * 2 ^ 24 ≤ x * 2 ^ 24 + y
