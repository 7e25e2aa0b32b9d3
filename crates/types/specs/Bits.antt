-- Bits of a number: definitions only.
use Rattle.std.specs.Prelude.{Bool, cond, ℕ, ◌/◌, ◌%◌, ◌^◌, eqb}

-- whether bit k of n is set; bit 0 is the lowest
abbrev pub bit : ℕ → ℕ → Bool
bit k n = eqb (n / 2 ^ k % 2) 1

-- what bit k adds to a number: 2 ^ k where it is set, else 0
abbrev pub weight : ℕ → Bool → ℕ
weight k b = cond b (2 ^ k) 0
