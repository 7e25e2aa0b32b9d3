-- The two f32 operations over whole numbers. n is the magnitude of a count, a / b that of a scale factor, and 1 / L is the smallest f32
-- above 0. The value read is r / L, where r × b is n × a × L, moved by at most one part in 2^24. The quotient written is q / L, where q × a is
-- r × b, moved by at most one part in 2^24. Both together move n by at most 2 / 2^24 + 1 / 2^48 of itself, which is less than a half for every n
-- below 2^22: so n is the whole number nearest to the quotient.
-- L stands for 2^149, since `omega` takes no number of more than 38 digits.
use Rattle.std.specs.Prelude.{ℕ, ◌+◌, ◌*◌, ◌^◌, ◌≤◌, ◌<◌}
use Rattle.lossless.specs.Bounds.{greatest, range}

-- "scale factors whose magnitude lies from 2^−30 to 2^30", and a count as far as the reason holds
pub record Given (n a b L : ℕ) : Type 0 where
  pub count : n ≤ greatest
  pub above : 0 < b
  pub least : b ≤ range * a
  pub most : a ≤ range * b
  pub fine : 2 ^ 53 ≤ L

-- two roundings, each of one part in 2^24: 2 / 2^24 + 1 / 2^48, in parts of 2^48
abbrev pub twice : ℕ
twice = 2 ^ 25 + 1
