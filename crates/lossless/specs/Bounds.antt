-- The counts and scale factors of which it is proved that reading the value and writing it returns the count: definitions only.
use Rattle.std.specs.Prelude.{List, ℕ, ◌*◌, ◌^◌, ◌≤◌, ◌<◌, ℤ, pos, nat_abs, get_or, Float}
use Rattle.std.specs.Float.{nan, inf, fin}
use Rattle.std.specs.Float.Ieee.{up, down}

-- "counts from −2,097,152 to 2,097,152"
abbrev pub requested : ℕ
requested = 2097152

-- the greatest magnitude for which the reason holds, 2^22 − 1
abbrev pub greatest : ℕ
greatest = 4194303

-- a count of at most this magnitude
abbrev pub CountWithin : ℕ → ℤ → Type 0
CountWithin most c = nat_abs c ≤ most

-- "scale factors whose magnitude lies from 2^−30 to 2^30": from 1 / range to range
abbrev pub range : ℕ
range = 2 ^ 30

-- of either sign: the magnitude of `fin sign m e` is m × 2^e, the fraction m × up e / down e
abbrev pub ScaleWithin : Float → Type 0
ScaleWithin nan = ⊥
ScaleWithin (inf sign) = ⊥
ScaleWithin (fin sign m e) = (down e ≤ range * (m * up e)) × (m * up e ≤ range * down e)

-- the first m counts, and the scale factors of n channels
pub record AllWithin (n : ℕ) (scales : List Float) (counts : List ℤ) (m : ℕ) : Type 0 where
  pub each_count : (k : ℕ) → k < m → CountWithin greatest (get_or counts k (pos 0))
  pub each_scale : (j : ℕ) → j < n → ScaleWithin (get_or scales j nan)
