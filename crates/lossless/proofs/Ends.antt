-- Where it ends, by examples that are computed: a count past the proved bound and scale factors past theirs for which the count doesn't
-- come back. And scale factors that are within: those of the 9-2LE data set, and the ends.
use Rattle.std.specs.Prelude.{◌≡◌, refl, Bool, false, pos, negsuc}
use Rattle.std.proofs.Common.{lit≤}
use Rattle.std.specs.Float.{fin, binary32}
use Rattle.std.specs.Float.Ieee.{round, mul, div, of_int}
use Rattle.definition.specs.Limits.{value_out_of_range}
use Rattle.definition.specs.Answers.{accepted, refusal}
use Rattle.definition.specs.Scaling.{whole_mag, signed, counted, whole_of, value_of, count_of}
use Rattle.lossless.specs.Bounds.{ScaleWithin}

-- 4,195,329 with the scale factor 16,773,124 / 2^23 (bits 3FFFF004) comes back as 4,195,330: the value is moved up by nearly half a unit,
-- and the quotient is 4,195,329.5
pub a_count_lost : count_of (value_of (pos 4195329) (fin false 4193281 (negsuc 20))) (fin false 4193281 (negsuc 20)) ≡ accepted (pos 4195330)
unfolding value_of count_of whole_of whole_mag counted signed of_int mul div round
a_count_lost = refl

-- 2,097,152 with the scale factor 2^107: the value is an infinity, and is refused
pub too_large : count_of (value_of (pos 2097152) (fin false 1 (pos 107))) (fin false 1 (pos 107)) ≡ refusal value_out_of_range 0
unfolding value_of count_of whole_of of_int mul div round
too_large = refl

-- 1 with the scale factor 0: the quotient is 0 / 0, and its count is 0
pub no_scale_lem : count_of (value_of (pos 1) (fin false 0 (pos 0))) (fin false 0 (pos 0)) ≡ accepted (pos 0)
unfolding value_of count_of whole_of of_int mul div round
no_scale_lem = refl

-- ---- within

current : ScaleWithin (round binary32 false 1 10000)
unfolding round
current = (lit≤ tt, lit≤ tt)

voltage : ScaleWithin (round binary32 false 1 100)
unfolding round
voltage = (lit≤ tt, lit≤ tt)

least : (sign : Bool) → ScaleWithin (fin sign 1 (negsuc 29))
least sign = (lit≤ tt, lit≤ tt)

most : (sign : Bool) → ScaleWithin (fin sign 1 (pos 30))
most sign = (lit≤ tt, lit≤ tt)
