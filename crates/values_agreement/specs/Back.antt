-- Values of counts that were accepted, within the bounds: the counts of these values, in the array that they were left in, are the counts
-- again. For records and for the calls of the static library alike.
use Rattle.std.specs.Prelude.{◌≡◌, refl, List, Bool, true, false, ℕ, ◌*◌, ◌≤◌, ◌<◌, ltb, ℤ, length, take, drop, Float}
use Rattle.std.proofs.Common.{ap, ◌∙◌, mul-zero, arith, ltb-false, le-ltb}
use Rattle.definition.specs.Limits.{max_channels, no_room, too_many_channels}
use Rattle.definition.specs.Answers.{Answer, accepted, refuse, over}
use Rattle.definition.specs.Scaling.{values_of, values_answer, counts_of_values}
use Rattle.definition.specs.Flat.{number_of}
use Rattle.definition.specs.Over.{over_start, over_length}
use Rattle.lossless.specs.Bounds.{AllWithin}
use Rattle.lossless.proofs.Samples.{length-values_of, samples_lossless}

-- what is accepted, with arrays of a counts and b values
pub record Fitting (n no_asdu a b : ℕ) : Type 0 where
  pub channels : n ≤ max_channels
  pub counts : no_asdu * n ≤ a
  pub values : no_asdu * n ≤ b

pub fit_values : (n no_asdu a b : ℕ) → Fitting n no_asdu a b → values_answer n no_asdu a b ≡ accepted (no_asdu * n)
unfolding values_answer
fit_values n no_asdu a b f = rw (le-ltb max_channels n f.channels, le-ltb a (no_asdu * n) f.counts, le-ltb b (no_asdu * n) f.values) refl

-- an answer of the number 0 is none of the refusals
passes : {A : Type 0} (t : Bool) (k : ℕ) (rest : Answer A) → 0 < k → number_of (refuse t k rest) ≡ 0 → (t ≡ false) × (number_of rest ≡ 0)
passes true k rest h e = absurd (omega arith)
passes false k rest h e = (refl, e)

pub values_answered : (n no_asdu a b : ℕ) → number_of (values_answer n no_asdu a b) ≡ 0 → Fitting n no_asdu a b
unfolding values_answer
values_answered n no_asdu a b e =
    let p1 = passes (ltb max_channels n) too_many_channels _ (omega arith) e in
    let p2 = passes (ltb a (no_asdu * n)) no_room _ (omega arith) p1.1 in
    let p3 = passes (ltb b (no_asdu * n)) no_room _ (omega arith) p2.1 in
    record { channels = ltb-false max_channels n p1.0; counts = ltb-false a (no_asdu * n) p2.0; values = ltb-false b (no_asdu * n) p3.0 }

module _ (n no_asdu : ℕ) (scales : List Float) (cs : List ℤ) (old : List Float) where
  -- what the values are left as
  abbrev pub scaled : List Float
  scaled = over old 0 (values_of n scales cs (no_asdu * n))

  module _ (fit : Fitting n no_asdu (length cs) (length old)) where
    pub length_scaled : length scaled ≡ length old
    length_scaled = over_length old 0 (values_of n scales cs (no_asdu * n)) (omega (arith, length-values_of n scales cs (no_asdu * n), fit.values))

    pub counts_back : AllWithin n scales cs (no_asdu * n) → counts_of_values n scales scaled (no_asdu * n) ≡ accepted (take (no_asdu * n) cs)
    counts_back within =
        rw (over_start old (values_of n scales cs (no_asdu * n)))
        (samples_lossless n scales cs (no_asdu * n) (drop (length (values_of n scales cs (no_asdu * n))) old) (λ z. ap (λ (i : ℕ). no_asdu * i) z ∙ mul-zero no_asdu) fit.counts within)
