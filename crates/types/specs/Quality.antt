-- Quality and the quality word of a sampled value: IEC 61850-7-2, table "Quality", at the bits of IEC 61850-9-2.
use Rattle.std.specs.Prelude.{Bool, true, false, cond, not, ◌&&◌, ℕ, ◌+◌, ◌%◌, eqb}
use Rattle.types.specs.Bits.{bit, weight}
use Rattle.types.specs.declared.enumerations.Validity.{Validity}
use Rattle.types.specs.declared.enumerations.Validity.TheVariants.{Good, Invalid, Reserved, Questionable}
use Rattle.types.specs.declared.types.Quality.{Quality}

-- IEC 61850-7-2, validity: good 0, invalid 1, reserved 2, questionable 3
unfoldable pub validity_of : ℕ → Validity
validity_of n = cond (eqb n 0) Good (cond (eqb n 1) Invalid (cond (eqb n 2) Reserved Questionable))

abbrev pub validity_number : Validity → ℕ
validity_number Good = 0
validity_number Invalid = 1
validity_number Reserved = 2
validity_number Questionable = 3

-- the quality of a word: document 01, "Validity is bits 0 to 1; the eleven flags are bits 2 to 12 in the file's order"
unfoldable pub quality_of : ℕ → Quality
quality_of w = record {
  validity = validity_of (w % 4);
  overflow = bit 2 w;
  out_of_range = bit 3 w;
  bad_reference = bit 4 w;
  oscillatory = bit 5 w;
  failure = bit 6 w;
  old_data = bit 7 w;
  inconsistent = bit 8 w;
  inaccurate = bit 9 w;
  source_substituted = bit 10 w;
  test = bit 11 w;
  operator_blocked = bit 12 w;
}

-- the word of a quality: the same bits, and no other
abbrev pub word_of : Quality → ℕ
word_of q =
    validity_number q.validity
    + weight 2 q.overflow
    + weight 3 q.out_of_range
    + weight 4 q.bad_reference
    + weight 5 q.oscillatory
    + weight 6 q.failure
    + weight 7 q.old_data
    + weight 8 q.inconsistent
    + weight 9 q.inaccurate
    + weight 10 q.source_substituted
    + weight 11 q.test
    + weight 12 q.operator_blocked

abbrev pub is_good : Validity → Bool
is_good Good = true
is_good Invalid = false
is_good Reserved = false
is_good Questionable = false

-- the original's `is_good`: validity is good and no flag is set
unfoldable pub good : Quality → Bool
good q =
    is_good q.validity
    && not q.overflow
    && not q.out_of_range
    && not q.bad_reference
    && not q.oscillatory
    && not q.failure
    && not q.old_data
    && not q.inconsistent
    && not q.inaccurate
    && not q.source_substituted
    && not q.test
    && not q.operator_blocked
