-- Time quality and timestamp: IEC 61850-7-2, tables "TimeQuality" and "TimeStamp".
use Rattle.std.specs.Prelude.{cond, List, [], ◌∷◌, ◌++◌, ℕ, ◌+◌, ◌*◌, ◌/◌, ◌%◌, ◌^◌, get_or, leb, Option, None, Some}
use Rattle.types.specs.Bits.{bit, weight}
use Rattle.definition.specs.Octets.{octets}
use Rattle.definition.specs.Read.{be_at}
use Rattle.types.specs.declared.types.TimeQuality.{TimeQuality}
use Rattle.types.specs.declared.types.Timestamp.{Timestamp}

-- how many bits of a time accuracy, and of a fraction of a second, octets carry (IEC 61850-7-2)
abbrev pub accuracy_size : ℕ
accuracy_size = 5

abbrev pub fraction_size : ℕ
fraction_size = 24

-- the time quality of an octet: from the highest bit down, leap second known, clock failure, clock not synchronized, and
-- five bits of time accuracy
abbrev pub time_quality_of : ℕ → TimeQuality
time_quality_of b = record {
  leap_second_known = bit 7 b;
  clock_failure = bit 6 b;
  clock_not_synchronized = bit 5 b;
  time_accuracy = b % 2 ^ accuracy_size;
}

-- the octet of a time quality: the same bits
abbrev pub octet_of : TimeQuality → ℕ
octet_of t =
    t.time_accuracy % 2 ^ accuracy_size
    + weight 5 t.clock_not_synchronized
    + weight 6 t.clock_failure
    + weight 7 t.leap_second_known

-- the original's `accuracy_bits`: 0 to 25 bits of accuracy; 26 to 30 are invalid and 31 is unspecified, so there is none
abbrev pub accuracy_bits_of : TimeQuality → Option ℕ
accuracy_bits_of t = cond (leb t.time_accuracy 25) (Some t.time_accuracy) None

-- the timestamp of eight octets: four of seconds, three of the fraction, one of time quality
unfoldable pub timestamp_of : List ℕ → Timestamp
timestamp_of s = record {
  seconds = be_at s 0 4;
  fraction = be_at s 4 3;
  quality = time_quality_of (get_or s 7 0);
}

-- the eight octets of a timestamp
unfoldable pub timestamp_octets : Timestamp → List ℕ
timestamp_octets t = octets 4 t.seconds ++ (octets 3 t.fraction ++ (octet_of t.quality ∷ []))

-- document 01, "nanoseconds of a 24-bit fraction f, the whole part of f × 1,000,000,000 / 2^24; of a larger f the low 24
-- bits count"
abbrev pub nanoseconds_of : ℕ → ℕ
nanoseconds_of f = f % 2 ^ fraction_size * 1000000000 / 2 ^ fraction_size
