-- Laws: the word of a quality and the octets of a time quality and a timestamp are read back as what they were made of, and
-- what is read from a word or from octets makes them again. The bits go by the laws of Bits, each proved once over the place.
use Rattle.std.specs.Prelude.{◌≡◌, refl, List, [], ◌∷◌, ◌++◌, Bool, true, false, ℕ, zero, suc, ◌+◌, ◌*◌, ◌/◌, ◌%◌, ◌^◌, ◌<◌, ◌≤◌, length, get_or, take, drop, eqb}
use Rattle.std.proofs.Common.{sym, ap, ◌∙◌, mod-eq_of_lt, arith, length-drop, take-append-drop, drop_of_length-le, drop-cons, drop-drop, take-suc, get_or-drop, eqb-true, eq-eqb}
use Rattle.std.proofs.Math.Nat.{mod-mod}
use Rattle.std.proofs.Math.Arith.{digits_div, digits_mod}
use Rattle.definition.specs.Limits.{quality_limit}
use Rattle.definition.specs.Octets.{octets}
use Rattle.definition.specs.Frame.{Bytes}
use Rattle.definition.specs.Read.{be_at}
use Rattle.types.specs.BitLaws.{with_bits, bits_from, and_none, low_bits, bits_below, bits_apart, bits_zero}
use Rattle.types.specs.Quality.{validity_of, validity_number, quality_of, word_of, is_good, good}
use Rattle.types.specs.Time.{accuracy_size, fraction_size, time_quality_of, octet_of, timestamp_of, timestamp_octets, nanoseconds_of}
use Rattle.types.specs.declared.enumerations.Validity.{Validity}
use Rattle.types.specs.declared.enumerations.Validity.TheVariants.{Good, Invalid, Reserved, Questionable}
use Rattle.types.specs.declared.types.Quality.{Quality}
use Rattle.types.specs.declared.types.TimeQuality.{TimeQuality}
use Rattle.types.specs.declared.types.Timestamp.{Timestamp}

-- ---- validity

-- a validity and its number determine each other
pub validity_number_lem : (v : Validity) → validity_of (validity_number v) ≡ v
unfolding validity_of
validity_number_lem Good = refl
validity_number_lem Invalid = refl
validity_number_lem Reserved = refl
validity_number_lem Questionable = refl

pub number_validity : (n : ℕ) → n < 4 → validity_number (validity_of n) ≡ n
unfolding validity_of
number_validity zero h = refl
number_validity (suc zero) h = refl
number_validity (suc (suc zero)) h = refl
number_validity (suc (suc (suc zero))) h = refl
number_validity (suc (suc (suc (suc n)))) h = omega arith

pub number_below : (v : Validity) → validity_number v < 4
number_below Good = omega arith
number_below Invalid = omega arith
number_below Reserved = omega arith
number_below Questionable = omega arith

good_number : (v : Validity) → is_good v ≡ eqb (validity_number v) 0
good_number Good = refl
good_number Invalid = refl
good_number Reserved = refl
good_number Questionable = refl

-- ---- quality

-- the flags, from bit 2 on
unfoldable flags_of : Quality → List Bool
flags_of q =
    q.overflow
    ∷ q.out_of_range
    ∷ q.bad_reference
    ∷ q.oscillatory
    ∷ q.failure
    ∷ q.old_data
    ∷ q.inconsistent
    ∷ q.inaccurate
    ∷ q.source_substituted
    ∷ q.test
    ∷ q.operator_blocked
    ∷ []

-- the quality of a validity and the flags
unfoldable of_flags : Validity → List Bool → Quality
of_flags v l = record {
  validity = v;
  overflow = get_or l 0 false;
  out_of_range = get_or l 1 false;
  bad_reference = get_or l 2 false;
  oscillatory = get_or l 3 false;
  failure = get_or l 4 false;
  old_data = get_or l 5 false;
  inconsistent = get_or l 6 false;
  inaccurate = get_or l 7 false;
  source_substituted = get_or l 8 false;
  test = get_or l 9 false;
  operator_blocked = get_or l 10 false;
}

flags_back : (q : Quality) → of_flags q.validity (flags_of q) ≡ q
unfolding of_flags flags_of
flags_back q = refl

word_bits : (q : Quality) → word_of q ≡ with_bits (validity_number q.validity) 2 (flags_of q)
unfolding with_bits flags_of
word_bits q = refl

word_flags : (w : ℕ) → flags_of (quality_of w) ≡ bits_from 2 11 w
unfolding flags_of quality_of bits_from
word_flags w = refl

-- the word of a word's quality is what reading hands back of it: "from_sv drops bits 13 to 31, and so does reading"
pub word_quality : (w : ℕ) → word_of (quality_of w) ≡ w % quality_limit
unfolding quality_of
word_quality w = word_bits (quality_of w) ∙ rw (number_validity (w % 4) (omega arith), word_flags w) (low_bits 11 2 w)

-- the word of a quality is within the limit
pub word_below : (q : Quality) → word_of q < quality_limit
unfolding flags_of
word_below q = rw (word_bits q) (bits_below (flags_of q) 2 (validity_number q.validity) (number_below q.validity))

-- two qualities with one word are equal
pub same_word : (p q : Quality) → word_of p ≡ word_of q → p ≡ q
unfolding flags_of
same_word p q e =
    let s = bits_apart (flags_of p) (flags_of q) 2 (validity_number p.validity) (validity_number q.validity) refl (number_below p.validity) (number_below q.validity) (sym (word_bits p) ∙ e ∙ word_bits q) in
    let v : p.validity ≡ q.validity = sym (validity_number_lem p.validity) ∙ ap validity_of s.0 ∙ validity_number_lem q.validity in
    sym (flags_back p) ∙ rw (v, s.1) (flags_back q)

-- the quality of a quality's word is the quality
pub quality_word : (q : Quality) → quality_of (word_of q) ≡ q
quality_word q = same_word (quality_of (word_of q)) q (word_quality (word_of q) ∙ mod-eq_of_lt (word_below q))

-- the test of each field is the test of the word
pub good_word : (q : Quality) → good q ≡ eqb (word_of q) 0
unfolding good flags_of and_none
good_word q = rw (word_bits q, bits_zero (flags_of q) 2 (validity_number q.validity), ← good_number q.validity)

-- good exactly where all bits are 0
pub good_exactly : (q : Quality) → (good q ≡ true → word_of q ≡ 0) × (word_of q ≡ 0 → good q ≡ true)
good_exactly q = (λ g. eqb-true (word_of q) 0 (sym (good_word q) ∙ g), λ e. good_word q ∙ eq-eqb (word_of q) 0 e)

-- of a word: good exactly where the bits within the limit are 0
pub good_of_word : (w : ℕ) → (good (quality_of w) ≡ true → w % quality_limit ≡ 0) × (w % quality_limit ≡ 0 → good (quality_of w) ≡ true)
good_of_word w =
    let e = word_quality w in
    let g = good_exactly (quality_of w) in
    (λ h. sym e ∙ g.0 h, λ h. g.1 (e ∙ h))

-- ---- time quality

-- what an octet carries of a time quality: the low five bits of its time accuracy, and the rest
abbrev pub sent_quality : TimeQuality → TimeQuality
sent_quality t = record {
  leap_second_known = t.leap_second_known;
  clock_failure = t.clock_failure;
  clock_not_synchronized = t.clock_not_synchronized;
  time_accuracy = t.time_accuracy % 2 ^ accuracy_size;
}

-- the flags, from bit 5 on
unfoldable time_flags : TimeQuality → List Bool
time_flags t = t.clock_not_synchronized ∷ t.clock_failure ∷ t.leap_second_known ∷ []

octet_bits : (t : TimeQuality) → octet_of t ≡ with_bits (t.time_accuracy % 2 ^ accuracy_size) 5 (time_flags t)
unfolding with_bits time_flags
octet_bits t = refl

octet_flags : (b : ℕ) → time_flags (time_quality_of b) ≡ bits_from 5 3 b
unfolding time_flags bits_from
octet_flags b = refl

octet_low : (b : ℕ) → octet_of (time_quality_of b) ≡ b % 256
octet_low b = octet_bits (time_quality_of b) ∙ rw (mod-mod b 32, octet_flags b) (low_bits 3 5 b)

-- the octet of an octet's time quality is the octet
pub octet_time : (b : ℕ) → b < 256 → octet_of (time_quality_of b) ≡ b
octet_time b h = octet_low b ∙ mod-eq_of_lt h

-- the octet of a time quality is an octet
pub octet_below : (t : TimeQuality) → octet_of t < 256
unfolding time_flags
octet_below t = rw (octet_bits t) (bits_below (time_flags t) 5 (t.time_accuracy % 32) (omega arith))

-- two time qualities with one octet differ at most in bits that it does not carry
pub same_octet : (s t : TimeQuality) → octet_of s ≡ octet_of t → sent_quality s ≡ sent_quality t
unfolding time_flags
same_octet s t e =
    let a = bits_apart (time_flags s) (time_flags t) 5 (s.time_accuracy % 32) (t.time_accuracy % 32) refl (omega arith) (omega arith) (sym (octet_bits s) ∙ e ∙ octet_bits t) in
    cc

-- the time quality of a time quality's octet is what the octet carries of it
pub time_octet : (t : TimeQuality) → time_quality_of (octet_of t) ≡ sent_quality t
time_octet t =
    let b = octet_of t in
    let e : sent_quality (time_quality_of b) ≡ time_quality_of b = rw (mod-mod b 32) in
    sym e ∙ same_octet (time_quality_of b) t (octet_time b (octet_below t))

-- all of it, where its time accuracy has five bits
pub time_octet_all : (t : TimeQuality) → t.time_accuracy < 2 ^ accuracy_size → time_quality_of (octet_of t) ≡ t
time_octet_all t h = time_octet t ∙ rw (mod-eq_of_lt h)

-- ---- timestamp

-- the octets of the number that n octets make are those octets
pub octets_be : (n : ℕ) (s : List ℕ) (at : ℕ) → Bytes s → at + n ≤ length s → octets n (be_at s at n) ≡ take n (drop at s)
unfolding octets be_at
octets_be zero s at o h = refl
octets_be (suc n) s at o h =
    let x = get_or s (at + n) 0 in
    let b = be_at s at n in
    let d : (b * 256 + x) / 256 ≡ b = digits_div b (o (at + n)) in
    let m : (b * 256 + x) % 256 ≡ x = digits_mod b (o (at + n)) in
    let i : octets n b ≡ take n (drop at s) = octets_be n s at o (omega arith) in
    let l : n < length (drop at s) = omega (arith, length-drop at s) in
    rw (d, m, i, take-suc (drop at s) n 0 l, get_or-drop)

-- eight octets are four, three and one
parts : (s : List ℕ) → length s ≡ 8 → take 4 (drop 0 s) ++ (take 3 (drop 4 s) ++ (get_or s 7 0 ∷ [])) ≡ s
parts s l =
    let n : drop 8 s ≡ [] = drop_of_length-le s {i = 8} (omega arith) in
    let last : get_or s 7 0 ∷ [] ≡ drop 7 s = sym (drop-cons s 7 0 (omega arith) ∙ ap (λ (r : List ℕ). get_or s 7 0 ∷ r) n) in
    let rest : take 3 (drop 4 s) ++ drop 7 s ≡ drop 4 s = ap (λ (r : List ℕ). take 3 (drop 4 s) ++ r) (sym (drop-drop 3 4 s)) ∙ take-append-drop 3 (drop 4 s) in
    ap (λ (r : List ℕ). take 4 s ++ (take 3 (drop 4 s) ++ r)) last ∙ ap (λ (r : List ℕ). take 4 s ++ r) rest ∙ take-append-drop 4 s

-- the octets of the timestamp of eight octets are those octets
pub octets_timestamp : (s : List ℕ) → length s ≡ 8 → Bytes s → timestamp_octets (timestamp_of s) ≡ s
unfolding timestamp_octets timestamp_of
octets_timestamp s l o =
    rw (octets_be 4 s 0 o (omega arith), octets_be 3 s 4 o (omega arith), octet_time (get_or s 7 0) (o 7)) (parts s l)

-- what eight octets carry of a timestamp: 32 bits of seconds, 24 of the fraction, and of the time quality what its octet carries
abbrev pub sent_timestamp : Timestamp → Timestamp
sent_timestamp t = record {
  seconds = t.seconds % 2 ^ 32;
  fraction = t.fraction % 2 ^ fraction_size;
  quality = sent_quality t.quality;
}

-- the timestamp of a timestamp's octets is what they carry of it
pub timestamp_octets_lem : (t : Timestamp) → timestamp_of (timestamp_octets t) ≡ sent_timestamp t
unfolding timestamp_of timestamp_octets octets be_at
timestamp_octets_lem t =
    let a : be_at (timestamp_octets t) 0 4 ≡ t.seconds % 2 ^ 32 = omega arith in
    let b : be_at (timestamp_octets t) 4 3 ≡ t.fraction % 2 ^ 24 = omega arith in
    rw (a, b, time_octet t.quality)

-- all of it, where its fields have the bits that are sent
pub timestamp_octets_all : (t : Timestamp) → t.seconds < 2 ^ 32 → t.fraction < 2 ^ fraction_size → t.quality.time_accuracy < 2 ^ accuracy_size → timestamp_of (timestamp_octets t) ≡ t
timestamp_octets_all t s f a = timestamp_octets_lem t ∙ rw (mod-eq_of_lt s, mod-eq_of_lt f, mod-eq_of_lt a)

-- ---- nanoseconds

-- document 01, "Fraction 1 is 59 nanoseconds"
pub nanoseconds_one : nanoseconds_of 1 ≡ 59
nanoseconds_one = refl

-- a fraction is less than a second
pub nanoseconds_below : (f : ℕ) → nanoseconds_of f < 1000000000
nanoseconds_below f = omega arith
