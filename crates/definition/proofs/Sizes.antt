-- "smv_size equals the octets written; it takes no samples": the sizes of a description are those of the one with every count and
-- quality word 0, and the quality words are all that a writer refuses besides.
use Rattle.std.specs.Prelude.{◌≡◌, refl, Bool, true, false, ℕ, zero, suc, ◌+◌, ◌*◌, length, take, drop, replicate, ℤ, pos}
use Rattle.std.proofs.Common.{sym, ap, ◌∙◌, arith, length-append, take_at, drop_at}
use mathlib.Core.List.{List, [], ◌∷◌, ◌++◌, map, zip, zip_with}
use Rattle.std.proofs.lemmas.List.{length-map, length-replicate, replicate-append-replicate}
use Rattle.definition.specs.Octets.{octets, length_octets, tlv}
use Rattle.definition.proofs.OctetLaws.{length-octets}
use Rattle.definition.specs.Frame.{Form, Asdu, Description, samples_octets, word, content_octets, asdus_octets, pdu_content, pdu_octets, frame_octets, and, all, asdu_fits, fits, writable}
use Rattle.definition.specs.Answers.{qualities_of, all_qualities}
use Rattle.definition.specs.Tests.{and_assoc, and_true, all_both}
use Rattle.definition.specs.Sizes.{quality_fits, zero_sample, zeroed, zeroed_asdu}

tlv_length : (tag : ℕ) (x y : List ℕ) → length x ≡ length y → length (tlv tag x) ≡ length (tlv tag y)
unfolding tlv
tlv_length tag x y e = rw (length-append (tag ∷ length_octets (length x)) x, length-append (tag ∷ length_octets (length y)) y, e)

samples-length : (l : List (ℤ × ℕ)) → length (samples_octets l) ≡ length l * 8
unfolding samples_octets
samples-length [] = omega arith
samples-length (x ∷ l) =
    length-append (octets 4 (word x.0)) (octets 4 x.1 ++ samples_octets l)
    ∙ omega (arith, length-append (octets 4 x.1) (samples_octets l), length-octets 4 (word x.0), length-octets 4 x.1, samples-length l)

content_length : (form : Form) (a : Asdu) → length (content_octets form (zeroed_asdu a)) ≡ length (content_octets form a)
unfolding content_octets zeroed_asdu
content_length form a =
    let z = replicate (length a.samples) zero_sample in
    let e : length z ≡ length a.samples = length-replicate (length a.samples) zero_sample in
    let s : length (samples_octets z) ≡ length (samples_octets a.samples) = samples-length z ∙ rw e (sym (samples-length a.samples)) in
    simp (length-append, tlv_length 0x87 (samples_octets z) (samples_octets a.samples) s)

asdus_length : (form : Form) (l : List Asdu) → length (asdus_octets form (map zeroed_asdu l)) ≡ length (asdus_octets form l)
unfolding asdus_octets
asdus_length form [] = refl
asdus_length form (a ∷ l) =
    let x : length (tlv 0x30 (content_octets form (zeroed_asdu a))) ≡ length (tlv 0x30 (content_octets form a)) = tlv_length 0x30 _ _ (content_length form a) in
    simp (length-append, x, asdus_length form l)

pub pdu_length : (form : Form) (d : Description) → length (pdu_octets form (zeroed d)) ≡ length (pdu_octets form d)
unfolding pdu_octets pdu_content zeroed
pdu_length form d =
    let a : length (tlv 0xA2 (asdus_octets form (map zeroed_asdu d.asdus))) ≡ length (tlv 0xA2 (asdus_octets form d.asdus)) = tlv_length 0xA2 _ _ (asdus_length form d.asdus) in
    tlv_length 0x60 _ _ (simp (length-append, length-map, a))

pub frame_length : (form : Form) (d : Description) → length (frame_octets form (zeroed d)) ≡ length (frame_octets form d)
unfolding frame_octets zeroed
frame_length form d = let e = pdu_length form d in simp (length-append, length-octets, e)

-- tests in another order
and_swap : (a b c : Bool) → and (and a b) c ≡ and (and a c) b
unfolding and
and_swap true true true = refl
and_swap true true false = refl
and_swap true false true = refl
and_swap true false false = refl
and_swap false b c = refl

all_qualities_lem : (l : List (ℤ × ℕ)) → all (λ (x : ℤ × ℕ). quality_fits x.1) l ≡ all quality_fits (qualities_of l)
unfolding all qualities_of
all_qualities_lem [] = refl
all_qualities_lem (x ∷ l) = rw (all_qualities_lem l)

all_zeros : (m : ℕ) → all (λ (x : ℤ × ℕ). quality_fits x.1) (replicate m zero_sample) ≡ true
unfolding all and
all_zeros zero = refl
all_zeros (suc m) = all_zeros m

asdu_fits_lem : (a : Asdu) → asdu_fits a ≡ and (asdu_fits (zeroed_asdu a)) (all quality_fits (qualities_of a.samples))
unfolding asdu_fits zeroed_asdu
asdu_fits_lem a = rw (← all_qualities_lem a.samples, all_zeros (length a.samples), and_true) (and_assoc _ _ _)

asdus_fit : (l : List Asdu) → all asdu_fits l ≡ and (all asdu_fits (map zeroed_asdu l)) (all quality_fits (all_qualities l))
unfolding all all_qualities
asdus_fit [] = sym (and_true true)
asdus_fit (a ∷ l) =
    let z = asdu_fits (zeroed_asdu a) in
    let q = all quality_fits (qualities_of a.samples) in
    let y = all asdu_fits (map zeroed_asdu l) in
    let turn : and (and z q) (and y (all quality_fits (all_qualities l))) ≡ and (and z y) (and q (all quality_fits (all_qualities l)))
    = and_assoc (and z q) y _ ∙ rw (and_swap z q y) (sym (and_assoc (and z y) q _)) in
    rw (asdu_fits_lem a, asdus_fit l, all_both quality_fits (qualities_of a.samples) (all_qualities l)) turn

-- 9 is refused for the description without its samples, or for a quality word
pub fits_is : (d : Description) → fits d ≡ and (fits (zeroed d)) (all quality_fits (all_qualities d.asdus))
unfolding fits zeroed
fits_is d = rw (length-map d.asdus zeroed_asdu, asdus_fit d.asdus) (last _ _ _ _ _)
  where
    last : (a b c q e : Bool) → and a (and b (and (and c q) e)) ≡ and (and a (and b (and c e))) q
    last a b c q e = rw (and_swap c q e) (rw (and_assoc b (and c e) q, and_assoc a (and b (and c e)) q))

-- with quality words that are not refused it is written where the other is, in as many octets
pub writable_is : (form : Form) (d : Description) → writable form d ≡ and (writable form (zeroed d)) (all quality_fits (all_qualities d.asdus))
unfolding writable
writable_is form d = rw (fits_is d, pdu_length form d) (and_swap _ _ _)

zip_zeros : (n : ℕ) → zip (replicate n (pos 0)) (replicate n 0) ≡ replicate n zero_sample
unfolding zip zip_with
zip_zeros zero = refl
zip_zeros (suc n) = ap (λ (l : List (ℤ × ℕ)). zero_sample ∷ l) (zip_zeros n)

-- the first n of n + m × n, and the rest
first_of : {A : Type 0} (x : A) (m n : ℕ) → replicate (suc m * n) x ≡ replicate n x ++ replicate (m * n) x
first_of x m n = let e : suc m * n ≡ n + m * n = omega arith in rw e (sym (replicate-append-replicate n (m * n) x))

pub first_zeros : (m n : ℕ) → zip (take n (replicate (suc m * n) (pos 0))) (take n (replicate (suc m * n) 0)) ≡ replicate n zero_sample
first_zeros m n =
    rw (
      first_of (pos 0) m n,
      first_of {A = ℕ} 0 m n,
      take_at (replicate n (pos 0)) (replicate (m * n) (pos 0)) n (length-replicate n (pos 0)),
      take_at {A = ℕ} (replicate n 0) (replicate (m * n) 0) n (length-replicate {A = ℕ} n 0),
    )
    (zip_zeros n)

pub rest_zeros : {A : Type 0} (x : A) (m n : ℕ) → drop n (replicate (suc m * n) x) ≡ replicate (m * n) x
rest_zeros x m n = rw (first_of x m n) (drop_at (replicate n x) (replicate (m * n) x) n (length-replicate n x))
