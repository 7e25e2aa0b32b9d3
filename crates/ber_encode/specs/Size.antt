-- How many octets lengths and elements are written in, and the cases of a length.
use Rattle.std.specs.Prelude.{◌≡◌, List, ◌∷◌, ◌++◌, cond, ◌⊎◌, ℕ, ◌+◌, ◌≤◌, ◌<◌, length, ltb}
use Rattle.std.proofs.Common.{sym, ap, ◌∙◌, inl, inr, arith, length-append, lt-ltb, le-ltb}
use Rattle.definition.specs.Octets.{octets, length_more, length_octets, uint_size, uint_octets, tlv}
use Rattle.definition.proofs.OctetLaws.{lt_or_ge, length_short, length_long, length-octets, length_more-le, length-uint_octets}

-- the number of length octets of n
unfoldable pub length_size : ℕ → ℕ
length_size n = cond (ltb n 128) 1 (1 + length_more n)

pub size_short : (n : ℕ) → n < 128 → length_size n ≡ 1
unfolding length_size
size_short n h = simp (lt-ltb n 128 h)

pub size_long : (n : ℕ) → 128 ≤ n → length_size n ≡ 1 + length_more n
unfolding length_size
size_long n h = simp (le-ltb n 128 h)

pub length-length_octets : (n : ℕ) → length (length_octets n) ≡ length_size n
length-length_octets n = go (lt_or_ge n 128)
  where
    go : (n < 128) ⊎ (128 ≤ n) → length (length_octets n) ≡ length_size n
    go (inl h) = ap length (length_short n h) ∙ sym (size_short n h)
    go (inr h) = omega (arith, ap length (length_long n h), length-octets (length_more n) n, size_long n h)

pub length_size-le : (n : ℕ) → (1 ≤ length_size n) × (length_size n ≤ 4)
length_size-le n = go (lt_or_ge n 128)
  where
    go : (n < 128) ⊎ (128 ≤ n) → (1 ≤ length_size n) × (length_size n ≤ 4)
    go (inl h) = omega (arith, size_short n h)
    go (inr h) = omega (arith, size_long n h, length_more-le n)

-- a tag and its length octets
pub length_head : (tag n : ℕ) → length (tag ∷ length_octets n) ≡ 1 + length_size n
length_head tag n = omega (arith, length-length_octets n)

-- tag, length and n octets of content
unfoldable pub tlv_size : ℕ → ℕ
tlv_size n = 1 + length_size n + n

pub tlv_size-le : (n : ℕ) → (2 + n ≤ tlv_size n) × (tlv_size n ≤ 5 + n)
unfolding tlv_size
tlv_size-le n = omega (arith, length_size-le n)

pub length_tlv : (tag : ℕ) (content : List ℕ) → length (tlv tag content) ≡ 1 + length_size (length content) + length content
unfolding tlv
length_tlv tag content = simp (length-append, length-length_octets) (omega arith)

pub tlv_size_lem : (tag : ℕ) (content : List ℕ) → length (tlv tag content) ≡ tlv_size (length content)
unfolding tlv_size
tlv_size_lem tag content = length_tlv tag content

-- k octets of a number with their tag, as the writer writes them
pub tlv_number : (tag k v : ℕ) → tlv tag (octets k v) ≡ (tag ∷ length_octets k) ++ octets k v
unfolding tlv
tlv_number tag k v = rw length-octets

pub number_room : (tag k v : ℕ) → length (tlv tag (octets k v)) ≡ 1 + length_size k + k
number_room tag k v = length_tlv tag (octets k v) ∙ rw length-octets

pub uint_room : (tag v : ℕ) → length (tlv tag (uint_octets v)) ≡ 1 + length_size (uint_size v) + uint_size v
unfolding uint_octets
uint_room tag v = number_room tag (uint_size v) v

pub uint_size_lem : (tag v : ℕ) → length (tlv tag (uint_octets v)) ≡ tlv_size (uint_size v)
uint_size_lem tag v = tlv_size_lem tag (uint_octets v) ∙ ap tlv_size (length-uint_octets v)
