-- Laws of the octets of lengths, integers and elements: how many they are.
use Rattle.std.specs.Prelude.{◌≡◌, refl, List, [], ◌∷◌, Bool, true, false, cond, ◌⊎◌, ℕ, zero, suc, ◌+◌, ◌/◌, ◌%◌, ◌≤◌, ◌<◌, length, ltb}
use Rattle.std.proofs.Common.{◌∙◌, inl, inr, arith, length-append, lt-ltb, le-ltb}
use Rattle.std.proofs.Math.Decide.{dec_lt}
use Rattle.definition.specs.Limits.{two_octets}
use Rattle.definition.specs.Octets.{octets, length_more, length_octets, uint_size, uint_octets, tlv}

pub lt_or_ge : (a b : ℕ) → (a < b) ⊎ (b ≤ a)
lt_or_ge a b = go (dec_lt a b)
  where
    go : Dec (a < b) → (a < b) ⊎ (b ≤ a)
    go (yes h) = inl h
    go (no h) = inr (omega arith)

pub length_short : (n : ℕ) → n < 128 → length_octets n ≡ n ∷ []
unfolding length_octets
length_short n h = simp (lt-ltb n 128 h)

pub length_long : (n : ℕ) → 128 ≤ n → length_octets n ≡ (0x80 + length_more n) ∷ octets (length_more n) n
unfolding length_octets
length_long n h = simp (le-ltb n 128 h)

pub length-octets : (k n : ℕ) → length (octets k n) ≡ k
unfolding octets
length-octets zero n = refl
length-octets (suc k) n = length-append (octets k (n / 256)) (n % 256 ∷ []) ∙ simp (length-octets k (n / 256)) (omega arith)

-- a choice of two numbers is from the one to the other
pub choice : (a : Bool) (x y low high : ℕ) → (low ≤ x) × (x ≤ high) → (low ≤ y) × (y ≤ high) → (low ≤ cond a x y) × (cond a x y ≤ high)
choice true x y low high h g = h
choice false x y low high h g = g

pub length_more-le : (n : ℕ) → (1 ≤ length_more n) × (length_more n ≤ 3)
unfolding length_more
length_more-le n = choice (ltb n 256) 1 _ 1 3 (omega arith) (choice (ltb n two_octets) 2 3 1 3 (omega arith) (omega arith))

pub length-uint_octets : (n : ℕ) → length (uint_octets n) ≡ uint_size n
unfolding uint_octets
length-uint_octets n = length-octets (uint_size n) n

pub uint_size-le : (n : ℕ) → (1 ≤ uint_size n) × (uint_size n ≤ 5)
unfolding uint_size
uint_size-le n =
    choice (ltb n 128) 1 _ 1 5 (omega arith)
    (choice (ltb n 32768) 2 _ 1 5 (omega arith)
    (choice (ltb n 8388608) 3 _ 1 5 (omega arith)
    (choice (ltb n 2147483648) 4 5 1 5 (omega arith) (omega arith))))

-- content is shorter than its element
pub tlv_le : (tag : ℕ) (xs : List ℕ) → length xs < length (tlv tag xs)
unfolding tlv
tlv_le tag xs = omega (arith, length-append (tag ∷ length_octets (length xs)) xs)
