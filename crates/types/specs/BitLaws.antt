-- Numbers made of bits, with laws over the bit's place.
use Rattle.std.specs.Prelude.{◌≡◌, refl, List, [], ◌∷◌, Bool, true, false, not, ◌&&◌, ℕ, zero, suc, ◌+◌, ◌*◌, ◌/◌, ◌%◌, ◌^◌, ◌<◌, length, eqb}
use Rattle.std.proofs.Common.{sym, ap, ◌∙◌, add-zero, add-suc, suc-add, one-add, arith, pow_pos, ne_eqb}
use Rattle.std.proofs.Math.Bool.{and-true, and-false}
use Rattle.std.proofs.lemmas.Nat.{mod-pow-add}
use Rattle.types.specs.Bits.{bit, weight}

-- n with the bits l added, the first of them as bit k
unfoldable pub with_bits : ℕ → ℕ → List Bool → ℕ
with_bits n k [] = n
with_bits n k (b ∷ l) = with_bits (n + weight k b) (suc k) l

-- m bits of w, from bit k on
unfoldable pub bits_from : ℕ → ℕ → ℕ → List Bool
bits_from k zero w = []
bits_from k (suc m) w = bit k w ∷ bits_from (suc k) m w

-- a and none of the bits l
unfoldable pub and_none : Bool → List Bool → Bool
and_none a [] = a
and_none a (b ∷ l) = and_none (a && not b) l

weight_is : (k x : ℕ) → x < 2 → weight k (eqb x 1) ≡ x * 2 ^ k
weight_is k zero h = omega arith
weight_is k (suc zero) h = omega arith
weight_is k (suc (suc x)) h = omega arith

-- the low k bits of w, and bit k, are the low k + 1 bits
low_more : (k w : ℕ) → w % 2 ^ k + weight k (bit k w) ≡ w % 2 ^ suc k
low_more k w = omega (arith, weight_is k (w / 2 ^ k % 2) (omega arith), rw one-add at (mod-pow-add w 1 k))

-- bits of a number put together again
pub low_bits : (m k w : ℕ) → with_bits (w % 2 ^ k) k (bits_from k m w) ≡ w % 2 ^ (k + m)
unfolding with_bits bits_from
low_bits zero k w = rw add-zero
low_bits (suc m) k w =
    ap (λ (n : ℕ). with_bits n (suc k) (bits_from (suc k) m w)) (low_more k w)
    ∙ rw (add-suc k m, ← suc-add k m) (low_bits m (suc k) w)

weight_below : (k n : ℕ) (b : Bool) → n < 2 ^ k → n + weight k b < 2 ^ suc k
weight_below k n true h = omega arith
weight_below k n false h = omega arith

-- l bits from bit k on, above a number below 2 ^ k, stay below 2 ^ (k + length l)
pub bits_below : (l : List Bool) (k n : ℕ) → n < 2 ^ k → with_bits n k l < 2 ^ (k + length l)
unfolding with_bits
bits_below [] k n h = rw add-zero h
bits_below (b ∷ l) k n h = rw (add-suc k (length l), ← suc-add k (length l)) (bits_below l (suc k) (n + weight k b) (weight_below k n b h))

-- bit k of two numbers below 2 ^ suc k
weight_apart : (k n m : ℕ) (a b : Bool) → n < 2 ^ k → m < 2 ^ k → n + weight k a ≡ m + weight k b → (n ≡ m) × (a ≡ b)
weight_apart k n m true true h g e = (omega arith, refl)
weight_apart k n m true false h g e = (omega arith, let z : ◌≡◌ {A = ℕ} 0 1 = omega arith in ap (λ (i : ℕ). eqb i 1) (sym z))
weight_apart k n m false true h g e = (omega arith, let z : ◌≡◌ {A = ℕ} 0 1 = omega arith in ap (λ (i : ℕ). eqb i 1) z)
weight_apart k n m false false h g e = (omega arith, refl)

-- numbers made of as many bits are equal only where the bits are
pub bits_apart : (l r : List Bool) (k n m : ℕ) → length l ≡ length r → n < 2 ^ k → m < 2 ^ k → with_bits n k l ≡ with_bits m k r → (n ≡ m) × (l ≡ r)
unfolding with_bits
bits_apart [] [] k n m s h g e = (e, refl)
bits_apart [] (b ∷ r) k n m s h g e = (omega arith, let z : ◌≡◌ {A = ℕ} 0 1 = omega arith in cc)
bits_apart (a ∷ l) [] k n m s h g e = (omega arith, let z : ◌≡◌ {A = ℕ} 0 1 = omega arith in cc)
bits_apart (a ∷ l) (b ∷ r) k n m s h g e =
    let i = bits_apart l r (suc k) (n + weight k a) (m + weight k b) (omega arith) (weight_below k n a h) (weight_below k m b g) e in
    let j = weight_apart k n m a b h g i.0 in
    (j.0, cc)

weight_zero : (k n : ℕ) (b : Bool) → eqb (n + weight k b) 0 ≡ (eqb n 0 && not b)
weight_zero k n false = rw (add-zero n) (sym (and-true (eqb n 0)))
weight_zero k n true = ne_eqb (n + 2 ^ k) 0 (λ e. omega (arith, pow_pos k)) ∙ sym (and-false (eqb n 0))

-- a number made of bits is 0 where none is set
pub bits_zero : (l : List Bool) (k n : ℕ) → eqb (with_bits n k l) 0 ≡ and_none (eqb n 0) l
unfolding with_bits and_none
bits_zero [] k n = refl
bits_zero (b ∷ l) k n = rw (← weight_zero k n b) (bits_zero l (suc k) (n + weight k b))
