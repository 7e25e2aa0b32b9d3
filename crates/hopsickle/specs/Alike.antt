-- Calls of hopsickle_read_checked, hopsickle_read and hopsickle_read_strict on one frame, with the same arrays lent: whatever results
-- meet the contract of one, meet that of another. So the numbers, the places and the arrays that are left are the same.
use Rattle.std.specs.Prelude.{◌≡◌, List, ℕ, ◌<◌, length, ℤ}
use Rattle.definition.specs.Limits.{lengths_differ}
use Rattle.definition.specs.Frame.{Description, Form, Octets}
use Rattle.definition.specs.Answers.{Answer}
use Rattle.definition.specs.Flat.{flat_read, flat_strict}
use Rattle.definition.proofs.Numbers.{strict_answered}
use Rattle.fit.specs.Fit.{flat_checked}
use Rattle.fit.proofs.Theorems.{flat_checks, flat_strict_passes}
use Rattle.fit.proofs.Calls as calls
use Rattle.definition.specs.Calls.{Reads}

-- the frame s, n channels, the arrays that are lent, and those that are left; the answer and the place
module _ (n : ℕ) (s k k' o o' : List ℕ) (cs cs' : List ℤ) (qs qs' : List ℕ) (r place : ℕ) where
  -- such results of a reading that answers x
  abbrev Are : Answer (Description × ℕ) → Type 0
  Are x = Reads x k k' o o' cs cs' qs qs' r place

  abbrev ordinary : Answer (Description × ℕ)
  ordinary = flat_read n (length k) (length o) (length cs) (length qs) s

  abbrev checked : Answer (Description × ℕ)
  checked = flat_checked n (length k) (length o) (length cs) (length qs) s

  abbrev strict : Form → Answer (Description × ℕ)
  strict form = flat_strict form n (length k) (length o) (length cs) (length qs) s

  -- What hopsickle_read_checked accepts, or refuses with anything but 13, hopsickle_read answers so.
  pub but_13 : Are checked → (r ≡ lengths_differ → ⊥) → Are ordinary
  but_13 = calls.but_13 Are r (λ x f. f.number) (flat_checks n (length k) (length o) (length cs) (length qs) s)

  -- What hopsickle_read refuses, hopsickle_read_checked refuses so.
  pub refused_alike : Are ordinary → 0 < r → Are checked
  refused_alike = calls.refused_alike Are r (λ x f. f.number) (flat_checks n (length k) (length o) (length cs) (length qs) s)

  -- What hopsickle_read_strict accepts, in either form, hopsickle_read_checked accepts so.
  pub strict_alike : (form : Form) → Octets s → Are (strict form) → r ≡ 0 → Are checked
  strict_alike form bytes =
      calls.accepted_alike Are r (λ x f. f.number) (strict form) checked (strict_answered form n (length k) (length o) (length cs) (length qs) s)
      (flat_strict_passes form n (length k) (length o) (length cs) (length qs) s bytes)
