-- Demand 3 of the calls that people use: whatever results meet the contracts of hopsickle_write, hopsickle_size, hopsickle_read_strict
-- and hopsickle_read, for every content and every length of the arrays. `Lent` and `Octets` say of arrays no more than the types of
-- their elements do: u32, u8, i32, u32, and u8.
use Rattle.std.specs.Prelude.{◌≡◌, List, ℕ, ◌*◌, take, ℤ}
use Rattle.definition.specs.Frame.{Form, length_of}
use Rattle.definition.specs.Answers.{over}
use Rattle.definition.specs.Flat.{numbers_of, octets_of, nth, flat_description}
use Rattle.flat_agreement.specs.Same.{SameFlat}
use Rattle.flat_agreement.specs.Lent.{Lent}
use Rattle.flat_agreement.specs.Calls.{WriteCall}

-- the arrays k₀, o₀, cs₀ and qs₀, of which k', o', cs' and qs' are left, have a description back that was written: equal to the one it
-- was written from, and with zeros where nothing counts
pub record Returned (form : Form) (n : ℕ) (k o : List ℕ) (cs : List ℤ) (qs : List ℕ) (k₀ k' o₀ o' : List ℕ) (cs₀ cs' : List ℤ) (qs₀ qs' : List ℕ) (r beside : ℕ) : Type 0 where
  pub number : r ≡ 0
  pub place : beside ≡ 0
  pub same : SameFlat n k o cs qs k' o' cs' qs'
  pub numbers : k' ≡ over k₀ 0 (numbers_of (flat_description n k o cs qs, length_of form (flat_description n k o cs qs)))
  pub octets : o' ≡ over o₀ 0 (octets_of (flat_description n k o cs qs, length_of form (flat_description n k o cs qs)))
  pub counts : cs' ≡ over cs₀ 0 (take (nth k 9 * n) cs)
  pub qualities : qs' ≡ over qs₀ 0 (take (nth k 9 * n) qs)

-- some flat description of m ASDUs and n channels that hopsickle_write writes as the octets s
pub record IsWritten (form : Form) (n m : ℕ) (s : List ℕ) : Type 0 where
  pub k : List ℕ
  pub o : List ℕ
  pub cs : List ℤ
  pub qs : List ℕ
  pub old : List ℕ
  pub new : List ℕ
  pub size : ℕ
  pub lent : Lent k o cs qs
  pub count : nth k 9 ≡ m
  pub call : WriteCall form n k o cs qs old new 0 size
  pub octets : take size new ≡ s
