-- Results that meet the contracts of the calls, and arrays that are long enough. A flat description is four arrays: numbers k, octets o, counts cs and
-- quality words qs.
use Rattle.std.specs.Prelude.{◌≡◌, List, ℕ, ◌*◌, ◌≤◌, length, ℤ}
use Rattle.definition.specs.Frame.{Form, frame_octets}
use Rattle.definition.specs.Flat.{numbers_for, octets_for, flat_description, flat_read, flat_strict, flat_encode, flat_size, number_of, beside_it}
use Rattle.definition.specs.Calls.{Reads, Writes}

-- hopsickle_write answers r and size, and leaves the buffer old as new
pub record WriteCall (form : Form) (n : ℕ) (k o : List ℕ) (cs : List ℤ) (qs : List ℕ) (old new : List ℕ) (r size : ℕ) : Type 0 where
  pub meets : Writes (flat_encode form n k o cs qs (length old)) (frame_octets form (flat_description n k o cs qs)) old new r size

-- hopsickle_size answers r and size
pub record SizeCall (form : Form) (n : ℕ) (k o : List ℕ) (r size : ℕ) : Type 0 where
  pub meets : (r ≡ number_of (flat_size form n k o)) × (size ≡ beside_it (λ n. n) (flat_size form n k o))

-- hopsickle_read_strict, of the octets s, answers r and place, and leaves the arrays k, o, cs and qs as k', o', cs' and qs'
pub record StrictCall (form : Form) (n : ℕ) (s k k' o o' : List ℕ) (cs cs' : List ℤ) (qs qs' : List ℕ) (r place : ℕ) : Type 0 where
  pub meets : Reads (flat_strict form n (length k) (length o) (length cs) (length qs) s) k k' o o' cs cs' qs qs' r place

-- hopsickle_read likewise
pub record ReadCall (n : ℕ) (s k k' o o' : List ℕ) (cs cs' : List ℤ) (qs qs' : List ℕ) (r place : ℕ) : Type 0 where
  pub meets : Reads (flat_read n (length k) (length o) (length cs) (length qs) s) k k' o o' cs cs' qs qs' r place

-- the arrays have room for m ASDUs of n channels
pub record Room (m n : ℕ) (k o : List ℕ) (cs : List ℤ) (qs : List ℕ) : Type 0 where
  pub numbers : numbers_for m ≤ length k
  pub octets : octets_for m ≤ length o
  pub counts : m * n ≤ length cs
  pub qualities : m * n ≤ length qs
