-- Equal flat descriptions: numbers k, octets o, counts cs and quality words qs, and another four arrays, that say the same of all
-- that counts. Numbers behind a mark of 0, Length, spare octets, and what lies past noASDU don't count.
use Rattle.std.specs.Prelude.{◌≡◌, List, ℕ, zero, suc, ◌+◌, ◌*◌, take, drop, ℤ, leb}
use Rattle.definition.specs.Limits.{max_text}
use Rattle.definition.specs.Flat.{head_numbers, asdu_numbers, head_octets, asdu_octets, nth, given}

-- "every ASDU's fields": "an optional field absent in both, or present in both with the same value or the same length and octets".
-- k and o are the numbers and the octets from the ASDU's first on
pub record SameFlatAsdu (k o k' o' : List ℕ) : Type 0 where
  pub sv_id : take (nth k 0) o ≡ take (nth k' 0) o'
  pub dat_set : given (nth k 1) (take (nth k 2) (drop max_text o)) ≡ given (nth k' 1) (take (nth k' 2) (drop max_text o'))
  pub smp_cnt : nth k 3 ≡ nth k' 3
  pub conf_rev : nth k 4 ≡ nth k' 4
  pub refr_tm : given (nth k 5) (take 8 (drop (max_text + max_text) o)) ≡ given (nth k' 5) (take 8 (drop (max_text + max_text) o'))
  pub smp_synch : nth k 6 ≡ nth k' 6
  pub smp_rate : given (nth k 7) (nth k 8) ≡ given (nth k' 7) (nth k' 8)
  pub smp_mod : given (nth k 9) (nth k 10) ≡ given (nth k' 9) (nth k' 10)
  pub gm_identity : given (nth k 11) (take 8 (drop (max_text + max_text + 8) o)) ≡ given (nth k' 11) (take 8 (drop (max_text + max_text + 8) o'))

-- m ASDUs, one by one
unfoldable pub SameFlatAsdus : ℕ → List ℕ → List ℕ → List ℕ → List ℕ → Type 0
SameFlatAsdus zero k o k' o' = Unit {0}
SameFlatAsdus (suc m) k o k' o' = SameFlatAsdu k o k' o' × SameFlatAsdus m (drop asdu_numbers k) (drop asdu_octets o) (drop asdu_numbers k') (drop asdu_octets o')

-- "Two descriptions are equal when their channel number, addresses, VLAN, EtherType, APPID, simulation mark, security, noASDU, and
-- every ASDU's fields, counts and quality words are"; "Array elements past noASDU × channels don't count"
pub record SameFlat (n : ℕ) (k o : List ℕ) (cs : List ℤ) (qs : List ℕ) (k' o' : List ℕ) (cs' : List ℤ) (qs' : List ℕ) : Type 0 where
  pub destination : take 6 o ≡ take 6 o'
  pub source : take 6 (drop 6 o) ≡ take 6 (drop 6 o')
  pub vlan : given {A = ℕ × ℕ} (nth k 0) (nth k 1, nth k 2) ≡ given (nth k' 0) (nth k' 1, nth k' 2)
  pub ether_type : nth k 3 ≡ nth k' 3
  pub appid : nth k 4 ≡ nth k' 4
  pub simulation : leb 1 (nth k 6) ≡ leb 1 (nth k' 6)
  pub security : given (nth k 7) (take (nth k 8) (drop 12 o)) ≡ given (nth k' 7) (take (nth k' 8) (drop 12 o'))
  pub no_asdu : nth k 9 ≡ nth k' 9
  pub asdus : SameFlatAsdus (nth k 9) (drop head_numbers k) (drop head_octets o) (drop head_numbers k') (drop head_octets o')
  pub counts : take (nth k 9 * n) cs ≡ take (nth k 9 * n) cs'
  pub qualities : take (nth k 9 * n) qs ≡ take (nth k 9 * n) qs'
