-- X.690 as it is written: the octets of a number, of a length, of an unsigned integer, of a tag with its length and content.
use Rattle.std.specs.Prelude.{List, [], ◌∷◌, ◌++◌, cond, ℕ, zero, suc, ◌+◌, ◌/◌, ◌%◌, length, ltb}
use Rattle.definition.specs.Limits.{two_octets}

-- "Multi-octet fields are big-endian": the k low octets of n, highest first
unfoldable pub octets : ℕ → ℕ → List ℕ
octets zero n = []
octets (suc k) n = octets k (n / 256) ++ (n % 256 ∷ [])

-- X.690 8.1.3.5, the long form; "below 256 after 81; below 65,535 two after 82; then three after 83": how many octets follow
unfoldable pub length_more : ℕ → ℕ
length_more n = cond (ltb n 256) 1 (cond (ltb n two_octets) 2 3)

-- X.690 8.1.3, definite form; "Written lengths: below 128 one octet; below 256 after 81; below 65,535 two after 82; then
-- three after 83"
unfoldable pub length_octets : ℕ → List ℕ
length_octets n = cond (ltb n 128) (n ∷ []) ((0x80 + length_more n) ∷ octets (length_more n) n)

-- X.690 8.3; "Written integers are unsigned and shortest, with 00 in front where the first octet would be 80 or more": the
-- number of content octets, of a number of 32 bits
unfoldable pub uint_size : ℕ → ℕ
uint_size n = cond (ltb n 128) 1 (cond (ltb n 32768) 2 (cond (ltb n 8388608) 3 (cond (ltb n 2147483648) 4 5)))

-- and the content octets themselves
unfoldable pub uint_octets : ℕ → List ℕ
uint_octets n = octets (uint_size n) n

-- X.690 8.1.1: identifier octet (the tag), length octets, content octets
unfoldable pub tlv : ℕ → List ℕ → List ℕ
tlv tag content = (tag ∷ length_octets (length content)) ++ content
