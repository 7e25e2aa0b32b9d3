-- Results that meet the contracts of encode_smv::encode_smv, encode_smv::smv_size, strict_smv::read_strict and decode_smv::read_frame.
-- A description is a header h, a PDU p, counts cs and quality words qs.
use Rattle.std.specs.Prelude.{◌≡◌, List, ℕ, length, ℤ, Result}
use Rattle.definition.specs.Frame.{Form, frame_octets}
use Rattle.definition.specs.Answers.{ordinary_read, strict_read, encode_smv, smv_size, leaves}
use Rattle.rt_services.specs.declared.SavPdu.{SavPdu}
use Rattle.rt_services.specs.declared.EthernetHeader.{EthernetHeader}
use Rattle.rt_services.specs.Describe.{description_of, unsampled_of}
use Rattle.rt_services.specs.declared.Refusal.{Refusal}
use Rattle.rt_services.specs.Reasons.{told}
use Rattle.rt_services.specs.Told.{ReadsFrame}
use Rattle.rt_services.specs.declared.SavRead.{SavRead}

-- the writer answers w, and leaves the buffer old as new
pub record Encodes (form : Form) (n : ℕ) (h : EthernetHeader) (p : SavPdu) (cs : List ℤ) (qs : List ℕ) (old new : List ℕ) (w : Result ℕ Refusal) : Type 0 where
  pub said : told w ≡ encode_smv form n (length cs) (length qs) (length old) (description_of n h p cs qs)
  pub left : new ≡ leaves (encode_smv form n (length cs) (length qs) (length old) (description_of n h p cs qs)) old 0 (frame_octets form (description_of n h p cs qs))

-- the size call answers w
pub record Measures (form : Form) (n : ℕ) (h : EthernetHeader) (p : SavPdu) (w : Result ℕ Refusal) : Type 0 where
  pub said : told w ≡ smv_size form n (unsampled_of n h p)

-- strict reading, of the octets s, answers r, and leaves the arrays cs and qs as cs' and qs'
pub record ReadsStrictly (form : Form) (n : ℕ) (s : List ℕ) (cs cs' : List ℤ) (qs qs' : List ℕ) (r : Result SavRead Refusal) : Type 0 where
  pub meets : ReadsFrame (strict_read form n (length cs) (length qs) s) cs qs r cs' qs'

-- ordinary reading likewise
pub record ReadsOrdinarily (n : ℕ) (s : List ℕ) (cs cs' : List ℤ) (qs qs' : List ℕ) (r : Result SavRead Refusal) : Type 0 where
  pub meets : ReadsFrame (ordinary_read n (length cs) (length qs) s) cs qs r cs' qs'
