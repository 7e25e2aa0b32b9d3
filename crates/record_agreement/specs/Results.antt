-- What a call that is accepted says: of the writer, what it takes and what it leaves; of strict reading, what it accepts and that the
-- record and the arrays handed back are taken by the writer.
use Rattle.std.specs.Prelude.{◌≡◌, refl, List, ℕ, ◌+◌, ◌*◌, ◌≤◌, length, take, drop, ℤ, Ok}
use Rattle.std.proofs.Common.{sym, ap, ◌∙◌, arith}
use Rattle.definition.specs.Frame.{Form, Description, frame_octets, Octets, Typed, Accepted}
use Rattle.definition.specs.Answers.{Answer, accepted, refusal, read_as, strict_read, encode_smv, over, leaves, all_counts, all_qualities}
use Rattle.definition.proofs.Agreement.{accepted_is_frame}
use Rattle.definition.specs.Over.{take_over, over_length}
use Rattle.definition.proofs.Samples.{all_counts_lem}
use Rattle.rt_services.specs.declared.SavPdu.{SavPdu}
use Rattle.rt_services.specs.declared.EthernetHeader.{EthernetHeader}
use Rattle.rt_services.specs.Describe.{pdu_record, pdu_in, description_of}
use Rattle.rt_services.specs.Same.{LongEnough}
use Rattle.rt_services.proofs.Laws.{description_held}
use Rattle.rt_services.specs.declared.SavRead.{SavRead}
use Rattle.rt_services.specs.Told.{sav_read}
use Rattle.record_agreement.specs.Widths.{Widths, widths_typed}
use Rattle.record_agreement.specs.Calls.{Encodes, ReadsStrictly}
use Rattle.record_agreement.specs.Accepted.{Taken, encode_taken, described_count}

-- what the writer takes, and what it leaves at the start of the buffer
pub record Encoded (form : Form) (n : ℕ) (h : EthernetHeader) (p : SavPdu) (cs : List ℤ) (qs : List ℕ) (old new : List ℕ) (size : ℕ) : Type 0 where
  pub taken : Taken form n (length cs) (length qs) (length old) (description_of n h p cs qs)
  pub answer : encode_smv form n (length cs) (length qs) (length old) (description_of n h p cs qs) ≡ accepted size
  pub long : LongEnough n p cs qs
  pub octets : take size new ≡ frame_octets form (description_of n h p cs qs)
  pub within : size ≤ length new

pub encoded : {form : Form} {n : ℕ} {h : EthernetHeader} {p : SavPdu} {cs : List ℤ} {qs : List ℕ} {old new : List ℕ} {size : ℕ} → Encodes form n h p cs qs old new (Ok size) → Encoded form n h p cs qs old new size
encoded {form} {n} {h} {p} {cs} {qs} {old} {new} {size} w =
    let d = description_of n h p cs qs in
    let e : encode_smv form n (length cs) (length qs) (length old) d ≡ accepted size = sym w.said in
    let (t, s) = encode_taken form n (length cs) (length qs) (length old) d e in
    let c = described_count n h p cs qs in
    let a : new ≡ over old 0 (frame_octets form d) = w.left ∙ ap (λ (x : Answer ℕ). leaves x old 0 (frame_octets form d)) e in
    record { taken = t; answer = e; long = record { counts = rw c at t.counts; qualities = rw c at t.qualities }; octets = rw a (take_over old (frame_octets form d) size (sym s)); within = rw a (omega (arith, over_length old 0 (frame_octets form d) (omega (arith, t.room_for)), t.room_for)) }

-- its description is an accepted one
pub encoded_accepted : {form : Form} {n : ℕ} {h : EthernetHeader} {p : SavPdu} {cs : List ℤ} {qs : List ℕ} {old new : List ℕ} {size : ℕ} → Widths h p cs qs → Encoded form n h p cs qs old new size
    → Accepted form n (description_of n h p cs qs)
encoded_accepted {form} {n} {h} {p} {cs} {qs} v e =
    record { channels = e.taken.channels; typed = widths_typed n h p cs qs v e.long.counts e.long.qualities; fits = e.taken.writes }

-- noASDU of a record that was read
pub saved_count : (d : Description) (l : ℕ) → (sav_read (d, l)).pdu.no_asdu ≡ length d.asdus
unfolding pdu_record pdu_in
saved_count d l = refl

-- a record that was read, with its samples at the start of the arrays, stands for the description
pub describes_as : {n : ℕ} {cs' : List ℤ} {qs' : List ℕ} {r : SavRead} (d : Description) (l : ℕ) (cs : List ℤ) (qs : List ℕ) → Typed n d → r ≡ sav_read (d, l)
    → cs' ≡ over cs 0 (all_counts d.asdus) → qs' ≡ over qs 0 (all_qualities d.asdus) → description_of n r.header r.pdu cs' qs' ≡ d
unfolding over
describes_as {n} d l cs qs t i ec eq =
    rw (i, ec, eq) (description_held n d l t (drop (0 + length (all_counts d.asdus)) cs) (drop (0 + length (all_qualities d.asdus)) qs))

-- the arrays handed back are long enough
pub returned_long : {form : Form} {n : ℕ} {cs' : List ℤ} {qs' : List ℕ} {r : SavRead} (cs : List ℤ) (qs : List ℕ) (d : Description) (l : ℕ) → r ≡ sav_read (d, l) → cs' ≡ over cs 0 (all_counts d.asdus) → qs' ≡ over qs 0 (all_qualities d.asdus)
    → Accepted form n d → length d.asdus * n ≤ length cs → length d.asdus * n ≤ length qs → LongEnough n r.pdu cs' qs'
returned_long {form} {n} {cs'} {qs'} {r} cs qs d l i ec eq a fc fq =
    let (mc, mq) = all_counts_lem n d.asdus a.typed.asdus in
    let m : r.pdu.no_asdu ≡ length d.asdus = ap (λ (v : SavRead). v.pdu.no_asdu) i ∙ saved_count d l in
    let lc : length cs' ≡ length cs = ap length ec ∙ over_length cs 0 (all_counts d.asdus) (omega arith) in
    let lq : length qs' ≡ length qs = ap length eq ∙ over_length qs 0 (all_qualities d.asdus) (omega arith) in
    record { counts = rw m (omega arith); qualities = rw m (omega arith) }

-- what strict reading accepts: a description d and Length l
pub record StrictlyRead (form : Form) (n : ℕ) (s : List ℕ) (cs cs' : List ℤ) (qs qs' : List ℕ) (r : SavRead) (d : Description) (l : ℕ) : Type 0 where
  pub strict : strict_read form n (length cs) (length qs) s ≡ read_as d l
  pub description : Accepted form n d
  pub frame : frame_octets form d ≡ s
  pub record_is : r ≡ sav_read (d, l)
  pub counts_are : cs' ≡ over cs 0 (all_counts d.asdus)
  pub qualities_are : qs' ≡ over qs 0 (all_qualities d.asdus)
  pub described_as : description_of n r.header r.pdu cs' qs' ≡ d
  pub long : LongEnough n r.pdu cs' qs'
  pub counts_fit : length d.asdus * n ≤ length cs
  pub qualities_fit : length d.asdus * n ≤ length qs

module _ {form : Form} {n : ℕ} {s : List ℕ} {cs cs' : List ℤ} {qs qs' : List ℕ} {r : SavRead} (c : ReadsStrictly form n s cs cs' qs qs' (Ok r)) where
  -- what strict reading answers is what was read
  pub accepts : (x : Description × ℕ) × (strict_read form n (length cs) (length qs) s ≡ accepted x)
  accepts = go (strict_read form n (length cs) (length qs) s) refl
    where
      go : (a : Answer (Description × ℕ)) → strict_read form n (length cs) (length qs) s ≡ a → (x : Description × ℕ) × (strict_read form n (length cs) (length qs) s ≡ accepted x)
      go (refusal k at) e = let z : accepted r ≡ refusal k at = c.meets.read ∙ rw e in cc z
      go (accepted x) e = (x, e)

  found_of : Octets s → (d : Description) (l : ℕ) → strict_read form n (length cs) (length qs) s ≡ read_as d l → StrictlyRead form n s cs cs' qs qs' r d l
  found_of bytes d l e =
      let (a, fc, fq, f) = accepted_is_frame form n (length cs) (length qs) s bytes d l e in
      let z : accepted r ≡ accepted (sav_read (d, l)) = c.meets.read ∙ rw e in
      let i : r ≡ sav_read (d, l) = cc z in
      let ec : cs' ≡ over cs 0 (all_counts d.asdus) = c.meets.counts_are ∙ rw e in
      let eq : qs' ≡ over qs 0 (all_qualities d.asdus) = c.meets.qualities_are ∙ rw e in
      record {
        strict = e;
        description = a;
        frame = f;
        record_is = i;
        counts_are = ec;
        qualities_are = eq;
        described_as = describes_as d l cs qs a.typed i ec eq;
        long = returned_long cs qs d l i ec eq a fc fq;
        counts_fit = fc;
        qualities_fit = fq;
      }

  pub found : Octets s → (x : Description × ℕ) × StrictlyRead form n s cs cs' qs qs' r x.0 x.1
  found bytes = let (x, e) = accepts in (x, found_of bytes x.0 x.1 e)
