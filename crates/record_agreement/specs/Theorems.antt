-- Demand 3 of the records, in document 01's words: whatever results meet the contracts of the writer, of its size, of strict reading and
-- of ordinary reading. `Widths` and `Octets` say of records and arrays no more than the types of their fields and elements do.
use Rattle.std.specs.Prelude.{◌≡◌, refl, List, not, ℕ, ◌*◌, ◌≤◌, length, take, ℤ, Result, Ok, Err, IsOk, IsOkAnd}
use Rattle.std.proofs.Common.{sym, ap, ◌∙◌, arith, take_all}
use Rattle.definition.specs.Limits.{bad_description}
use Rattle.definition.specs.Frame.{Form, Description, frame_octets, length_of, all, Octets, Accepted}
use Rattle.definition.specs.Answers.{accepted, refuse, read_as, ordinary_read, strict_read, encode_smv, over, all_counts, all_qualities}
use Rattle.definition.proofs.Agreement.{written_then_strictly_read, ordinary_agrees, one_meaning}
use Rattle.definition.proofs.Samples.{all_counts_lem}
use Rattle.definition.specs.Over.{over_itself}
use Rattle.definition.specs.Sizes.{quality_fits}
use Rattle.rt_services.specs.declared.SavPdu.{SavPdu}
use Rattle.rt_services.specs.declared.EthernetHeader.{EthernetHeader}
use Rattle.rt_services.specs.Describe.{header_record, pdu_record, header_in, pdu_in, description_of}
use Rattle.rt_services.specs.Same.{Same, LongEnough}
use Rattle.rt_services.proofs.Equal.{same_described, described_same}
use Rattle.rt_services.proofs.Reasons.{told_same}
use Rattle.rt_services.specs.declared.Refusal.{Refusal}
use Rattle.rt_services.specs.Reasons.{told}
use Rattle.rt_services.specs.Told.{sav_read}
use Rattle.rt_services.specs.declared.SavRead.{SavRead}
use Rattle.record_agreement.specs.Widths.{Widths}
use Rattle.record_agreement.specs.Calls.{Encodes, Measures, ReadsStrictly, ReadsOrdinarily}
use Rattle.record_agreement.specs.Accepted.{taken_encode, described_count, described_samples, encode_sized, sized_encode}
use Rattle.record_agreement.specs.Holding.{typed_widths, held_description, held_count}
use Rattle.record_agreement.specs.Results.{encoded, encoded_accepted, describes_as, returned_long, accepts, found}

-- the record r and the arrays cs' and qs', which were cs₀ and qs₀, have a description back that was written: equal to the one it was
-- written from, and the record has zeros where nothing counts
pub record Returned (form : Form) (n : ℕ) (h : EthernetHeader) (p : SavPdu) (cs : List ℤ) (qs : List ℕ) (cs₀ cs' : List ℤ) (qs₀ qs' : List ℕ) (r : SavRead) : Type 0 where
  pub same : Same n h p cs qs r.header r.pdu cs' qs'
  pub record_is : r ≡ sav_read (description_of n h p cs qs, length_of form (description_of n h p cs qs))
  pub counts : cs' ≡ over cs₀ 0 (take (p.no_asdu * n) cs)
  pub qualities : qs' ≡ over qs₀ 0 (take (p.no_asdu * n) qs)

told_ok : {A : Type 0} {P : A → Type 0} (r : Result A Refusal) (y : A) → told r ≡ accepted y → ((x : A) → x ≡ y → P x) → IsOkAnd r P
told_ok (Ok x) y e h = h x cc
told_ok (Err f) y e h = cc e

-- (1) Written, then strictly read. Records and arrays that the writer wrote, strictly read from the octets written into arrays that are
-- long enough, are accepted; what is handed back equals them, and has zeros where nothing counts.
pub write_then_read : {form : Form} {n : ℕ} {h : EthernetHeader} {p : SavPdu} {cs : List ℤ} {qs : List ℕ} {old new : List ℕ} {size : ℕ} {cs₀ cs' : List ℤ} {qs₀ qs' : List ℕ} {r : Result SavRead Refusal}
    → Widths h p cs qs → Encodes form n h p cs qs old new (Ok size) → p.no_asdu * n ≤ length cs₀ → p.no_asdu * n ≤ length qs₀
    → ReadsStrictly form n (take size new) cs₀ cs' qs₀ qs' r → IsOkAnd r (Returned form n h p cs qs cs₀ cs' qs₀ qs')
write_then_read {form} {n} {h} {p} {cs} {qs} {old} {new} {size} {cs₀} {cs'} {qs₀} {qs'} {r} v w lc lq c =
    let e = encoded w in
    let d : Description = description_of n h p cs qs in
    let l : ℕ = length_of form d in
    let a = encoded_accepted v e in
    let m = described_count n h p cs qs in
    let s : strict_read form n (length cs₀) (length qs₀) (take size new) ≡ read_as d l = rw e.octets (written_then_strictly_read form n (length cs₀) (length qs₀) d a (rw m lc) (rw m lq)) in
    let ec : cs' ≡ over cs₀ 0 (all_counts d.asdus) = c.meets.counts_are ∙ rw s in
    let eq : qs' ≡ over qs₀ 0 (all_qualities d.asdus) = c.meets.qualities_are ∙ rw s in
    let samples = described_samples n h p cs qs e.long in
    let returned : (x : SavRead) → x ≡ sav_read (d, l) → Returned form n h p cs qs cs₀ cs' qs₀ qs' x = λ x i. record {
      same = described_same n h p cs qs x.header x.pdu cs' qs' e.long (returned_long cs₀ qs₀ d l i ec eq a (rw m lc) (rw m lq)) (sym (describes_as d l cs₀ qs₀ a.typed i ec eq));
      record_is = i;
      counts = ec ∙ rw samples.0;
      qualities = eq ∙ rw samples.1;
    } in
    told_ok r (sav_read (d, l)) (c.meets.read ∙ rw s) returned

-- (2) Strictly read, then written. Octets that strict reading accepts, written from its record and arrays into a buffer that has room
-- for them: the writer answers their number, and the buffer starts with them and is otherwise as it was.
pub read_then_write : {form : Form} {n : ℕ} {s : List ℕ} {cs cs' : List ℤ} {qs qs' : List ℕ} {r : SavRead} {old new : List ℕ} {w : Result ℕ Refusal}
    → Octets s → ReadsStrictly form n s cs cs' qs qs' (Ok r) → length s ≤ length old → Encodes form n r.header r.pdu cs' qs' old new w
    → (w ≡ Ok (length s)) × (new ≡ over old 0 s)
read_then_write {form} {n} {s} {cs} {cs'} {qs} {qs'} {r} {old} {new} {w} bytes c room g =
    let ((d, l), f) = found c bytes in
    let d' : Description = description_of n r.header r.pdu cs' qs' in
    let m : length d'.asdus ≡ r.pdu.no_asdu = described_count n r.header r.pdu cs' qs' in
    let o : frame_octets form d' ≡ s = ap (frame_octets form) f.described_as ∙ f.frame in
    let fit : length (frame_octets form d') ≤ length old = rw o room in
    let e : encode_smv form n (length cs') (length qs') (length old) d' ≡ accepted (length s)
    = taken_encode form n (length cs') (length qs') (length old) d'
    (record { channels = f.description.channels; counts = rw m f.long.counts; qualities = rw m f.long.qualities; writes = rw f.described_as f.description.fits; room_for = fit })
    ∙ ap (λ (x : List ℕ). accepted (length x)) o in
    (told_same w (Ok (length s)) (g.said ∙ e), g.left ∙ rw (e, o))

-- some records and arrays of m ASDUs and n channels that the writer writes as the octets s
pub record IsEncoded (form : Form) (n m : ℕ) (s : List ℕ) : Type 0 where
  pub h : EthernetHeader
  pub p : SavPdu
  pub cs : List ℤ
  pub qs : List ℕ
  pub old : List ℕ
  pub new : List ℕ
  pub size : ℕ
  pub widths : Widths h p cs qs
  pub count : p.no_asdu ≡ m
  pub call : Encodes form n h p cs qs old new (Ok size)
  pub octets : take size new ≡ s

-- a description that is held in records and in arrays of just its size is written as its frame
held_encoded : (form : Form) (n : ℕ) (d : Description) → Accepted form n d → IsEncoded form n (length d.asdus) (frame_octets form d)
held_encoded form n d a =
    let f = frame_octets form d in
    let h = header_record (header_in d 0) in
    let p = pdu_record (pdu_in d) in
    let cs = all_counts d.asdus in
    let qs = all_qualities d.asdus in
    let same : description_of n h p cs qs ≡ d = held_description n d 0 a.typed in
    let (lc, lq) = all_counts_lem n d.asdus a.typed.asdus in
    let e : encode_smv form n (length cs) (length qs) (length f) d ≡ accepted (length f)
    = taken_encode form n (length cs) (length qs) (length f) d (record { channels = a.channels; counts = omega arith; qualities = omega arith; writes = a.fits; room_for = omega arith }) in
    record {
      h = h;
      p = p;
      cs = cs;
      qs = qs;
      old = f;
      new = f;
      size = length f;
      widths = typed_widths n d 0 a.typed;
      count = held_count d;
      call = record { said = rw (same, e); left = rw (same, e) (over_itself f) };
      octets = take_all (length f) f (omega arith);
    }

-- (3) Accepted exactly. Strict reading accepts octets exactly when some records and arrays of that number of channels, for whose samples
-- the arrays lent are long enough, are ones that the writer writes as these octets.
pub accepted_exactly : {form : Form} {n : ℕ} {s : List ℕ} {cs cs' : List ℤ} {qs qs' : List ℕ} {r : Result SavRead Refusal} → Octets s → ReadsStrictly form n s cs cs' qs qs' r
    → (IsOk r → (m : ℕ) × IsEncoded form n m s × (m * n ≤ length cs) × (m * n ≤ length qs))
    × ((m : ℕ) → IsEncoded form n m s → m * n ≤ length cs → m * n ≤ length qs → IsOk r)
accepted_exactly {form} {n} {s} {cs} {cs'} {qs} {qs'} {r} bytes c = (to r c, from)
  where
    to : (r : Result SavRead Refusal) → ReadsStrictly form n s cs cs' qs qs' r → IsOk r → (m : ℕ) × IsEncoded form n m s × (m * n ≤ length cs) × (m * n ≤ length qs)
    to (Ok x) c z =
        let (y, f) = found c bytes in
        (length y.0.asdus, rw f.frame at (held_encoded form n y.0 f.description), f.counts_fit, f.qualities_fit)
    to (Err f) c z = cc z

    is_ok_and : (P : SavRead → Type 0) (r : Result SavRead Refusal) → IsOkAnd r P → IsOk r
    is_ok_and P (Ok x) h = refl
    is_ok_and P (Err f) h = absurd h

    from : (m : ℕ) → IsEncoded form n m s → m * n ≤ length cs → m * n ≤ length qs → IsOk r
    from m w lc lq =
        let c' : ReadsStrictly form n (take w.size w.new) cs cs' qs qs' r = rw w.octets c in
        let fc : w.p.no_asdu * n ≤ length cs = rw w.count lc in
        let fq : w.p.no_asdu * n ≤ length qs = rw w.count lq in
        is_ok_and _ r (write_then_read w.widths w.call fc fq c')

-- (4) Ordinary reading then gives the same. Of octets that strict reading accepts, with the same arrays lent, ordinary reading answers
-- the same record and leaves the same in both arrays.
pub ordinary_same : {form : Form} {n : ℕ} {s : List ℕ} {cs cs' cs'' : List ℤ} {qs qs' qs'' : List ℕ} {r : SavRead} {r' : Result SavRead Refusal}
    → ReadsStrictly form n s cs cs' qs qs' (Ok r) → ReadsOrdinarily n s cs cs'' qs qs'' r' → (r' ≡ Ok r) × (cs'' ≡ cs') × (qs'' ≡ qs')
ordinary_same {form} {n} {s} {cs} {cs'} {cs''} {qs} {qs'} {qs''} {r} {r'} c o = let (x, e) = accepts c in go x e
  where
    go : (x : Description × ℕ) → strict_read form n (length cs) (length qs) s ≡ accepted x → (r' ≡ Ok r) × (cs'' ≡ cs') × (qs'' ≡ qs')
    go x e =
        let same : ordinary_read n (length cs) (length qs) s ≡ strict_read form n (length cs) (length qs) s = ordinary_agrees form n (length cs) (length qs) s x.0 x.1 e ∙ sym e in
        (told_same r' (Ok r) (o.meets.read ∙ rw same (sym c.meets.read)), o.meets.counts_are ∙ rw same (sym c.meets.counts_are), o.meets.qualities_are ∙ rw same (sym c.meets.qualities_are))

-- (5) One meaning. Records and arrays of n channels that the writer writes as the same octets, in whichever forms, are equal.
pub write_same : {form form' : Form} {n : ℕ} {h h' : EthernetHeader} {p p' : SavPdu} {cs cs' : List ℤ} {qs qs' old new old' new' : List ℕ} {size size' : ℕ}
    → Widths h p cs qs → Encodes form n h p cs qs old new (Ok size) → Widths h' p' cs' qs' → Encodes form' n h' p' cs' qs' old' new' (Ok size')
    → take size new ≡ take size' new' → Same n h p cs qs h' p' cs' qs'
write_same {form} {form'} {n} {h} {h'} {p} {p'} {cs} {cs'} {qs} {qs'} v w v' w' e =
    let i = encoded w in
    let i' = encoded w' in
    described_same n h p cs qs h' p' cs' qs' i.long i'.long
    (one_meaning form form' n (description_of n h p cs qs) (description_of n h' p' cs' qs') (encoded_accepted v i) (encoded_accepted v' i') (sym i.octets ∙ e ∙ i'.octets))

-- And equal records and arrays that it writes in one form, it writes as the same octets.
pub same_write : {form : Form} {n : ℕ} {h h' : EthernetHeader} {p p' : SavPdu} {cs cs' : List ℤ} {qs qs' old new old' new' : List ℕ} {size size' : ℕ}
    → Encodes form n h p cs qs old new (Ok size) → Encodes form n h' p' cs' qs' old' new' (Ok size') → Same n h p cs qs h' p' cs' qs'
    → take size new ≡ take size' new'
same_write {form} {n} {h} {h'} {p} {p'} {cs} {cs'} {qs} {qs'} w w' s =
    (encoded w).octets ∙ ap (frame_octets form) (same_described n h p cs qs h' p' cs' qs' s) ∙ sym (encoded w').octets

-- (6) Handed back. All records and arrays that the writer wrote as octets, in whichever form, equal what strict reading hands back of
-- them.
pub handed_back_same : {form form' : Form} {n : ℕ} {h : EthernetHeader} {p : SavPdu} {cs : List ℤ} {qs old new : List ℕ} {size : ℕ} {cs₀ cs' : List ℤ} {qs₀ qs' : List ℕ} {r : SavRead}
    → Widths h p cs qs → Encodes form' n h p cs qs old new (Ok size) → Octets (take size new) → ReadsStrictly form n (take size new) cs₀ cs' qs₀ qs' (Ok r)
    → Same n h p cs qs r.header r.pdu cs' qs'
handed_back_same {form} {form'} {n} {h} {p} {cs} {qs} {old} {new} {size} {cs₀} {cs'} {qs₀} {qs'} {r} v w bytes c =
    let (x, f) = found c bytes in
    let i = encoded w in
    let d : description_of n h p cs qs ≡ x.0 = one_meaning form' form n (description_of n h p cs qs) x.0 (encoded_accepted v i) f.description (sym i.octets ∙ sym f.frame) in
    described_same n h p cs qs r.header r.pdu cs' qs' i.long f.long (d ∙ sym f.described_as)

-- Strictly read in two forms. Octets that strict reading accepts in both, into the same arrays: records and arrays are the same.
pub read_in_two_forms : {form form' : Form} {n : ℕ} {s : List ℕ} {cs cs' cs'' : List ℤ} {qs qs' qs'' : List ℕ} {r r' : SavRead}
    → ReadsStrictly form n s cs cs' qs qs' (Ok r) → ReadsStrictly form' n s cs cs'' qs qs'' (Ok r') → (r ≡ r') × (cs' ≡ cs'') × (qs' ≡ qs'')
read_in_two_forms {form} {form'} {n} {s} {cs} {cs'} {cs''} {qs} {qs'} {qs''} {r} {r'} c c' =
    let (x, e) = accepts c in
    let (x', e') = accepts c' in
    go x e x' e'
  where
    go : (x : Description × ℕ) → strict_read form n (length cs) (length qs) s ≡ accepted x → (x' : Description × ℕ) → strict_read form' n (length cs) (length qs) s ≡ accepted x' → (r ≡ r') × (cs' ≡ cs'') × (qs' ≡ qs'')
    go x e x' e' =
        let same : strict_read form n (length cs) (length qs) s ≡ strict_read form' n (length cs) (length qs) s
        = sym (ordinary_agrees form n (length cs) (length qs) s x.0 x.1 e ∙ sym e) ∙ (ordinary_agrees form' n (length cs) (length qs) s x'.0 x'.1 e' ∙ sym e') in
        let z : accepted r ≡ accepted r' = c.meets.read ∙ rw same (sym c'.meets.read) in
        (cc z, c.meets.counts_are ∙ rw same (sym c'.meets.counts_are), c.meets.qualities_are ∙ rw same (sym c'.meets.qualities_are))

-- (7) The size. "smv_size equals the octets written."
pub write_sized : {form : Form} {n : ℕ} {h : EthernetHeader} {p : SavPdu} {cs : List ℤ} {qs old new : List ℕ} {size : ℕ} {w : Result ℕ Refusal}
    → Encodes form n h p cs qs old new (Ok size) → Measures form n h p w → told w ≡ accepted size
write_sized {form} {n} {h} {p} {cs} {qs} {old} c m =
    let e = encoded c in
    m.said ∙ encode_sized n h p cs qs e.long form (length old) e.answer

-- And a buffer of that size is enough: with that many counts and quality words the writer answers it, or 9 where one of the quality
-- words is 2^13 or more.
pub size_enough : {form : Form} {n : ℕ} {h : EthernetHeader} {p : SavPdu} {cs : List ℤ} {qs old new : List ℕ} {size : ℕ} {w : Result ℕ Refusal}
    → Measures form n h p (Ok size) → LongEnough n p cs qs → size ≤ length old → Encodes form n h p cs qs old new w
    → told w ≡ refuse (not (all quality_fits (take (p.no_asdu * n) qs))) bad_description (accepted size)
size_enough {form} {n} {h} {p} {cs} {qs} {old} m long room c = c.said ∙ sized_encode n h p cs qs long form (length old) (sym m.said) room
