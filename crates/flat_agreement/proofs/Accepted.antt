-- What an accepted call says, and what is enough for it: the writer of a flat description, and strict reading into arrays.
use Rattle.std.proofs.Math.Path.{◌≡◌, refl}
use Rattle.std.proofs.Common.{sym, ap, ◌∙◌, arith}
use Rattle.std.specs.Prelude.{List, [], ◌∷◌, Bool, true, false, not, length, ℤ, leb, ltb}
use Rattle.std.specs.Prelude.{Option, Some, None}
use Prim.Native.Nat.{ℕ, ◌*◌, ◌≤◌}
use borrow.Author.Tests.{le-ltb, ltb-false, le-leb, leb-true, not-false}
use Rattle.definition.specs.Limits.{max_channels, max_text, max_security, max_pdu, no_room, too_many_channels, bad_description, too_long_to_write}
use Rattle.definition.specs.Frame.{Form, Asdu, Description, pdu_octets, frame_octets, and, held, all, asdu_fits, fits, writable, Held, All, Accepted}
use Rattle.definition.specs.Tests.{and_both}
use Rattle.definition.specs.Answers.{Answer, accepted, refusal, refuse, ordinary_read, again, sized, strict_read}
use Rattle.definition.proofs.Trip.{within}
use Rattle.definition.proofs.Sound.{AsduShort, Short}
use Rattle.definition.proofs.Agreement.{passed, ordinary_agrees}
use Rattle.definition.specs.Flat.{head_numbers, numbers_for, octets_for, nth, stands, flat_held, flat_read, flat_strict, flat_description, flat_encode}
use Rattle.flat_agreement.specs.Lent.{Lent, lent_typed}

-- ---- writing

held_short : (m : ℕ) (o : Option (List ℕ)) → held (λ (l : List ℕ). leb (length l) m) o ≡ true → Held (λ (l : List ℕ). length l ≤ m) o
unfolding held Held
held_short m None e = tt
held_short m (Some l) e = leb-true (length l) m e

asdus_short : (l : List Asdu) → all asdu_fits l ≡ true → All AsduShort l
unfolding all asdu_fits All
asdus_short [] e = tt
asdus_short (a ∷ l) e =
    let (f, g) = and_both _ _ e in
    let (f₁, f₂) = and_both _ _ f in
    (record { sv_id = leb-true (length a.sv_id) max_text f₁; dat_set = held_short max_text a.dat_set (and_both _ _ f₂).0 }, asdus_short l g)

-- a description that the writer writes keeps its texts to their limits
pub writable_short : (form : Form) (d : Description) → writable form d ≡ true → Short d
writable_short form d e = let w = within form d e in record { security = held_short max_security d.security w.security; asdus = asdus_short d.asdus w.asdus }

-- the writer takes the numbers k, the octets o, the counts cs and the quality words qs: they stand for a description that it writes
pub record Takes (form : Form) (n : ℕ) (k o : List ℕ) (cs : List ℤ) (qs : List ℕ) : Type 0 where
  pub channels : n ≤ max_channels
  pub numbers_long : numbers_for (nth k 9) ≤ length k
  pub octets_long : octets_for (nth k 9) ≤ length o
  pub counts_long : nth k 9 * n ≤ length cs
  pub qualities_long : nth k 9 * n ≤ length qs
  pub stood : stands k ≡ true
  pub writes : writable form (flat_description n k o cs qs) ≡ true

module _ (form : Form) (n : ℕ) (k o : List ℕ) (cs : List ℤ) (qs : List ℕ) where
  abbrev d : Description
  d = flat_description n k o cs qs

  -- it answers the frame's size, for which the buffer has room
  pub encode_takes : (room : ℕ) {size : ℕ} → flat_encode form n k o cs qs room ≡ accepted size
      → Takes form n k o cs qs × (size ≡ length (frame_octets form d)) × (length (frame_octets form d) ≤ room)
  unfolding flat_encode sized writable and
  encode_takes room {size} e =
      let m : ℕ = nth k 9 in
      let p1 = passed (ltb max_channels n) too_many_channels _ e in
      let p2 = passed (ltb (length k) head_numbers) no_room _ p1.1 in
      let p3 = passed (ltb (length k) (numbers_for m)) no_room _ p2.1 in
      let p4 = passed (ltb (length o) (octets_for m)) no_room _ p3.1 in
      let p5 = passed (ltb (length cs) (m * n)) no_room _ p4.1 in
      let p6 = passed (ltb (length qs) (m * n)) no_room _ p5.1 in
      let p7 = passed (not (and (stands k) (fits d))) bad_description _ p6.1 in
      let p8 = passed (ltb max_pdu (length (pdu_octets form d))) too_long_to_write _ p7.1 in
      let p9 = passed (ltb room (length (frame_octets form d))) no_room _ p8.1 in
      let both = and_both (stands k) (fits d) (not-false (and (stands k) (fits d)) p7.0) in
      let z : accepted (length (frame_octets form d)) ≡ accepted size = p9.1 in (
        record {
          channels = ltb-false max_channels n p1.0;
          numbers_long = ltb-false (length k) (numbers_for m) p3.0;
          octets_long = ltb-false (length o) (octets_for m) p4.0;
          counts_long = ltb-false (length cs) (m * n) p5.0;
          qualities_long = ltb-false (length qs) (m * n) p6.0;
          stood = both.0;
          writes = rw (both.1, le-leb (length (pdu_octets form d)) max_pdu (ltb-false max_pdu (length (pdu_octets form d)) p8.0));
        },
        cc,
        ltb-false room (length (frame_octets form d)) p9.0,
      )

  -- with enough of everything but room, and numbers that stand for a description, 9 for the description is next
  pub encode_is : (room : ℕ) → n ≤ max_channels → numbers_for (nth k 9) ≤ length k → octets_for (nth k 9) ≤ length o → nth k 9 * n ≤ length cs → nth k 9 * n ≤ length qs → stands k ≡ true
      → flat_encode form n k o cs qs room ≡ refuse (not (fits d)) bad_description (sized form d room)
  unfolding flat_encode and
  encode_is room channels numbers octets counts qualities stood =
      rw (
        le-ltb max_channels n channels,
        le-ltb (length k) head_numbers (omega arith),
        le-ltb (length k) (numbers_for (nth k 9)) numbers,
        le-ltb (length o) (octets_for (nth k 9)) octets,
        le-ltb (length cs) (nth k 9 * n) counts,
        le-ltb (length qs) (nth k 9 * n) qualities,
        stood,
      )

  pub takes_encode : (room : ℕ) → Takes form n k o cs qs → length (frame_octets form d) ≤ room → flat_encode form n k o cs qs room ≡ accepted (length (frame_octets form d))
  unfolding sized writable
  takes_encode room t l =
      let w = and_both (fits d) (leb (length (pdu_octets form d)) max_pdu) t.writes in
      encode_is room t.channels t.numbers_long t.octets_long t.counts_long t.qualities_long t.stood
      ∙ rw (
        w.0,
        le-ltb max_pdu (length (pdu_octets form d)) (leb-true (length (pdu_octets form d)) max_pdu w.1),
        le-ltb room (length (frame_octets form d)) l,
      )

  -- what it takes is an accepted description
  pub takes_accepted : Lent k o cs qs → Takes form n k o cs qs → Accepted form n d
  takes_accepted l t = record { channels = t.channels; typed = lent_typed n k o cs qs l t.stood t.octets_long t.counts_long t.qualities_long; fits = t.writes }

  -- and its texts keep to their limits
  pub takes_short : Takes form n k o cs qs → Short d
  takes_short t = writable_short form d t.writes

-- ---- strict reading: into arrays of a numbers, b octets, c counts and e quality words

module _ (form : Form) (n a b c e : ℕ) (s : List ℕ) (x : Description × ℕ) where
  -- strict reading of records accepts the same, and the arrays have room
  pub flat_strictly : flat_strict form n a b c e s ≡ accepted x
      → (strict_read form n c e s ≡ accepted x) × (numbers_for (length x.0.asdus) ≤ a) × (octets_for (length x.0.asdus) ≤ b)
  unfolding flat_strict flat_read flat_held again strict_read
  flat_strictly f = go (ordinary_read n c e s) refl f
    where
      no_way : {P : Type 0} (k at : ℕ) → ◌≡◌ {A = Answer (Description × ℕ)} (refusal k at) (accepted x) → P
      no_way k at e = let z : ◌≡◌ {A = ℕ} 0 1 = cc in absurd (omega arith)

      go : (r : Answer (Description × ℕ)) → ordinary_read n c e s ≡ r → again form s (flat_held a b r) ≡ accepted x
          → (again form s (ordinary_read n c e s) ≡ accepted x) × (numbers_for (length x.0.asdus) ≤ a) × (octets_for (length x.0.asdus) ≤ b)
      go (refusal k at) g h = no_way k at h
      go (accepted y) g h = room (ltb a (numbers_for (length y.0.asdus))) (ltb b (octets_for (length y.0.asdus))) refl refl h
        where
          room : (t u : Bool) → ltb a (numbers_for (length y.0.asdus)) ≡ t → ltb b (octets_for (length y.0.asdus)) ≡ u → again form s (refuse t no_room (refuse u no_room (accepted y))) ≡ accepted x
              → (again form s (ordinary_read n c e s) ≡ accepted x) × (numbers_for (length x.0.asdus) ≤ a) × (octets_for (length x.0.asdus) ≤ b)
          room true u v w h = no_way no_room 0 h
          room false true v w h = no_way no_room 0 h
          room false false v w h =
              let i : again form s (ordinary_read n c e s) ≡ accepted x = rw g h in
              let j : accepted y ≡ accepted x = sym g ∙ ordinary_agrees form n c e s x.0 x.1 i in
              let z : y ≡ x = cc in
              (i, rw (← z) (ltb-false a (numbers_for (length y.0.asdus)) v), rw (← z) (ltb-false b (octets_for (length y.0.asdus)) w))

  -- so does ordinary reading
  pub flat_ordinary : strict_read form n c e s ≡ accepted x → numbers_for (length x.0.asdus) ≤ a → octets_for (length x.0.asdus) ≤ b → flat_read n a b c e s ≡ accepted x
  unfolding flat_read flat_held
  flat_ordinary f g h =
      rw (ordinary_agrees form n c e s x.0 x.1 f, le-ltb a (numbers_for (length x.0.asdus)) g, le-ltb b (octets_for (length x.0.asdus)) h)

  pub flat_strictly_so : strict_read form n c e s ≡ accepted x → numbers_for (length x.0.asdus) ≤ a → octets_for (length x.0.asdus) ≤ b → flat_strict form n a b c e s ≡ accepted x
  unfolding flat_strict strict_read
  flat_strictly_so f g h =
      rw (flat_ordinary f g h) (sym (ap (again form s) (ordinary_agrees form n c e s x.0 x.1 f)) ∙ f)
