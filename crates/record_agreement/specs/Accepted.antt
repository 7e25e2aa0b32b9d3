-- What an accepted call says, and what is enough for it: of the writer, that the arrays are long enough, 8, 9 and 10 don't refuse, and
-- the buffer has room; of its size, the same without samples.
use Rattle.std.specs.Prelude.{◌≡◌, refl, Bool, true, false, not, ℕ, suc, ◌+◌, ◌*◌, ◌≤◌, take, drop, replicate, ℤ, pos, ltb}
use Rattle.std.proofs.Common.{sym, ap, ◌∙◌, arith, length-drop, length-take-le}
use mathlib.Core.List.{List, [], ◌∷◌, map, zip}
use Rattle.std.proofs.Math.ListN.{length}
use borrow.Author.Tests.{le-ltb, ltb-false, le-leb, leb-true, not-false}
use Rattle.definition.specs.Limits.{max_channels, max_pdu, no_room, too_many_channels, bad_description, too_long_to_write}
use Rattle.definition.specs.Frame.{Form, Description, pdu_octets, frame_octets, and, all, fits, writable}
use Rattle.definition.specs.Tests.{and_both, and_true, and_false}
use Rattle.definition.specs.Answers.{accepted, refusal, refuse, all_counts, all_qualities, described, sized, encode_smv, smv_size}
use Rattle.definition.specs.HeldLaws.{length-first_of}
use Rattle.definition.proofs.Samples.{length_zip}
use Rattle.definition.proofs.Agreement.{passed}
use Rattle.definition.specs.Sizes.{zeroed_asdu, zeroed, quality_fits}
use Rattle.definition.proofs.Sizes.{frame_length, fits_is, writable_is, first_zeros, rest_zeros}
use Rattle.rt_services.specs.declared.SavAsdu.{SavAsdu}
use Rattle.rt_services.specs.declared.SavPdu.{SavPdu}
use Rattle.rt_services.specs.declared.EthernetHeader.{EthernetHeader}
use Rattle.rt_services.specs.Describe.{asdu_of, asdus_of, pdu_of, header_of, blank_record, description_of, unsampled_of}
use Rattle.rt_services.specs.Same.{records_of, LongEnough}
use Rattle.rt_services.proofs.Equal.{length_asdus, counts_of_pdu}

-- ---- the writer

writable_fits : (form : Form) (d : Description) → fits d ≡ true → length (pdu_octets form d) ≤ max_pdu → writable form d ≡ true
unfolding writable and
writable_fits form d e h = rw (e, le-leb (length (pdu_octets form d)) max_pdu h)

pub fits_of : (form : Form) (d : Description) → writable form d ≡ true → (fits d ≡ true) × (length (pdu_octets form d) ≤ max_pdu)
unfolding writable
fits_of form d e = let f = and_both _ _ e in (f.0, leb-true (length (pdu_octets form d)) max_pdu f.1)

pub record Taken (form : Form) (n a b room : ℕ) (d : Description) : Type 0 where
  pub channels : n ≤ max_channels
  pub counts : length d.asdus * n ≤ a
  pub qualities : length d.asdus * n ≤ b
  pub writes : writable form d ≡ true
  pub room_for : length (frame_octets form d) ≤ room

pub encode_taken : (form : Form) (n a b room : ℕ) (d : Description) {size : ℕ} → encode_smv form n a b room d ≡ accepted size → Taken form n a b room d × (size ≡ length (frame_octets form d))
unfolding encode_smv sized
encode_taken form n a b room d {size} e =
    let m : ℕ = length d.asdus * n in
    let p1 = passed (ltb max_channels n) too_many_channels _ e in
    let p2 = passed (ltb a m) no_room _ p1.1 in
    let p3 = passed (ltb b m) no_room _ p2.1 in
    let p4 = passed (not (fits d)) bad_description _ p3.1 in
    let p5 = passed (ltb max_pdu (length (pdu_octets form d))) too_long_to_write _ p4.1 in
    let p6 = passed (ltb room (length (frame_octets form d))) no_room _ p5.1 in
    let z : accepted (length (frame_octets form d)) ≡ accepted size = p6.1 in (
      record {
        channels = ltb-false max_channels n p1.0;
        counts = ltb-false a m p2.0;
        qualities = ltb-false b m p3.0;
        writes = writable_fits form d (not-false (fits d) p4.0) (ltb-false max_pdu (length (pdu_octets form d)) p5.0);
        room_for = ltb-false room (length (frame_octets form d)) p6.0;
      },
      cc,
    )

pub taken_encode : (form : Form) (n a b room : ℕ) (d : Description) → Taken form n a b room d → encode_smv form n a b room d ≡ accepted (length (frame_octets form d))
unfolding encode_smv sized
taken_encode form n a b room d t =
    let w = fits_of form d t.writes in
    rw (
      le-ltb max_channels n t.channels,
      le-ltb a (length d.asdus * n) t.counts,
      le-ltb b (length d.asdus * n) t.qualities,
      w.0,
      le-ltb max_pdu (length (pdu_octets form d)) w.1,
      le-ltb room (length (frame_octets form d)) t.room_for,
    )

-- ---- its size

size_taken : (form : Form) (n : ℕ) (d : Description) {size : ℕ} → smv_size form n d ≡ accepted size → (n ≤ max_channels) × (writable form d ≡ true) × (size ≡ length (frame_octets form d))
unfolding smv_size sized
size_taken form n d {size} e =
    let p1 = passed (ltb max_channels n) too_many_channels _ e in
    let p2 = passed (not (fits d)) bad_description _ p1.1 in
    let p3 = passed (ltb max_pdu (length (pdu_octets form d))) too_long_to_write _ p2.1 in
    let p4 = passed (ltb (length (frame_octets form d)) (length (frame_octets form d))) no_room _ p3.1 in
    let z : accepted (length (frame_octets form d)) ≡ accepted size = p4.1 in
    (ltb-false max_channels n p1.0, writable_fits form d (not-false (fits d) p2.0) (ltb-false max_pdu (length (pdu_octets form d)) p3.0), cc)

taken_size : (form : Form) (n : ℕ) (d : Description) → n ≤ max_channels → writable form d ≡ true → smv_size form n d ≡ accepted (length (frame_octets form d))
unfolding smv_size sized
taken_size form n d few w =
    let f = fits_of form d w in
    rw (le-ltb max_channels n few, f.0, le-ltb max_pdu (length (pdu_octets form d)) f.1, le-ltb (length (frame_octets form d)) (length (frame_octets form d)) (omega arith))

zeroed_asdus : (l : List SavAsdu) (n : ℕ) (cs : List ℤ) (qs : List ℕ) → length l * n ≤ length cs → length l * n ≤ length qs
    → map zeroed_asdu (asdus_of l n cs qs) ≡ asdus_of l n (replicate (length l * n) (pos 0)) (replicate (length l * n) 0)
unfolding asdus_of asdu_of zeroed_asdu
zeroed_asdus [] n cs qs lc lq = refl
zeroed_asdus (a ∷ l) n cs qs lc lq =
    let p : suc (length l) * n ≡ n + length l * n = omega arith in
    let e : length (zip (take n cs) (take n qs)) ≡ n = length_zip (take n cs) (take n qs) n (length-take-le n cs (omega arith)) (length-take-le n qs (omega arith)) in
    rw (
      e,
      first_zeros (length l) n,
      rest_zeros (pos 0) (length l) n,
      rest_zeros {A = ℕ} 0 (length l) n,
      zeroed_asdus l n (drop n cs) (drop n qs) (simp length-drop (omega arith)) (simp length-drop (omega arith)),
    )

pub described_count : (n : ℕ) (h : EthernetHeader) (p : SavPdu) (cs : List ℤ) (qs : List ℕ) → length (description_of n h p cs qs).asdus ≡ p.no_asdu
unfolding description_of described pdu_of
described_count n h p cs qs = length_asdus (records_of p) n cs qs ∙ length-first_of blank_record p.no_asdu p.sav_asdu

module _ (n : ℕ) (h : EthernetHeader) (p : SavPdu) (cs : List ℤ) (qs : List ℕ) (long : LongEnough n p cs qs) where
  -- with every count and quality word 0
  zeroed_is : zeroed (description_of n h p cs qs) ≡ unsampled_of n h p
  unfolding unsampled_of description_of described header_of pdu_of zeroed
  zeroed_is =
      let l : length (records_of p) ≡ p.no_asdu = length-first_of blank_record p.no_asdu p.sav_asdu in
      let e : map zeroed_asdu (asdus_of (records_of p) n cs qs) ≡ asdus_of (records_of p) n (replicate (p.no_asdu * n) (pos 0)) (replicate (p.no_asdu * n) 0)
      = rw l at (zeroed_asdus (records_of p) n cs qs (rw l long.counts) (rw l long.qualities)) in
      rw e

  pub described_samples : (all_counts (description_of n h p cs qs).asdus ≡ take (p.no_asdu * n) cs) × (all_qualities (description_of n h p cs qs).asdus ≡ take (p.no_asdu * n) qs)
  unfolding description_of described pdu_of
  described_samples = counts_of_pdu n p cs qs long

  module _ (form : Form) (room : ℕ) where
    -- 9, with few channels and long arrays
    refuses : n ≤ max_channels → fits (description_of n h p cs qs) ≡ false → encode_smv form n (length cs) (length qs) room (description_of n h p cs qs) ≡ refusal bad_description 0
    unfolding encode_smv
    refuses few f =
        rw (
          le-ltb max_channels n few,
          described_count n h p cs qs,
          le-ltb (length cs) (p.no_asdu * n) long.counts,
          le-ltb (length qs) (p.no_asdu * n) long.qualities,
          f,
        )

    -- what the writer writes has that size
    pub encode_sized : {size : ℕ} → encode_smv form n (length cs) (length qs) room (description_of n h p cs qs) ≡ accepted size → smv_size form n (unsampled_of n h p) ≡ accepted size
    encode_sized e =
        let (t, w) = encode_taken form n (length cs) (length qs) room (description_of n h p cs qs) e in
        let z = (and_both _ _ (sym (writable_is form (description_of n h p cs qs)) ∙ t.writes)).0 in
        rw (← zeroed_is) (taken_size form n (zeroed (description_of n h p cs qs)) t.channels z ∙ ap accepted (frame_length form (description_of n h p cs qs) ∙ sym w))

    -- with a buffer of that size the writer writes, unless it refuses a quality word
    pub sized_encode : {size : ℕ} → smv_size form n (unsampled_of n h p) ≡ accepted size → size ≤ room
        → encode_smv form n (length cs) (length qs) room (description_of n h p cs qs) ≡ refuse (not (all quality_fits (take (p.no_asdu * n) qs))) bad_description (accepted size)
    sized_encode {size} e r =
        let z : smv_size form n (zeroed d) ≡ accepted size = rw zeroed_is e in
        let (few, w, s) = size_taken form n (zeroed d) z in
        let f : size ≡ length (frame_octets form d) = s ∙ frame_length form d in
        go (all quality_fits (take (p.no_asdu * n) qs)) refl few w f
      where
        d : Description
        d = description_of n h p cs qs

        counts_fit : length d.asdus * n ≤ length cs
        counts_fit = rw (described_count n h p cs qs) long.counts

        qualities_fit : length d.asdus * n ≤ length qs
        qualities_fit = rw (described_count n h p cs qs) long.qualities

        go : (q : Bool) → all quality_fits (take (p.no_asdu * n) qs) ≡ q → n ≤ max_channels → writable form (zeroed d) ≡ true → size ≡ length (frame_octets form d)
            → encode_smv form n (length cs) (length qs) room d ≡ refuse (not q) bad_description (accepted size)
        go false q few w f = refuses few (fits_is d ∙ rw (described_samples.1, q, and_false))
        go true q few w f =
            taken_encode form n (length cs) (length qs) room d
            (record { channels = few; counts = counts_fit; qualities = qualities_fit; writes = writable_is form d ∙ rw (described_samples.1, q, and_true) w; room_for = omega arith })
            ∙ ap accepted (sym f)
