-- hopsickle_size and hopsickle_write: the size is the writer's answer for arrays of zeros and a buffer that just has room, so what the
-- writer writes has that size, and a buffer of that size is enough.
use Rattle.std.specs.Prelude.{◌≡◌, Bool, not, ℕ, zero, suc, ◌+◌, ◌*◌, ◌≤◌, take, drop, replicate, ℤ, pos}
use Rattle.std.proofs.Math.Path.{refl, sym, ap}
use Rattle.std.proofs.Common.{◌∙◌, arith, length-drop, length-take-le}
use mathlib.Core.List.{List, map, zip}
use Rattle.std.proofs.Math.Bool.{true, false}
use Rattle.std.proofs.Math.ListN.{length, length-replicate}
use Rattle.definition.specs.Limits.{bad_description}
use Rattle.definition.specs.Frame.{Form, frame_octets, and, all, writable}
use Rattle.definition.specs.Answers.{accepted, refuse}
use Rattle.definition.specs.Tests.{and_both, and_true, and_false}
use Rattle.definition.proofs.Samples.{length_zip}
use Rattle.definition.specs.Sizes.{zeroed_asdu, zeroed, quality_fits}
use Rattle.definition.proofs.Sizes.{frame_length, fits_is, writable_is, first_zeros, rest_zeros}
use Rattle.definition.specs.Flat.{head_numbers, asdu_numbers, head_octets, asdu_octets, nth, flat_asdu, flat_asdus, flat_description, flat_unsampled, flat_encode, flat_size}
use Rattle.flat_agreement.proofs.Described.{SamplesFit, described_samples}
use Rattle.flat_agreement.proofs.Accepted.{Takes, encode_takes, encode_is, takes_encode}

zeroed_asdus : (m n : ℕ) (k o : List ℕ) (cs : List ℤ) (qs : List ℕ) → m * n ≤ length cs → m * n ≤ length qs
    → map zeroed_asdu (flat_asdus m n k o cs qs) ≡ flat_asdus m n k o (replicate (m * n) (pos 0)) (replicate (m * n) 0)
unfolding flat_asdus flat_asdu zeroed_asdu
zeroed_asdus zero n k o cs qs lc lq = refl
zeroed_asdus (suc m) n k o cs qs lc lq =
    let p : suc m * n ≡ n + m * n = omega arith in
    let l : length (zip (take n cs) (take n qs)) ≡ n = length_zip (take n cs) (take n qs) n (length-take-le n cs (omega arith)) (length-take-le n qs (omega arith)) in
    rw (
      l,
      first_zeros m n,
      rest_zeros (pos 0) m n,
      rest_zeros {A = ℕ} 0 m n,
      zeroed_asdus m n (drop asdu_numbers k) (drop asdu_octets o) (drop n cs) (drop n qs) (simp length-drop (omega arith)) (simp length-drop (omega arith)),
    )

module _ (n : ℕ) (k o : List ℕ) (cs : List ℤ) (qs : List ℕ) (long : SamplesFit n k cs qs) where
  -- with every count and quality word 0
  zeroed_is : zeroed (flat_description n k o cs qs) ≡ flat_unsampled n k o
  unfolding flat_unsampled flat_description zeroed
  zeroed_is = rw (zeroed_asdus (nth k 9) n (drop head_numbers k) (drop head_octets o) cs qs long.counts long.qualities)

  abbrev no_counts : List ℤ
  no_counts = replicate (nth k 9 * n) (pos 0)

  abbrev no_qualities : List ℕ
  no_qualities = replicate (nth k 9 * n) 0

  -- the quality words that are written
  fine : Bool
  fine = all quality_fits (take (nth k 9 * n) qs)

  module _ (form : Form) where
    size_is : flat_size form n k o ≡ flat_encode form n k o no_counts no_qualities (length (frame_octets form (flat_unsampled n k o)))
    unfolding flat_size flat_encode flat_unsampled
    size_is = rw (length-replicate {A = ℤ} (nth k 9 * n) (pos 0), length-replicate {A = ℕ} (nth k 9 * n) 0)

    same_size : length (frame_octets form (flat_unsampled n k o)) ≡ length (frame_octets form (flat_description n k o cs qs))
    same_size = rw (← zeroed_is) (frame_length form (flat_description n k o cs qs))

    same_writable : writable form (flat_description n k o cs qs) ≡ and (writable form (flat_unsampled n k o)) fine
    unfolding fine
    same_writable = writable_is form (flat_description n k o cs qs) ∙ rw (zeroed_is, (described_samples n k o cs qs long).1)

    -- what the writer writes has that size
    pub encode_sized : (room : ℕ) {size : ℕ} → flat_encode form n k o cs qs room ≡ accepted size → flat_size form n k o ≡ accepted size
    unfolding flat_unsampled
    encode_sized room {size} e =
        let (t, w, l) = encode_takes form n k o cs qs room e in
        let z = length-replicate {A = ℤ} (nth k 9 * n) (pos 0) in
        let y = length-replicate {A = ℕ} (nth k 9 * n) 0 in
        size_is
        ∙ takes_encode form n k o no_counts no_qualities _
        (record {
          channels = t.channels;
          numbers_long = t.numbers_long;
          octets_long = t.octets_long;
          counts_long = omega arith;
          qualities_long = omega arith;
          stood = t.stood;
          writes = (and_both _ _ (sym same_writable ∙ t.writes)).0;
        })
        (omega arith)
        ∙ ap accepted (same_size ∙ sym w)

    -- with a buffer of that size the writer writes, unless it refuses a quality word
    pub sized_encode : (room : ℕ) {size : ℕ} → flat_size form n k o ≡ accepted size → size ≤ room
        → flat_encode form n k o cs qs room ≡ refuse (not (all quality_fits (take (nth k 9 * n) qs))) bad_description (accepted size)
    unfolding fine flat_unsampled
    sized_encode room {size} e h = go (all quality_fits (take (nth k 9 * n) qs)) refl (encode_takes form n k o no_counts no_qualities _ (sym size_is ∙ e))
      where
        go : (q : Bool) → all quality_fits (take (nth k 9 * n) qs) ≡ q
            → Takes form n k o no_counts no_qualities × (size ≡ length (frame_octets form (flat_description n k o no_counts no_qualities))) × (length (frame_octets form (flat_description n k o no_counts no_qualities)) ≤ length (frame_octets form (flat_description n k o no_counts no_qualities)))
            → flat_encode form n k o cs qs room ≡ refuse (not q) bad_description (accepted size)
        go false q (t, w, l) =
            encode_is form n k o cs qs room t.channels t.numbers_long t.octets_long long.counts long.qualities t.stood
            ∙ rw (fits_is (flat_description n k o cs qs), (described_samples n k o cs qs long).1, q, and_false)
        go true q (t, w, l) =
            takes_encode form n k o cs qs room
            (record {
              channels = t.channels;
              numbers_long = t.numbers_long;
              octets_long = t.octets_long;
              counts_long = long.counts;
              qualities_long = long.qualities;
              stood = t.stood;
              writes = same_writable ∙ rw (q, and_true) t.writes;
            })
            (omega (arith, same_size))
            ∙ ap accepted (sym same_size ∙ sym w)
