-- Demand 3 of the calls that people use: whatever results meet the contracts of hopsickle_write, hopsickle_size, hopsickle_read_strict
-- and hopsickle_read, for every content and every length of the arrays. `Lent` and `Octets` say of arrays no more than the types of
-- their elements do: u32, u8, i32, u32, and u8.
use Rattle.std.specs.Prelude.{◌≡◌, List, not, ℕ, ◌*◌, ◌≤◌, length, take, ℤ}
use Rattle.std.proofs.Common.{sym, ap, ◌∙◌, arith, take_all}
use Rattle.definition.specs.Limits.{bad_description}
use Rattle.definition.specs.Frame.{Form, Description, frame_octets, length_of, all, Octets, Accepted}
use Rattle.definition.specs.Answers.{accepted, refuse, over, all_counts, all_qualities}
use Rattle.definition.proofs.Agreement.{written_then_strictly_read, one_meaning, handed_back_lem}
use Rattle.definition.proofs.Trip.{within}
use Rattle.definition.proofs.Samples.{all_counts_lem}
use Rattle.definition.proofs.FlatBack.{length-numbers_of, length-octets_of}
use Rattle.definition.proofs.Numbers.{accepts_0, strict_answered, size_answered}
use Rattle.definition.specs.Flat.{numbers_of, octets_of, nth, flat_description, flat_read, flat_strict, flat_encode, flat_size, number_of, beside_it}
use Rattle.flat_agreement.specs.Same.{SameFlat}
use Rattle.flat_agreement.proofs.Described.{SamplesFit, described_count, described_samples, same_flat_described, described_same_flat}
use Rattle.flat_agreement.specs.Lent.{Lent}
use Rattle.flat_agreement.proofs.Accepted.{writable_short, takes_encode, takes_accepted, takes_short, flat_strictly, flat_ordinary, flat_strictly_so}
use Rattle.definition.specs.Over.{over_itself}
use Rattle.definition.specs.Sizes.{quality_fits}
use Rattle.flat_agreement.proofs.Sizes.{encode_sized, sized_encode}
use Rattle.flat_agreement.specs.Calls.{WriteCall, SizeCall, StrictCall, ReadCall, Room}
use Rattle.flat_agreement.proofs.Results.{wrote, was_read, held_count, held_description, held_takes}
use Rattle.flat_agreement.proofs.Holding.{typed_lent}
use Rattle.flat_agreement.specs.Theorems.{IsWritten, Returned}

-- (1) Written, then strictly read. A flat description that hopsickle_write wrote, strictly read from the octets written into arrays
-- that are long enough, is accepted; what is handed back equals it, and has zeros where nothing counts.
pub write_then_read : {form : Form} {n : ℕ} {k o : List ℕ} {cs : List ℤ} {qs : List ℕ} {old new : List ℕ} {size : ℕ}
    {k₀ k' o₀ o' : List ℕ} {cs₀ cs' : List ℤ} {qs₀ qs' : List ℕ} {r place : ℕ}
    → Lent k o cs qs → WriteCall form n k o cs qs old new 0 size → Room (nth k 9) n k₀ o₀ cs₀ qs₀ → StrictCall form n (take size new) k₀ k' o₀ o' cs₀ cs' qs₀ qs' r place
    → Returned form n k o cs qs k₀ k' o₀ o' cs₀ cs' qs₀ qs' r place
write_then_read {form} {n} {k} {o} {cs} {qs} {old} {new} {size} {k₀} {k'} {o₀} {o'} {cs₀} {cs'} {qs₀} {qs'} {r} {place} lent w room c =
    let w' = wrote w in
    let t = w'.takes in
    let d : Description = flat_description n k o cs qs in
    let l : ℕ = length_of form d in
    let a = takes_accepted form n k o cs qs lent t in
    let m = described_count n k o cs qs in
    let fit : SamplesFit n k cs qs = record { counts = t.counts_long; qualities = t.qualities_long } in
    let room' : Room (length d.asdus) n k₀ o₀ cs₀ qs₀ = rw m room in
    let f : flat_strict form n (length k₀) (length o₀) (length cs₀) (length qs₀) (take size new) ≡ accepted (d, l)
    = rw w'.octets
    (flat_strictly_so form n (length k₀) (length o₀) (length cs₀) (length qs₀) (frame_octets form d) (d, l) (written_then_strictly_read form n (length cs₀) (length qs₀) d a room'.counts room'.qualities) room'.numbers room'.octets) in
    let ek : k' ≡ over k₀ 0 (numbers_of (d, l)) = c.meets.numbers ∙ rw f in
    let eo : o' ≡ over o₀ 0 (octets_of (d, l)) = c.meets.octets ∙ rw f in
    let ec : cs' ≡ over cs₀ 0 (all_counts d.asdus) = c.meets.counts ∙ rw f in
    let eq : qs' ≡ over qs₀ 0 (all_qualities d.asdus) = c.meets.qualities ∙ rw f in
    let short = takes_short form n k o cs qs t in
    let t' = held_takes form n (d, l) a short k₀ o₀ cs₀ qs₀ room' ek eo ec eq in
    let s = described_samples n k o cs qs fit in
    record {
      number = c.meets.number ∙ rw f;
      place = c.meets.place ∙ rw f;
      same = described_same_flat n k o cs qs k' o' cs' qs' (sym (held_description form n (d, l) a short k₀ o₀ cs₀ qs₀ room' ek eo ec eq)) fit (record { counts = t'.counts_long; qualities = t'.qualities_long });
      numbers = ek;
      octets = eo;
      counts = ec ∙ rw s.0;
      qualities = eq ∙ rw s.1;
    }

-- (2) Strictly read, then written. Octets that hopsickle_read_strict accepts, written from the arrays handed back into a buffer that
-- has room for them: hopsickle_write answers 0 and their number, and the buffer starts with them and is otherwise as it was.
pub read_then_write : {form : Form} {n : ℕ} {s k k' o o' : List ℕ} {cs cs' : List ℤ} {qs qs' : List ℕ} {place : ℕ} {old new : List ℕ} {r size : ℕ}
    → Octets s → StrictCall form n s k k' o o' cs cs' qs qs' 0 place → length s ≤ length old → WriteCall form n k' o' cs' qs' old new r size
    → (r ≡ 0) × (size ≡ length s) × (new ≡ over old 0 s)
read_then_write {form} {n} {s} {k} {k'} {o} {o'} {cs} {cs'} {qs} {qs'} {place} {old} {new} {r} {size} bytes c l w =
    let (x, h) = was_read bytes c in
    let short = h.short in
    let t = held_takes form n x h.description short k o cs qs h.room h.numbers h.octets h.counts h.qualities in
    let f : frame_octets form (flat_description n k' o' cs' qs') ≡ s
    = ap (frame_octets form) (held_description form n x h.description short k o cs qs h.room h.numbers h.octets h.counts h.qualities) ∙ h.frame in
    let m : length (frame_octets form (flat_description n k' o' cs' qs')) ≡ length s = ap length f in
    let e : flat_encode form n k' o' cs' qs' (length old) ≡ accepted (length s) = takes_encode form n k' o' cs' qs' (length old) t (omega arith) ∙ ap accepted m in
    (w.meets.number ∙ rw e, w.meets.size ∙ rw e, w.meets.array ∙ rw (e, f))

-- a description that is held in arrays of just its size is written as its frame
held_written : (form : Form) (n : ℕ) (x : Description × ℕ) → Accepted form n x.0 → x.1 ≡ length_of form x.0 → IsWritten form n (length x.0.asdus) (frame_octets form x.0)
held_written form n x a l =
    let d = x.0 in
    let f = frame_octets form d in
    let short = writable_short form d a.fits in
    let w = within form d a.fits in
    let k = numbers_of x in
    let o = octets_of x in
    let cs = all_counts d.asdus in
    let qs = all_qualities d.asdus in
    let (lc, lq) = all_counts_lem n d.asdus a.typed.asdus in
    let room : Room (length d.asdus) n k o cs qs = record { numbers = omega (arith, length-numbers_of x); octets = omega (arith, length-octets_of n x a.typed short); counts = omega arith; qualities = omega arith } in
    let t = held_takes form n x a short k o cs qs room (over_itself k) (over_itself o) (over_itself cs) (over_itself qs) in
    let same : flat_description n k o cs qs ≡ d = held_description form n x a short k o cs qs room (over_itself k) (over_itself o) (over_itself cs) (over_itself qs) in
    let e : flat_encode form n k o cs qs (length f) ≡ accepted (length f) = takes_encode form n k o cs qs (length f) t (rw same (omega arith)) ∙ ap (λ (y : Description). accepted (length (frame_octets form y))) same in
    record {
      k = k;
      o = o;
      cs = cs;
      qs = qs;
      old = f;
      new = f;
      size = length f;
      lent = typed_lent n x a.typed short (omega (arith, l, w.size)) w.few;
      count = held_count form n x a short k o cs qs room (over_itself k) (over_itself o) (over_itself cs) (over_itself qs);
      call = record { meets = record { number = rw e; size = rw e; array = rw (e, same) (over_itself f) } };
      octets = take_all (length f) f (omega arith);
    }

-- (3) Accepted exactly. hopsickle_read_strict accepts octets exactly when some flat description of that number of channels, for whose
-- ASDUs the arrays lent have room, is one that hopsickle_write writes as these octets.
pub accepted_exactly : {form : Form} {n : ℕ} {s k k' o o' : List ℕ} {cs cs' : List ℤ} {qs qs' : List ℕ} {r place : ℕ} → Octets s → StrictCall form n s k k' o o' cs cs' qs qs' r place
    → (r ≡ 0 → (m : ℕ) × IsWritten form n m s × Room m n k o cs qs) × ((m : ℕ) → IsWritten form n m s → Room m n k o cs qs → r ≡ 0)
accepted_exactly {form} {n} {s} {k} {k'} {o} {o'} {cs} {cs'} {qs} {qs'} {r} {place} bytes c = (to, from)
  where
    to : r ≡ 0 → (m : ℕ) × IsWritten form n m s × Room m n k o cs qs
    to e =
        let (x, h) = was_read bytes (rw e at c) in
        let l = handed_back_lem form form n (length cs) (length qs) s bytes x.0 x.1 h.strict x.0 h.description h.frame in
        (length x.0.asdus, rw h.frame at (held_written form n x h.description l.1), h.room)

    from : (m : ℕ) → IsWritten form n m s → Room m n k o cs qs → r ≡ 0
    from m w room =
        let room' : Room (nth w.k 9) n k o cs qs = rw w.count room in
        let c' : StrictCall form n (take w.size w.new) k k' o o' cs cs' qs qs' r place = rw w.octets c in
        (write_then_read w.lent w.call room' c').number

-- (4) hopsickle_read then leaves the same. Of octets that hopsickle_read_strict accepts, with the same arrays lent, hopsickle_read
-- answers 0 and leaves the same in all four arrays.
pub ordinary_same : {form : Form} {n : ℕ} {s k k' o o' : List ℕ} {cs cs' : List ℤ} {qs qs' : List ℕ} {place : ℕ} {k'' o'' : List ℕ} {cs'' : List ℤ} {qs'' : List ℕ} {r place' : ℕ}
    → StrictCall form n s k k' o o' cs cs' qs qs' 0 place → ReadCall n s k k'' o o'' cs cs'' qs qs'' r place'
    → (r ≡ 0) × (place' ≡ 0) × (k'' ≡ k') × (o'' ≡ o') × (cs'' ≡ cs') × (qs'' ≡ qs')
ordinary_same {form} {n} {s} {k} {k'} {o} {o'} {cs} {cs'} {qs} {qs'} {place} {k''} {o''} {cs''} {qs''} {r} {place'} c h =
    let (x, e) = accepts_0 (flat_strict form n (length k) (length o) (length cs) (length qs) s) (strict_answered form n (length k) (length o) (length cs) (length qs) s) (sym c.meets.number) in
    go x e
  where
    go : (x : Description × ℕ) → flat_strict form n (length k) (length o) (length cs) (length qs) s ≡ accepted x → (r ≡ 0) × (place' ≡ 0) × (k'' ≡ k') × (o'' ≡ o') × (cs'' ≡ cs') × (qs'' ≡ qs')
    go x e =
        let (f, lk, lo) = flat_strictly form n (length k) (length o) (length cs) (length qs) s x e in
        let g : flat_read n (length k) (length o) (length cs) (length qs) s ≡ flat_strict form n (length k) (length o) (length cs) (length qs) s = flat_ordinary form n (length k) (length o) (length cs) (length qs) s x f lk lo ∙ sym e in (
          h.meets.number ∙ rw (g, e),
          h.meets.place ∙ rw (g, e),
          h.meets.numbers ∙ rw g (sym c.meets.numbers),
          h.meets.octets ∙ rw g (sym c.meets.octets),
          h.meets.counts ∙ rw g (sym c.meets.counts),
          h.meets.qualities ∙ rw g (sym c.meets.qualities),
        )

-- (5) One meaning. Two flat descriptions of n channels that hopsickle_write writes as the same octets, in whichever forms, are equal.
pub write_same : {form form' : Form} {n : ℕ} {k o : List ℕ} {cs : List ℤ} {qs : List ℕ} {old new : List ℕ} {size : ℕ} {k' o' : List ℕ} {cs' : List ℤ} {qs' : List ℕ} {old' new' : List ℕ} {size' : ℕ}
    → Lent k o cs qs → WriteCall form n k o cs qs old new 0 size → Lent k' o' cs' qs' → WriteCall form' n k' o' cs' qs' old' new' 0 size'
    → take size new ≡ take size' new' → SameFlat n k o cs qs k' o' cs' qs'
write_same {form} {form'} {n} {k} {o} {cs} {qs} {old} {new} {size} {k'} {o'} {cs'} {qs'} lent w lent' w' e =
    let v = wrote w in
    let v' = wrote w' in
    let t = v.takes in
    let t' = v'.takes in
    let same = one_meaning form form' n (flat_description n k o cs qs) (flat_description n k' o' cs' qs') (takes_accepted form n k o cs qs lent t) (takes_accepted form' n k' o' cs' qs' lent' t') (sym v.octets ∙ e ∙ v'.octets) in
    described_same_flat n k o cs qs k' o' cs' qs' same (record { counts = t.counts_long; qualities = t.qualities_long }) (record { counts = t'.counts_long; qualities = t'.qualities_long })

-- And equal flat descriptions that it writes in one form, it writes as the same octets.
pub same_write : {form : Form} {n : ℕ} {k o : List ℕ} {cs : List ℤ} {qs : List ℕ} {old new : List ℕ} {size : ℕ} {k' o' : List ℕ} {cs' : List ℤ} {qs' : List ℕ} {old' new' : List ℕ} {size' : ℕ}
    → WriteCall form n k o cs qs old new 0 size → WriteCall form n k' o' cs' qs' old' new' 0 size' → SameFlat n k o cs qs k' o' cs' qs'
    → take size new ≡ take size' new'
same_write {form} {n} {k} {o} {cs} {qs} {old} {new} {size} {k'} {o'} {cs'} {qs'} w w' s =
    (wrote w).octets ∙ ap (frame_octets form) (same_flat_described n k o cs qs k' o' cs' qs' s) ∙ sym (wrote w').octets

-- (6) Handed back. Every flat description that hopsickle_write wrote as octets, in whichever form, equals what hopsickle_read_strict
-- hands back of them.
pub handed_back_same : {form form' : Form} {n : ℕ} {k o : List ℕ} {cs : List ℤ} {qs : List ℕ} {old new : List ℕ} {size : ℕ} {k₀ k' o₀ o' : List ℕ} {cs₀ cs' : List ℤ} {qs₀ qs' : List ℕ} {place : ℕ}
    → Lent k o cs qs → WriteCall form' n k o cs qs old new 0 size → Octets (take size new) → StrictCall form n (take size new) k₀ k' o₀ o' cs₀ cs' qs₀ qs' 0 place
    → SameFlat n k o cs qs k' o' cs' qs'
handed_back_same {form} {form'} {n} {k} {o} {cs} {qs} {old} {new} {size} {k₀} {k'} {o₀} {o'} {cs₀} {cs'} {qs₀} {qs'} lent w bytes c =
    let (x, h) = was_read bytes c in
    let v = wrote w in
    let t = v.takes in
    let t' = held_takes form n x h.description h.short k₀ o₀ cs₀ qs₀ h.room h.numbers h.octets h.counts h.qualities in
    let d : flat_description n k o cs qs ≡ x.0 = one_meaning form' form n (flat_description n k o cs qs) x.0 (takes_accepted form' n k o cs qs lent t) h.description (sym v.octets ∙ sym h.frame) in
    let d' = held_description form n x h.description h.short k₀ o₀ cs₀ qs₀ h.room h.numbers h.octets h.counts h.qualities in
    described_same_flat n k o cs qs k' o' cs' qs' (d ∙ sym d') (record { counts = t.counts_long; qualities = t.qualities_long }) (record { counts = t'.counts_long; qualities = t'.qualities_long })

-- (7) The size. What hopsickle_write writes has the size that hopsickle_size answers.
pub write_sized : {form : Form} {n : ℕ} {k o : List ℕ} {cs : List ℤ} {qs : List ℕ} {old new : List ℕ} {size : ℕ} {r size' : ℕ}
    → WriteCall form n k o cs qs old new 0 size → SizeCall form n k o r size' → (r ≡ 0) × (size' ≡ size)
write_sized {form} {n} {k} {o} {cs} {qs} {old} {new} {size} w z =
    let v = wrote w in
    let e = encode_sized n k o cs qs (record { counts = v.takes.counts_long; qualities = v.takes.qualities_long }) form (length old) v.answer in
    (z.meets.0 ∙ rw e, z.meets.1 ∙ rw e)

-- And a buffer of the size that it answers is enough: with that many counts and quality words hopsickle_write answers 0 and that
-- size, or 9 and 0 where one of the quality words is 2^13 or more.
pub size_enough : {form : Form} {n : ℕ} {k o : List ℕ} {cs : List ℤ} {qs : List ℕ} {old new : List ℕ} {size r size' : ℕ}
    → SizeCall form n k o 0 size → nth k 9 * n ≤ length cs → nth k 9 * n ≤ length qs → size ≤ length old → WriteCall form n k o cs qs old new r size'
    → (r ≡ number_of (refuse (not (all quality_fits (take (nth k 9 * n) qs))) bad_description (accepted size)))
    × (size' ≡ beside_it (λ n. n) (refuse (not (all quality_fits (take (nth k 9 * n) qs))) bad_description (accepted size)))
size_enough {form} {n} {k} {o} {cs} {qs} {old} {new} {size} {r} {size'} z lc lq room w =
    let (m, e) = accepts_0 (flat_size form n k o) (size_answered form n k o) (sym z.meets.0) in
    let s : flat_size form n k o ≡ accepted size = e ∙ ap accepted (sym (z.meets.1 ∙ ap (beside_it (λ n. n)) e)) in
    let f = sized_encode n k o cs qs (record { counts = lc; qualities = lq }) form (length old) s room in
    (w.meets.number ∙ ap number_of f, w.meets.size ∙ ap (beside_it (λ n. n)) f)
