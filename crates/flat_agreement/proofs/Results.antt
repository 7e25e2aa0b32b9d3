-- What a call that answers 0 says: of the writer, what it takes and what it leaves; of strict reading, what it accepts and that the
-- arrays handed back are taken by the writer.
use Rattle.std.specs.Prelude.{◌≡◌, List, ℕ, ◌≤◌, length, take, drop, ℤ}
use Rattle.std.proofs.Common.{sym, ap, ◌∙◌, arith}
use Rattle.definition.specs.Frame.{Form, Description, frame_octets, Octets, Accepted}
use Rattle.definition.specs.Answers.{accepted, strict_read, over, all_counts, all_qualities}
use Rattle.definition.proofs.Agreement.{accepted_is_frame}
use Rattle.definition.proofs.Sound.{Short}
use Rattle.definition.proofs.Numbers.{accepts_0, encode_answered, strict_answered}
use Rattle.definition.specs.Over.{over_start, take_over, over_length}
use Rattle.definition.proofs.Samples.{all_counts_lem}
use Rattle.definition.specs.Flat.{numbers_of, octets_of, nth, flat_description, flat_strict, flat_encode}
use Rattle.definition.proofs.FlatBack.{length-numbers_of, length-octets_of, count_held_lem, flat_back, flat_stands}
use Rattle.flat_agreement.proofs.Accepted.{writable_short, Takes, encode_takes, flat_strictly}
use Rattle.flat_agreement.specs.Calls.{WriteCall, StrictCall, Room}

-- what the writer takes, and what it leaves at the start of the buffer
pub record WroteFrame (form : Form) (n : ℕ) (k o : List ℕ) (cs : List ℤ) (qs : List ℕ) (old new : List ℕ) (size : ℕ) : Type 0 where
  pub takes : Takes form n k o cs qs
  pub answer : flat_encode form n k o cs qs (length old) ≡ accepted size
  pub size_is : size ≡ length (frame_octets form (flat_description n k o cs qs))
  pub octets : take size new ≡ frame_octets form (flat_description n k o cs qs)
  pub within : size ≤ length new

pub wrote : {form : Form} {n : ℕ} {k o : List ℕ} {cs : List ℤ} {qs : List ℕ} {old new : List ℕ} {size : ℕ} → WriteCall form n k o cs qs old new 0 size → WroteFrame form n k o cs qs old new size
wrote {form} {n} {k} {o} {cs} {qs} {old} {new} {size} w =
    let (m, e) = accepts_0 (flat_encode form n k o cs qs (length old)) (encode_answered form n k o cs qs (length old)) (sym w.meets.number) in
    go m e
  where
    go : (m : ℕ) → flat_encode form n k o cs qs (length old) ≡ accepted m → WroteFrame form n k o cs qs old new size
    go m e =
        let f = frame_octets form (flat_description n k o cs qs) in
        let t = encode_takes form n k o cs qs (length old) e in
        let s : size ≡ m = w.meets.size ∙ rw e in
        let a : new ≡ over old 0 f = w.meets.array ∙ rw e in
        record { takes = t.0; answer = e ∙ ap accepted (sym s); size_is = s ∙ t.1; octets = rw a (take_over old f size (sym (s ∙ t.1))); within = rw a (omega (arith, over_length old 0 f (omega (arith, t.2)), t.1, t.2)) }

-- what strict reading accepts: x, which it leaves at the start of the arrays
pub record Read (form : Form) (n : ℕ) (s k k' o o' : List ℕ) (cs cs' : List ℤ) (qs qs' : List ℕ) (x : Description × ℕ) : Type 0 where
  pub strict : strict_read form n (length cs) (length qs) s ≡ accepted x
  pub room : Room (length x.0.asdus) n k o cs qs
  pub description : Accepted form n x.0
  pub short : Short x.0
  pub frame : frame_octets form x.0 ≡ s
  pub numbers : k' ≡ over k 0 (numbers_of x)
  pub octets : o' ≡ over o 0 (octets_of x)
  pub counts : cs' ≡ over cs 0 (all_counts x.0.asdus)
  pub qualities : qs' ≡ over qs 0 (all_qualities x.0.asdus)

pub was_read : {form : Form} {n : ℕ} {s k k' o o' : List ℕ} {cs cs' : List ℤ} {qs qs' : List ℕ} {place : ℕ} → Octets s → StrictCall form n s k k' o o' cs cs' qs qs' 0 place
    → (x : Description × ℕ) × Read form n s k k' o o' cs cs' qs qs' x
was_read {form} {n} {s} {k} {k'} {o} {o'} {cs} {cs'} {qs} {qs'} bytes c =
    let (x, e) = accepts_0 (flat_strict form n (length k) (length o) (length cs) (length qs) s) (strict_answered form n (length k) (length o) (length cs) (length qs) s) (sym c.meets.number) in
    (x, go x e)
  where
    go : (x : Description × ℕ) → flat_strict form n (length k) (length o) (length cs) (length qs) s ≡ accepted x → Read form n s k k' o o' cs cs' qs qs' x
    go x e =
        let (f, lk, lo) = flat_strictly form n (length k) (length o) (length cs) (length qs) s x e in
        let (a, lc, lq, same) = accepted_is_frame form n (length cs) (length qs) s bytes x.0 x.1 f in
        record {
          strict = f;
          room = record { numbers = lk; octets = lo; counts = lc; qualities = lq };
          description = a;
          short = writable_short form x.0 a.fits;
          frame = same;
          numbers = c.meets.numbers ∙ rw e;
          octets = c.meets.octets ∙ rw e;
          counts = c.meets.counts ∙ rw e;
          qualities = c.meets.qualities ∙ rw e;
        }

-- arrays that hold x, whatever was in them, are taken by the writer where x's description is accepted, and stand for it
module _ (form : Form) (n : ℕ) (x : Description × ℕ) (a : Accepted form n x.0) (short : Short x.0) (k o : List ℕ) (cs : List ℤ) (qs : List ℕ) (room : Room (length x.0.asdus) n k o cs qs)
    {k' o' : List ℕ} {cs' : List ℤ} {qs' : List ℕ} (ek : k' ≡ over k 0 (numbers_of x)) (eo : o' ≡ over o 0 (octets_of x)) (ec : cs' ≡ over cs 0 (all_counts x.0.asdus)) (eq : qs' ≡ over qs 0 (all_qualities x.0.asdus)) where
  pub held_count : nth k' 9 ≡ length x.0.asdus
  held_count = rw (ek, over_start k (numbers_of x)) (count_held_lem x (drop (length (numbers_of x)) k))

  pub held_description : flat_description n k' o' cs' qs' ≡ x.0
  held_description =
      rw (ek, eo, ec, eq, over_start k (numbers_of x), over_start o (octets_of x), over_start cs (all_counts x.0.asdus), over_start qs (all_qualities x.0.asdus))
      (flat_back n x a.typed short _ _ _ _)

  pub held_takes : Takes form n k' o' cs' qs'
  held_takes =
      let s = all_counts_lem n x.0.asdus a.typed.asdus in
      record {
        channels = a.channels;
        numbers_long = rw (held_count, ek) (omega (arith, over_length k 0 (numbers_of x) (omega (arith, length-numbers_of x, room.numbers)), room.numbers));
        octets_long = rw (held_count, eo) (omega (arith, over_length o 0 (octets_of x) (omega (arith, length-octets_of n x a.typed short, room.octets)), room.octets));
        counts_long = rw (held_count, ec) (omega (arith, over_length cs 0 (all_counts x.0.asdus) (omega (arith, s.0, room.counts)), room.counts));
        qualities_long = rw (held_count, eq) (omega (arith, over_length qs 0 (all_qualities x.0.asdus) (omega (arith, s.1, room.qualities)), room.qualities));
        stood = rw (ek, over_start k (numbers_of x)) (flat_stands n x a.typed short _);
        writes = rw held_description a.fits;
      }
