-- What an ordinary reading that is accepted says: there are at most 24 channels and 8 ASDUs, and as many counts as its values are worked
-- out of. And strict reading that accepts is such a reading, with the same results.
use Rattle.std.specs.Prelude.{◌≡◌, refl, List, ℕ, ◌*◌, ◌≤◌, ◌<◌, ltb, ℤ, length, drop, Result, Ok}
use Rattle.std.proofs.Common.{sym, ap, ◌∙◌, arith, ltb-false}
use Rattle.definition.specs.Limits.{max_channels, max_asdus, no_room}
use Rattle.definition.specs.Frame.{Form, Description, Octets}
use Rattle.definition.specs.Answers.{Answer, accepted, refusal, read_frame, held_by, ordinary_read, strict_read, over, all_counts}
use Rattle.definition.proofs.Agreement.{passed, ordinary_agrees}
use Rattle.definition.proofs.Sound.{ReadTyped, read_typed}
use Rattle.definition.proofs.Numbers.{accepts_0, read_answered}
use Rattle.definition.specs.Over.{over_start, over_length}
use Rattle.definition.proofs.Samples.{all_counts_lem}
use Rattle.definition.specs.Flat.{numbers_for, octets_for, numbers_of, nth, flat_held, flat_read, flat_strict}
use Rattle.definition.proofs.FlatBack.{length-numbers_of, count_held_lem}
use Rattle.rt_services.specs.declared.SavRead.{SavRead}
use Rattle.rt_services.specs.declared.Refusal.{Refusal}
use Rattle.rt_services.specs.Told.{sav_read}
use Rattle.rt_services.proofs.Reasons.{told_same}
use Rattle.record_agreement.specs.Calls.{ReadsOrdinarily, ReadsStrictly}
use Rattle.record_agreement.specs.Results.{saved_count, accepts}
use Rattle.flat_agreement.specs.Calls.{ReadCall, StrictCall}
use Rattle.flat_agreement.proofs.Accepted.{flat_strictly, flat_ordinary, flat_strictly_so}
use Rattle.flat_agreement.proofs.Results.{was_read}

-- n channels and noASDU ASDUs, with so many counts
pub record AcceptedReading (n no_asdu : ℕ) (cs : List ℤ) : Type 0 where
  pub channels : n ≤ max_channels
  pub asdus : no_asdu ≤ max_asdus
  pub counts : no_asdu * n ≤ length cs

no_way : {A P : Type 0} {k at : ℕ} {x : A} → ◌≡◌ {A = Answer A} (refusal k at) (accepted x) → P
no_way e = let z : ◌≡◌ {A = ℕ} 0 1 = cc in absurd (omega arith)

-- what is accepted fits the array of counts, whose length stays
ordinary_accepted : (n b : ℕ) (s : List ℕ) (cs : List ℤ) (x : Description × ℕ) → Octets s → ordinary_read n (length cs) b s ≡ accepted x → AcceptedReading n (length x.0.asdus) (over cs 0 (all_counts x.0.asdus))
unfolding ordinary_read held_by
ordinary_accepted n b s cs x bytes e = go (read_frame n s) refl e
  where
    go : (r : Answer (Description × ℕ)) → read_frame n s ≡ r → held_by (λ (y : Description × ℕ). y.0.asdus) n (length cs) b r ≡ accepted x → AcceptedReading n (length x.0.asdus) (over cs 0 (all_counts x.0.asdus))
    go (refusal k at) g h = no_way h
    go (accepted y) g h =
        let p1 = passed (ltb (length cs) (length y.0.asdus * n)) no_room _ h in
        let p2 = passed (ltb b (length y.0.asdus * n)) no_room _ p1.1 in
        let same : y ≡ x = cc p2.1 in
        let t : ReadTyped n x.0 = rw same at (read_typed n s bytes y.0 y.1 g) in
        let room : length x.0.asdus * n ≤ length cs = rw same at (ltb-false (length cs) (length y.0.asdus * n) p1.0) in
        let l = all_counts_lem n x.0.asdus t.typed.asdus in
        record { channels = t.channels; asdus = t.few; counts = omega (arith, over_length cs 0 (all_counts x.0.asdus) (omega (arith, l.0, room)), room) }

-- ---- records

pub accepted_reading : {n : ℕ} {s : List ℕ} {cs cs' : List ℤ} {qs qs' : List ℕ} {r : SavRead} → Octets s → ReadsOrdinarily n s cs cs' qs qs' (Ok r) → AcceptedReading n r.pdu.no_asdu cs'
accepted_reading {n} {s} {cs} {cs'} {qs} {qs'} {r} bytes c = go (ordinary_read n (length cs) (length qs) s) refl
  where
    go : (a : Answer (Description × ℕ)) → ordinary_read n (length cs) (length qs) s ≡ a → AcceptedReading n r.pdu.no_asdu cs'
    go (refusal k at) e = let z : accepted r ≡ refusal k at = c.meets.read ∙ rw e in cc z
    go (accepted x) e =
        let z : accepted r ≡ accepted (sav_read x) = c.meets.read ∙ rw e in
        let same : r ≡ sav_read x = cc z in
        let m : r.pdu.no_asdu ≡ length x.0.asdus = ap (λ (v : SavRead). v.pdu.no_asdu) same ∙ saved_count x.0 x.1 in
        let i : cs' ≡ over cs 0 (all_counts x.0.asdus) = c.meets.counts_are ∙ rw e in
        rw (m, i) (ordinary_accepted n (length qs) s cs x bytes e)

-- of octets that strict reading accepts, the results of either reading are those of the other
pub as_ordinary : {form : Form} {n : ℕ} {s : List ℕ} {cs cs' : List ℤ} {qs qs' : List ℕ} {r : SavRead} → ReadsStrictly form n s cs cs' qs qs' (Ok r) → ReadsOrdinarily n s cs cs' qs qs' (Ok r)
as_ordinary {form} {n} {s} {cs} {cs'} {qs} {qs'} c =
    let (x, e) = accepts c in
    record { meets = rw (e ∙ sym (ordinary_agrees form n (length cs) (length qs) s x.0 x.1 e)) at c.meets }

pub as_strict : (form : Form) {n : ℕ} {s : List ℕ} {cs cs' : List ℤ} {qs qs' : List ℕ} {r : Result SavRead Refusal} (x : Description × ℕ) → ReadsOrdinarily n s cs cs' qs qs' r
    → strict_read form n (length cs) (length qs) s ≡ accepted x → ReadsStrictly form n s cs cs' qs qs' r × (r ≡ Ok (sav_read x))
as_strict form {n} {s} {cs} {cs'} {qs} {qs'} {r} x c e =
    let same : ordinary_read n (length cs) (length qs) s ≡ strict_read form n (length cs) (length qs) s = ordinary_agrees form n (length cs) (length qs) s x.0 x.1 e ∙ sym e in
    (record { meets = rw same at c.meets }, told_same r (Ok (sav_read x)) (c.meets.read ∙ rw (same, e)))

-- ---- the calls of the static library

-- noASDU is number 9
pub record AcceptedCall (n : ℕ) (k : List ℕ) (cs : List ℤ) : Type 0 where
  pub number : 9 < length k
  pub reading : AcceptedReading n (nth k 9) cs

flat_held_lem : (n a b c e : ℕ) (s : List ℕ) (x : Description × ℕ) → flat_read n a b c e s ≡ accepted x → (ordinary_read n c e s ≡ accepted x) × (numbers_for (length x.0.asdus) ≤ a)
unfolding flat_read flat_held
flat_held_lem n a b c e s x f = go (ordinary_read n c e s) refl f
  where
    go : (r : Answer (Description × ℕ)) → ordinary_read n c e s ≡ r → flat_held a b r ≡ accepted x → (ordinary_read n c e s ≡ accepted x) × (numbers_for (length x.0.asdus) ≤ a)
    go (refusal k at) g h = no_way h
    go (accepted y) g h =
        let p1 = passed (ltb a (numbers_for (length y.0.asdus))) no_room _ h in
        let p2 = passed (ltb b (octets_for (length y.0.asdus))) no_room _ p1.1 in
        let same : y ≡ x = cc p2.1 in
        (g ∙ p2.1, rw same at (ltb-false a (numbers_for (length y.0.asdus)) p1.0))

pub accepted_call : {n : ℕ} {s k k' o o' : List ℕ} {cs cs' : List ℤ} {qs qs' : List ℕ} {place : ℕ} → Octets s → ReadCall n s k k' o o' cs cs' qs qs' 0 place → AcceptedCall n k' cs'
accepted_call {n} {s} {k} {k'} {o} {o'} {cs} {cs'} {qs} {qs'} bytes c =
    let (x, f) = accepts_0 (flat_read n (length k) (length o) (length cs) (length qs) s) (read_answered n (length k) (length o) (length cs) (length qs) s) (sym c.meets.number) in
    go x f
  where
    go : (x : Description × ℕ) → flat_read n (length k) (length o) (length cs) (length qs) s ≡ accepted x → AcceptedCall n k' cs'
    go x f =
        let (e, room) = flat_held_lem n (length k) (length o) (length cs) (length qs) s x f in
        let ek : k' ≡ over k 0 (numbers_of x) = c.meets.numbers ∙ rw f in
        let ec : cs' ≡ over cs 0 (all_counts x.0.asdus) = c.meets.counts ∙ rw f in
        let m : nth k' 9 ≡ length x.0.asdus = rw (ek, over_start k (numbers_of x)) (count_held_lem x (drop (length (numbers_of x)) k)) in
        let long : length k' ≡ length k = ap length ek ∙ over_length k 0 (numbers_of x) (omega (arith, length-numbers_of x, room)) in
        record { number = omega (arith, long, room); reading = rw (m, ec) (ordinary_accepted n (length qs) s cs x bytes e) }

pub call_as_ordinary : {form : Form} {n : ℕ} {s k k' o o' : List ℕ} {cs cs' : List ℤ} {qs qs' : List ℕ} {place : ℕ} → Octets s → StrictCall form n s k k' o o' cs cs' qs qs' 0 place → ReadCall n s k k' o o' cs cs' qs qs' 0 place
call_as_ordinary {form} {n} {s} {k} {k'} {o} {o'} {cs} {cs'} {qs} {qs'} bytes c =
    let (x, h) = was_read bytes c in
    let a = flat_ordinary form n (length k) (length o) (length cs) (length qs) s x h.strict h.room.numbers h.room.octets in
    let e = flat_strictly_so form n (length k) (length o) (length cs) (length qs) s x h.strict h.room.numbers h.room.octets in
    record { meets = rw (e ∙ sym a) at c.meets }

pub call_as_strict : (form : Form) {n : ℕ} {s k k' o o' : List ℕ} {cs cs' : List ℤ} {qs qs' : List ℕ} {r place : ℕ} (x : Description × ℕ) → ReadCall n s k k' o o' cs cs' qs qs' r place
    → flat_strict form n (length k) (length o) (length cs) (length qs) s ≡ accepted x → StrictCall form n s k k' o o' cs cs' qs qs' 0 place × (r ≡ 0)
call_as_strict form {n} {s} {k} {k'} {o} {o'} {cs} {cs'} {qs} {qs'} {r} x c e =
    let (f, lk, lo) = flat_strictly form n (length k) (length o) (length cs) (length qs) s x e in
    let a = flat_ordinary form n (length k) (length o) (length cs) (length qs) s x f lk lo in
    let z : r ≡ 0 = c.meets.number ∙ rw a in
    (record { meets = rw z at (rw (a ∙ sym e) at c.meets) }, z)
