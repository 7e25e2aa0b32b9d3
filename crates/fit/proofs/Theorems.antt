-- What checked reading has to do with ordinary and with strict reading, for records and for flat arrays.
use Rattle.std.specs.Prelude.{◌≡◌, refl, List, [], ◌∷◌, ◌++◌, map, Bool, true, false, cond, ℕ, ◌*◌, length, ltb, eqb}
use Rattle.std.proofs.Common.{sym, ap, ◌∙◌, arith, eq-eqb, eqb-true}
use Rattle.std.specs.Prelude.{Option, Some, None}
use Rattle.std.proofs.lemmas.Bool.{eqb-false}
use Rattle.definition.specs.Limits.{max_channels, no_room, not_as_written, too_many_channels, lengths_differ}
use Rattle.definition.specs.Frame.{Description, Form, All, Octets, Accepted, writable, frame_octets}
use Rattle.definition.specs.Read.{Out, got, refused, then, asdus_at, pdu_at, Header, header_at}
use Rattle.definition.specs.Placed.{Placed, placeds_at, complete, Start, start_at, started_pdu}
use Rattle.definition.proofs.PlacedLaws.{asdus_placed, pdu_start}
use Rattle.definition.specs.Answers.{Answer, accepted, refusal, refuse, answer, described, read_as, read_frame, ordinary_read, differ, unless_at, again, strict_read}
use Rattle.definition.specs.Flat.{numbers_for, octets_for, flat_held, flat_read, flat_strict}
use Rattle.definition.proofs.Numbers.{AnsweredUpto, no_from_1, ordinary_answered, read_answered}
use Rattle.definition.proofs.Trip.{written_back}
use Rattle.definition.proofs.Agreement.{accepted_is_frame, ordinary_agrees}
use Rattle.fit.specs.Fit.{asdus_in, misfit, misfit_in, checked, checked_read, flat_checked}

no_way : {A : Type 0} {P : Type 0} {k p : ℕ} {x : A} → ◌≡◌ {A = Answer A} (refusal k p) (accepted x) → P
no_way e = let z : ◌≡◌ {A = ℕ} 0 1 = cc in absurd (omega arith)

-- ---- checked reading and ordinary reading

-- what a reading of s and the checked reading beside it have to do with each other
pub record Checks (n : ℕ) (s : List ℕ) (read check : Answer (Description × ℕ)) : Type 0 where
  -- what checked reading accepts, ordinary reading answers with the same
  pub accepts : {x : Description × ℕ} → check ≡ accepted x → read ≡ accepted x
  -- what ordinary reading refuses, checked reading refuses with the same number and place
  pub refuses : {k p : ℕ} → read ≡ refusal k p → check ≡ refusal k p
  -- and what checked reading refuses with anything but 13, ordinary reading refuses so
  pub else : {k p : ℕ} → check ≡ refusal k p → (k ≡ lengths_differ → ⊥) → read ≡ refusal k p
  -- 13 is answered where ordinary reading accepts and lengths differ, with the place of the earliest,
  pub differs : {x : Description × ℕ} {p : ℕ} → read ≡ accepted x → misfit_in n s ≡ Some p → check ≡ refusal lengths_differ p
  -- and nowhere else
  pub only : {p : ℕ} → check ≡ refusal lengths_differ p → (x : Description × ℕ) × ((read ≡ accepted x) × (misfit_in n s ≡ Some p))
  -- what ordinary reading accepts, checked reading accepts where no lengths differ,
  pub fits : {x : Description × ℕ} → read ≡ accepted x → misfit_in n s ≡ None → check ≡ accepted x
  -- and only there
  pub fits_only : {x : Description × ℕ} → check ≡ accepted x → misfit_in n s ≡ None

module _ (n : ℕ) (s : List ℕ) where
  accepted_of : (o : Option ℕ) (r : Answer (Description × ℕ)) {x : Description × ℕ} → checked o r ≡ accepted x → (r ≡ accepted x) × (o ≡ None)
  accepted_of o (refusal k p) e = no_way e
  accepted_of None (accepted y) e = (e, refl)
  accepted_of (Some p) (accepted y) e = no_way e

  else_of : (o : Option ℕ) (r : Answer (Description × ℕ)) {k p : ℕ} → checked o r ≡ refusal k p → (k ≡ lengths_differ → ⊥) → r ≡ refusal k p
  else_of o (refusal j q) e f = e
  else_of None (accepted y) e f = no_way (sym e)
  else_of (Some q) (accepted y) {k} e f = let z : lengths_differ ≡ k = cc in absurd (f (sym z))

  only_of : (o : Option ℕ) (r : Answer (Description × ℕ)) → AnsweredUpto 8 r → {p : ℕ} → checked o r ≡ refusal lengths_differ p → (x : Description × ℕ) × ((r ≡ accepted x) × (o ≡ Some p))
  only_of o (refusal k q) (no_from_1 h) e = let z : k ≡ lengths_differ = cc in absurd (omega (arith, h.1))
  only_of None (accepted y) h e = no_way (sym e)
  only_of (Some q) (accepted y) h {p} e = let z : q ≡ p = cc in (y, (refl, ap Some z))

  checks_of : (r : Answer (Description × ℕ)) → AnsweredUpto 8 r → Checks n s r (checked (misfit_in n s) r)
  checks_of r h = record {
    accepts = λ e. (accepted_of (misfit_in n s) r e).0;
    refuses = λ e. rw e;
    else = λ e f. else_of (misfit_in n s) r e f;
    differs = λ e f. rw (e, f);
    only = λ e. only_of (misfit_in n s) r h e;
    fits = λ e f. rw (e, f);
    fits_only = λ e. (accepted_of (misfit_in n s) r e).1;
  }

-- (1) Checked reading of a frame, and ordinary reading.
pub checks : (n a b : ℕ) (s : List ℕ) → Checks n s (ordinary_read n a b s) (checked_read n a b s)
unfolding checked_read
checks n a b s = checks_of n s (ordinary_read n a b s) (ordinary_answered n a b s)

-- (2) The same into the arrays of a flat description.
pub flat_checks : (n a b c e : ℕ) (s : List ℕ) → Checks n s (flat_read n a b c e s) (flat_checked n a b c e s)
unfolding flat_checked
flat_checks n a b c e s = checks_of n s (flat_read n a b c e s) (read_answered n a b c e s)

-- ---- which ASDUs are checked, and what is found

-- (3) The ASDUs whose lengths are looked at are those that reading hands back, all of them and in their order.
pub same_asdus : (n : ℕ) (s : List ℕ) (d : Description) (len : ℕ) → read_frame n s ≡ read_as d len
    → (l : List Placed) × ((end : ℕ) × ((asdus_in n s ≡ got l end) × (map (complete n s) l ≡ d.asdus)))
unfolding read_frame asdus_in described
same_asdus n s d len e = go (ltb max_channels n) (header_at s) e
  where
    third : (h : Header) (x : Start) (o : Out (List Placed))
        → answer (then (then o (λ l end. got (map (complete n s) l) end)) (λ l at. got (started_pdu s x l) at)) (λ p end. read_as (described h p) h.len) ≡ read_as d len
        → (l : List Placed) × ((end : ℕ) × ((o ≡ got l end) × (map (complete n s) l ≡ d.asdus)))
    third h x (refused k p) e = no_way e
    third h x (got l end) e =
        let z : ◌≡◌ {A = Description × ℕ} (described h (started_pdu s x (map (complete n s) l)), h.len) (d, len) = cc in
        (l, (end, (refl, ap (λ (y : Description × ℕ). y.0.asdus) z)))

    second : (h : Header) (at : ℕ) (o : Out Start)
        → answer (then o (λ x at. then (asdus_at n x.no_asdu s at) (λ l at. got (started_pdu s x l) at))) (λ p end. read_as (described h p) h.len) ≡ read_as d len
        → (l : List Placed) × ((end : ℕ) × ((then o (λ x at. placeds_at n x.no_asdu s at) ≡ got l end) × (map (complete n s) l ≡ d.asdus)))
    second h at (refused k p) e = no_way e
    second h at (got x q) e = third h x (placeds_at n x.no_asdu s q) (rw (asdus_placed n x.no_asdu s q) at e)

    go : (t : Bool) (o : Out Header) → refuse t too_many_channels (answer o (λ h at. answer (pdu_at n s at) (λ p end. read_as (described h p) h.len))) ≡ read_as d len
        → (l : List Placed) × ((end : ℕ) × ((then o (λ h at. then (start_at s at) (λ x at. placeds_at n x.no_asdu s at)) ≡ got l end) × (map (complete n s) l ≡ d.asdus)))
    go true o e = no_way e
    go false (refused k p) e = no_way e
    go false (got h at) e = second h at (start_at s at) (rw (pdu_start n s at) at e)

-- the length after 87 is 8 times the channels
abbrev pub Fits : ℕ → Placed → Type 0
Fits n x = x.size ≡ 8 * n

-- the earliest ASDU of a list whose length differs, and the octet after that length
pub record Earliest (n : ℕ) (l : List Placed) (p : ℕ) : Type 0 where
  pub before : List Placed
  pub asdu : Placed
  pub after : List Placed
  pub is : l ≡ before ++ (asdu ∷ after)
  pub fit : All (Fits n) before
  pub differs : Fits n asdu → ⊥
  pub place : p ≡ asdu.place

-- (4) What is found is the earliest such ASDU; where nothing is found, all lengths are 8 times the channels.
pub earliest : (n : ℕ) (l : List Placed) (p : ℕ) → misfit n l ≡ Some p → Earliest n l p
unfolding misfit All
earliest n [] p e = let z : ◌≡◌ {A = ℕ} 0 1 = cc in absurd (omega arith)
earliest n (x ∷ l) p e = go (eqb x.size (8 * n)) refl e (earliest n l p)
  where
    go : (t : Bool) → eqb x.size (8 * n) ≡ t → cond t (misfit n l) (Some x.place) ≡ Some p → (misfit n l ≡ Some p → Earliest n l p) → Earliest n (x ∷ l) p
    go true f e rest =
        let r = rest e in
        record { before = x ∷ r.before; asdu = r.asdu; after = r.after; is = ap (λ (m : List Placed). x ∷ m) r.is; fit = (eqb-true _ _ f, r.fit); differs = r.differs; place = r.place }
    go false f e rest =
        let z : x.place ≡ p = cc in
        record { before = []; asdu = x; after = l; is = refl; fit = tt; differs = eqb-false _ _ f; place = sym z }

pub all_fit : (n : ℕ) (l : List Placed) → misfit n l ≡ None → All (Fits n) l
unfolding misfit All
all_fit n [] e = tt
all_fit n (x ∷ l) e = go (eqb x.size (8 * n)) refl e (all_fit n l)
  where
    go : (t : Bool) → eqb x.size (8 * n) ≡ t → cond t (misfit n l) (Some x.place) ≡ None → (misfit n l ≡ None → All (Fits n) l) → Fits n x × All (Fits n) l
    go true f e rest = (eqb-true _ _ f, rest e)
    go false f e rest = let z : ◌≡◌ {A = ℕ} 0 1 = cc in absurd (omega arith)

pub none_found : (n : ℕ) (l : List Placed) → All (λ (x : Placed). x.size ≡ n * 8) l → misfit n l ≡ None
unfolding misfit All
none_found n [] h = refl
none_found n (x ∷ l) h = rw (eq-eqb x.size (8 * n) (omega (arith, h.0))) (none_found n l h.1)

-- ---- checked reading and strict reading

-- in the frame of an accepted description, in either form, no lengths differ
written_fits : (form : Form) (n : ℕ) (d : Description) → Accepted form n d → misfit_in n (frame_octets form d) ≡ None
unfolding misfit_in asdus_in
written_fits form n d a =
    let w = written_back form n d a in
    rw (w.header.head, w.pdu.start, w.pdu.asdus.is) (none_found n w.pdu.asdus.asdus w.pdu.asdus.sizes)

module _ (form : Form) (n a b : ℕ) (s : List ℕ) (bytes : Octets s) (d : Description) (l : ℕ) where
  strict_none : strict_read form n a b s ≡ read_as d l → misfit_in n s ≡ None
  strict_none e =
      let h = accepted_is_frame form n a b s bytes d l e in
      ap (misfit_in n) (sym h.3) ∙ written_fits form n d h.0

  -- (5) What strict reading accepts, in either form, checked reading accepts with the same answer.
  pub strict_passes : strict_read form n a b s ≡ read_as d l → checked_read n a b s ≡ read_as d l
  strict_passes e = (checks n a b s).fits (ordinary_agrees form n a b s d l e) (strict_none e)

-- what is accepted was accepted before the frame was compared, and before the room for numbers and octets was asked
again_before : (form : Form) (s : List ℕ) (r : Answer (Description × ℕ)) (x : Description × ℕ) → again form s r ≡ accepted x → (r ≡ accepted x) × (again form s (accepted x) ≡ accepted x)
unfolding again
again_before form s (refusal k p) x e = no_way e
again_before form s (accepted y) x e = let z : y ≡ x = go (writable form y.0) (differ 0 s (frame_octets form y.0)) e in (ap accepted z, rw z at e)
  where
    go : (t : Bool) (o : Option ℕ) → cond t (unless_at o (accepted y)) (refusal not_as_written 0) ≡ accepted x → y ≡ x
    go true None e = cc
    go true (Some p) e = no_way e
    go false o e = no_way e

held_before : (a b : ℕ) (r : Answer (Description × ℕ)) (x : Description × ℕ) → flat_held a b r ≡ accepted x → r ≡ accepted x
unfolding flat_held
held_before a b (refusal k p) x e = no_way e
held_before a b (accepted y) x e = go (ltb a (numbers_for (length y.0.asdus))) (ltb b (octets_for (length y.0.asdus))) e
  where
    go : (t u : Bool) → refuse t no_room (refuse u no_room (accepted y)) ≡ accepted x → accepted y ≡ accepted x
    go true u e = no_way e
    go false true e = no_way e
    go false false e = e

-- (6) The same into the arrays of a flat description.
pub flat_strict_passes : (form : Form) (n a b c e : ℕ) (s : List ℕ) → Octets s → (d : Description) (l : ℕ) → flat_strict form n a b c e s ≡ read_as d l → flat_checked n a b c e s ≡ read_as d l
unfolding flat_strict flat_read strict_read
flat_strict_passes form n a b c e s bytes d l f =
    let r = again_before form s (flat_read n a b c e s) (d, l) f in
    let o : ordinary_read n c e s ≡ read_as d l = held_before a b (ordinary_read n c e s) (d, l) r.0 in
    (flat_checks n a b c e s).fits r.0 (strict_none form n c e s bytes d l (ap (again form s) o ∙ r.1))
