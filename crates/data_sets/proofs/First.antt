-- The first ASDU's confRev: ordinary reading finds the same, and what is refused up to it, it refuses so. Both go the same steps, and
-- one relation between what they find is kept by each of them.
use Rattle.std.specs.Prelude.{◌≡◌, List, [], ◌∷◌, Bool, true, false, cond, ◌⊎◌, length, ltb, eqb}
use Rattle.std.proofs.Math.Path.{refl}
use Rattle.std.specs.Prelude.{Option, Some, None}
use Rattle.std.proofs.Common.{inl, inr, le-ltb, lt-ltb, ne_eqb}
use Prim.Native.Nat.{ℕ, zero, suc, ◌*◌, ◌≤◌, ◌<◌}
use native.Mathlib.Omega.{arith}
use Rattle.definition.specs.Limits.{max_channels, max_text, no_room, too_many_channels}
use Rattle.definition.proofs.OctetLaws.{lt_or_ge}
use Rattle.definition.specs.Frame.{Asdu, Description}
use Rattle.definition.specs.Read.{Out, got, refused, then, head_at, text_at, uint_at, refr_tm_at, gm_identity_at, optional_at, samples_at, asdu_at, asdus_at, Pdu, pdu_at, Header, header_at}
use Rattle.definition.specs.Placed.{Start, start_at, started_pdu}
use Rattle.definition.proofs.PlacedLaws.{pdu_start}
use Rattle.definition.specs.Answers.{Answer, accepted, refusal, refuse, answer, described, read_as, read_frame, held_by, ordinary_read}
use Rattle.definition.specs.Flat.{numbers_for, octets_for, flat_held, flat_read}
use Rattle.definition.proofs.Numbers.{AnsweredUpto, ordinary_answered, ordinary_few, read_answered, read_few}
use Rattle.data_sets.specs.DataSets.{rev_at, rev_from, first_rev}

-- ---- steps

-- P of what is found
abbrev When : {B : Type 0} → (B → Type 0) → Out B → Type 0
When P (got b at) = P b
When P (refused k p) = Unit {0}

-- where the first finds something, P of it and of what the second finds; what the first refuses, the second refuses so
abbrev pub Follows : {B C : Type 0} → (B → C → Type 0) → Out B → Out C → Type 0
Follows P (got b at) o = When (P b) o
Follows P (refused k p) o = o ≡ refused k p

when_then : {A B : Type 0} (P : B → Type 0) (o : Out A) (f : A → ℕ → Out B) → ((a : A) (at : ℕ) → When P (f a at)) → When P (then o f)
when_then P (got a at) f h = h a at
when_then P (refused k p) f h = tt

module _ {B C : Type 0} (P : B → C → Type 0) where
  -- the same step first in both
  both : {A : Type 0} (o : Out A) (f : A → ℕ → Out B) (g : A → ℕ → Out C) → ((a : A) (at : ℕ) → Follows P (f a at) (g a at)) → Follows P (then o f) (then o g)
  both (got a at) f g h = h a at
  both (refused k p) f g h = refl

  -- the last step of the first
  last : (o : Out B) (g : B → ℕ → Out C) → ((b : B) (at : ℕ) → When (P b) (g b at)) → Follows P o (then o g)
  last (got b at) g h = h b at
  last (refused k p) g h = refl

-- ---- an ASDU

-- The confRev is that of the ASDU read; what is refused up to it, reading the ASDU refuses with the same number and place.
pub asdu_rev : (n : ℕ) (s : List ℕ) (at : ℕ) → Follows (λ rev (a : Asdu). a.conf_rev ≡ rev) (rev_at s at) (asdu_at n s at)
unfolding asdu_at rev_at
asdu_rev n s at =
    let P : ℕ → Asdu → Type 0 = λ rev a. a.conf_rev ≡ rev in
    both P (head_at s at) _ _ (λ h at.
    both P (text_at max_text s at) _ _ (λ sv_id at.
    both P (optional_at 0x81 (text_at max_text) s at) _ _ (λ dat_set at.
    both P (uint_at 2 s at) _ _ (λ smp_cnt at.
    last P (uint_at 4 s at) _ (λ rev at.
    when_then (P rev) (optional_at 0x84 refr_tm_at s at) _ (λ refr_tm at.
    when_then (P rev) (uint_at 1 s at) _ (λ smp_synch at.
    when_then (P rev) (optional_at 0x86 (uint_at 2) s at) _ (λ smp_rate at.
    when_then (P rev) (head_at s at) _ (λ h at.
    when_then (P rev) (samples_at n s at) _ (λ samples at.
    when_then (P rev) (optional_at 0x88 (uint_at 2) s at) _ (λ smp_mod at.
    when_then (P rev) (optional_at 0x89 gm_identity_at s at) _ (λ gm_identity at. refl))))))))))))

-- ---- ASDUs and a PDU

-- the first of these ASDUs has this confRev; or there are none
abbrev pub Leads : Option ℕ → List Asdu → Type 0
Leads None l = l ≡ []
Leads (Some rev) [] = ⊥
Leads (Some rev) (a ∷ l) = a.conf_rev ≡ rev

module _ (n : ℕ) (s : List ℕ) where
  -- the confRev of the first of k ASDUs
  abbrev of_first : ℕ → ℕ → Out (Option ℕ)
  of_first k at = cond (eqb k 0) (got None at) (then (rev_at s at) (λ rev at. got (Some rev) at))

  asdus_rev : (k at : ℕ) → Follows Leads (of_first k at) (asdus_at n k s at)
  unfolding asdus_at
  asdus_rev zero at = refl
  asdus_rev (suc k) at =
      let h : suc k ≡ 0 → ⊥ = λ e. omega arith in
      rw (ne_eqb (suc k) 0 h) (go (rev_at s at) (asdu_at n s at) (asdu_rev n s at))
    where
      go : (w : Out ℕ) (o : Out Asdu) → Follows (λ rev (a : Asdu). a.conf_rev ≡ rev) w o
          → Follows Leads (then w (λ rev at. got (Some rev) at)) (then o (λ a at. then (asdus_at n k s at) (λ l at. got (a ∷ l) at)))
      go (got rev p) (got a at) e = when_then (Leads (Some rev)) (asdus_at n k s at) (λ l at. got (a ∷ l) at) (λ l at. e)
      go (got rev p) (refused j q) e = tt
      go (refused j q) o e = rw e

  pdu_rev : (at : ℕ) → Follows (λ o (p : Pdu). Leads o p.asdus) (rev_from s at) (pdu_at n s at)
  unfolding rev_from
  pdu_rev at = rw (pdu_start n s at) (both (λ o (p : Pdu). Leads o p.asdus) (start_at s at) _ _ (λ x at. go x (of_first x.no_asdu at) (asdus_at n x.no_asdu s at) (asdus_rev x.no_asdu at)))
    where
      go : (x : Start) (w : Out (Option ℕ)) (o : Out (List Asdu)) → Follows Leads w o → Follows (λ o (p : Pdu). Leads o p.asdus) w (then o (λ l at. got (started_pdu s x l) at))
      go x (got b p) (got l at) e = e
      go x (got b p) (refused j q) e = tt
      go x (refused j q) o e = rw e

-- ---- a frame

-- What is accepted starts with an ASDU of the confRev found, or has no ASDU where none is found; what is refused up to the confRev is
-- refused with the same number and place.
abbrev pub Agrees : Out (Option ℕ) → Answer (Description × ℕ) → Type 0
Agrees (got o at) (accepted x) = Leads o x.0.asdus
Agrees (got o at) (refusal k p) = Unit {0}
Agrees (refused k p) r = r ≡ refusal k p

frame_agrees : (n : ℕ) (s : List ℕ) → n ≤ max_channels → Agrees (first_rev s) (read_frame n s)
unfolding first_rev read_frame described
frame_agrees n s few = rw (le-ltb max_channels n few) (go (header_at s))
  where
    on : (h : Header) (w : Out (Option ℕ)) (o : Out Pdu) → Follows (λ o (p : Pdu). Leads o p.asdus) w o → Agrees w (answer o (λ p end. read_as (described h p) h.len))
    on h (got b p) (got l at) e = e
    on h (got b p) (refused j q) e = tt
    on h (refused j q) o e = rw e

    go : (o : Out Header) → Agrees (then o (λ h at. rev_from s at)) (answer o (λ h at. answer (pdu_at n s at) (λ p end. read_as (described h p) h.len)))
    go (got h at) = on h (rev_from s at) (pdu_at n s at) (pdu_rev n s at)
    go (refused k p) = refl

-- 7 comes after all this
room_agrees : (w : Out (Option ℕ)) (t u : Bool) (x : Description × ℕ) → Agrees w (accepted x) → Agrees w (refuse t no_room (refuse u no_room (accepted x)))
room_agrees (got o at) true u x e = tt
room_agrees (got o at) false true x e = tt
room_agrees (got o at) false false x e = e
room_agrees (refused k p) t u x e = let z : ◌≡◌ {A = ℕ} 0 1 = cc in absurd (omega arith)

held_agrees : (n a b : ℕ) (w : Out (Option ℕ)) (r : Answer (Description × ℕ)) → Agrees w r → Agrees w (held_by (λ (x : Description × ℕ). x.0.asdus) n a b r)
unfolding held_by
held_agrees n a b w (refusal k p) e = e
held_agrees n a b w (accepted x) e = room_agrees w (ltb a (length x.0.asdus * n)) (ltb b (length x.0.asdus * n)) x e

flat_agrees : (a b : ℕ) (w : Out (Option ℕ)) (r : Answer (Description × ℕ)) → Agrees w r → Agrees w (flat_held a b r)
unfolding flat_held
flat_agrees a b w (refusal k p) e = e
flat_agrees a b w (accepted x) e = room_agrees w (ltb a (numbers_for (length x.0.asdus))) (ltb b (octets_for (length x.0.asdus))) x e

-- what is so of ordinary reading of s with n channels, whatever arrays it fills
pub record Ordinary (s : List ℕ) (reading : ℕ → Answer (Description × ℕ)) : Type 0 where
  pub agrees : (n : ℕ) → n ≤ max_channels → Agrees (first_rev s) (reading n)
  pub many : (n : ℕ) → max_channels < n → reading n ≡ refusal too_many_channels 0
  pub answered : (n : ℕ) → AnsweredUpto 8 (reading n)
  pub few : (n : ℕ) → n ≤ max_channels → AnsweredUpto 7 (reading n)

pub ordinary : (a b : ℕ) (s : List ℕ) → Ordinary s (λ n. ordinary_read n a b s)
unfolding ordinary_read read_frame held_by
ordinary a b s = record {
  agrees = λ n few. held_agrees n a b (first_rev s) (read_frame n s) (frame_agrees n s few);
  many = λ n h. rw (lt-ltb max_channels n h);
  answered = λ n. ordinary_answered n a b s;
  few = λ n h. ordinary_few n a b s h;
}

-- the same into the arrays of a flat description
pub flat_ordinary : (a b c e : ℕ) (s : List ℕ) → Ordinary s (λ n. flat_read n a b c e s)
unfolding flat_read flat_held
flat_ordinary a b c e s = record {
  agrees = λ n few. flat_agrees a b (first_rev s) (ordinary_read n c e s) ((ordinary c e s).agrees n few);
  many = λ n h. rw ((ordinary c e s).many n h);
  answered = λ n. read_answered n a b c e s;
  few = λ n h. read_few n a b c e s h;
}

module _ {s : List ℕ} {reading : ℕ → Answer (Description × ℕ)} (r : Ordinary s reading) where
  -- What is refused up to and including the first ASDU's confRev, ordinary reading with any number of channels up to 24 refuses with
  -- the same number and place.
  pub first_refused : (n : ℕ) → n ≤ max_channels → {k p : ℕ} → first_rev s ≡ refused k p → reading n ≡ refusal k p
  first_refused n few e = rw e at (r.agrees n few)

  -- What is accepted starts with the ASDU whose confRev is found, or has no ASDU.
  pub read_first : (n : ℕ) {x : Description × ℕ} → reading n ≡ accepted x → (o : Option ℕ) × ((at : ℕ) × ((first_rev s ≡ got o at) × Leads o x.0.asdus))
  read_first n {x} e = on (lt_or_ge max_channels n)
    where
      go : (w : Out (Option ℕ)) → first_rev s ≡ w → Agrees w (accepted x) → (o : Option ℕ) × ((at : ℕ) × ((first_rev s ≡ got o at) × Leads o x.0.asdus))
      go (got o at) f h = (o, (at, (f, h)))
      go (refused k p) f h = let z : ◌≡◌ {A = ℕ} 0 1 = cc in absurd (omega arith)

      on : (max_channels < n) ⊎ (n ≤ max_channels) → (o : Option ℕ) × ((at : ℕ) × ((first_rev s ≡ got o at) × Leads o x.0.asdus))
      on (inl h) = let f = r.many n h in let z : ◌≡◌ {A = ℕ} 0 1 = cc in absurd (omega arith)
      on (inr h) = go (first_rev s) refl (rw e at (r.agrees n h))
