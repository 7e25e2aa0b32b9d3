-- What reading by confRev has to do with ordinary reading and with additions, for records and for flat arrays. Reading has five
-- outcomes, each with what it means of the frame and the store; what is said of its answers goes by these.
use Rattle.std.specs.Prelude.{◌≡◌, Bool, not, ◌↔◌, ◌⊎◌, ℕ, ◌≤◌, length, eqb}
use Rattle.std.proofs.Math.Path.{refl}
use Rattle.std.proofs.Common.{sym, ap, ◌∙◌, inl, inr, arith, eqb-true}
use mathlib.Core.List.{List, [], ◌∷◌}
use Rattle.std.specs.Prelude.{Option, Some, None}
use Rattle.std.proofs.Math.Bool.{true, false}
use Rattle.definition.specs.Limits.{max_channels, too_many_channels, no_set, other_conf_rev}
use Rattle.definition.specs.Frame.{Asdu, Description, All}
use Rattle.definition.specs.Read.{Out, got, refused}
use Rattle.definition.specs.Answers.{Answer, accepted, refusal, refuse, answer, ordinary_read}
use Rattle.definition.specs.Flat.{flat_read}
use Rattle.definition.proofs.Numbers.{AnsweredUpto, no_from_1}
use Rattle.data_sets.specs.DataSets.{added, stored, find, first_rev, find_for, one_rev, of_one_rev, beside, with_set, read_with, read_by, flat_read_by}
use Rattle.data_sets.proofs.Store.{all_true, find_added, made_fits}
use Rattle.data_sets.proofs.First.{Leads, Ordinary, ordinary, flat_ordinary, first_refused, read_first}

-- ---- reading

-- x is the set held for the first ASDU's confRev
pub record HeldFor {A : Type 0} (l : List (ℕ × A)) (s : List ℕ) (x : A) : Type 0 where
  pub rev : ℕ
  pub place : ℕ
  pub first : first_rev s ≡ got (Some rev) place
  pub held : find l rev ≡ Some x

-- there is no such set, or no ASDU
pub record NotHeld {A : Type 0} (l : List (ℕ × A)) (s : List ℕ) : Type 0 where
  pub rev : Option ℕ
  pub place : ℕ
  pub first : first_rev s ≡ got rev place
  pub held : find_for l rev ≡ None

module _ {A : Type 0} (reading : A → Answer (Description × ℕ)) (l : List (ℕ × A)) (s : List ℕ) where
  -- the answers, and where each is given
  data Outcome : Answer (A × (Description × ℕ)) → Type 0 where
    before : {k p : ℕ} → first_rev s ≡ refused k p → Outcome (refusal k p)
    missing : NotHeld l s → Outcome (refusal no_set 0)
    refuses : {x : A} {k p : ℕ} → HeldFor l s x → reading x ≡ refusal k p → Outcome (refusal k p)
    others : {x : A} {d : Description × ℕ} → HeldFor l s x → reading x ≡ accepted d → one_rev d.0.asdus ≡ false → Outcome (refusal other_conf_rev 0)
    reads : {x : A} {d : Description × ℕ} → HeldFor l s x → reading x ≡ accepted d → one_rev d.0.asdus ≡ true → Outcome (accepted (x, d))

  outcome : Outcome (read_with reading l s)
  unfolding read_with
  outcome = go (first_rev s) refl
    where
      one : {x : A} → HeldFor l s x → (d : Description × ℕ) → reading x ≡ accepted d → (t : Bool) → one_rev d.0.asdus ≡ t → Outcome (beside x (refuse (not t) other_conf_rev (accepted d)))
      one h d e true f = reads h e f
      one h d e false f = others h e f

      read : {x : A} → HeldFor l s x → (r : Answer (Description × ℕ)) → reading x ≡ r → Outcome (beside x (of_one_rev r))
      read h (refusal k p) e = refuses h e
      read h (accepted d) e = one h d e (one_rev d.0.asdus) refl

      on : (rev p : ℕ) → first_rev s ≡ got (Some rev) p → (o : Option A) → find l rev ≡ o → Outcome (with_set reading o)
      on rev p e None f = missing (record { rev = Some rev; place = p; first = e; held = f })
      on rev p e (Some x) f = read (record { rev = rev; place = p; first = e; held = f }) (reading x) refl

      go : (o : Out (Option ℕ)) → first_rev s ≡ o → Outcome (answer o (λ rev at. with_set reading (find_for l rev)))
      go (refused k p) e = before e
      go (got None p) e = missing (record { rev = None; place = p; first = e; held = refl })
      go (got (Some rev) p) e = on rev p e (find l rev) refl

  -- the answer with the set held
  with_held : {x : A} → HeldFor l s x → read_with reading l s ≡ beside x (of_one_rev (reading x))
  unfolding read_with
  with_held h = rw (h.first, h.held)

-- what a reading of s with a number of channels, and the answer r by confRev beside it, have to do with each other
pub record ByConfRev {A : Type 0} (channels : A → ℕ) (reading : ℕ → Answer (Description × ℕ)) (l : List (ℕ × A)) (s : List ℕ) (r : Answer (A × (Description × ℕ))) : Type 0 where
  -- (1) "A frame is read, as by ordinary reading": what is accepted, ordinary reading with the set handed back answers the same.
  pub accepts_as_ordinary : {x : A} {d : Description × ℕ} → r ≡ accepted (x, d) → reading (channels x) ≡ accepted d
  -- (2) "with the set of its first ASDU's confRev; that set is handed back too": it is the one held under the confRev that every ASDU
  -- read has, and there is an ASDU.
  pub own_set : {x : A} {d : Description × ℕ} → r ≡ accepted (x, d)
      → (rev : ℕ) × ((find l rev ≡ Some x) × (All (λ (c : Asdu). c.conf_rev ≡ rev) d.0.asdus × (1 ≤ length d.0.asdus)))
  -- (3) "15 after the first ASDU's confRev is read": what is refused up to and including it is refused so whatever the store holds, and
  -- ordinary reading with any set of up to 24 channels refuses it so.
  pub refused_first : {k p : ℕ} → first_rev s ≡ refused k p → (r ≡ refusal k p) × ((n : ℕ) → n ≤ max_channels → reading n ≡ refusal k p)
  -- (4) "15, no set for that confRev, or no ASDU": there, and nowhere else.
  pub no_set_lem : (r ≡ refusal no_set 0) ↔ NotHeld l s
  -- (5) "16, a later ASDU with another confRev", "after ordinary reading accepts": there, and nowhere else; so 7 stands before it.
  pub other_rev : (r ≡ refusal other_conf_rev 0) ↔ ((x : A) × ((d : Description × ℕ) × (HeldFor l s x × ((reading (channels x) ≡ accepted d) × (one_rev d.0.asdus ≡ false)))))
  -- (6) What ordinary reading with the set held accepts is accepted with the same answer, where all ASDUs have one confRev.
  pub reads : {x : A} {d : Description × ℕ} → HeldFor l s x → reading (channels x) ≡ accepted d → one_rev d.0.asdus ≡ true → r ≡ accepted (x, d)
  -- (7) What ordinary reading with the set held refuses is refused with the same number and place,
  pub refuses : {x : A} {k p : ℕ} → HeldFor l s x → reading (channels x) ≡ refusal k p → r ≡ refusal k p
  -- and any refusal but 15 and 16 is such, or stands before the first ASDU's confRev.
  pub else : {k p : ℕ} → r ≡ refusal k p → (k ≡ no_set → ⊥) → (k ≡ other_conf_rev → ⊥)
      → (first_rev s ≡ refused k p) ⊎ ((x : A) × (HeldFor l s x × (reading (channels x) ≡ refusal k p)))

number_upto : {most : ℕ} {r : Answer (Description × ℕ)} → AnsweredUpto most r → {k p : ℕ} → r ≡ refusal k p → k ≤ most
number_upto {most} h {k} {p} e = go (rw e at h)
  where
    go : AnsweredUpto most {A = Description × ℕ} (refusal k p) → k ≤ most
    go (no_from_1 h) = h.1

one_rev_lem : (rev : ℕ) (l : List Asdu) → one_rev l ≡ true → Leads (Some rev) l → All (λ (c : Asdu). c.conf_rev ≡ rev) l × (1 ≤ length l)
unfolding one_rev All
one_rev_lem rev [] t h = absurd h
one_rev_lem rev (a ∷ l) t h =
    ((h, all_true (λ (c : Asdu). eqb c.conf_rev a.conf_rev) (λ (c : Asdu). c.conf_rev ≡ rev) (λ c e. eqb-true c.conf_rev a.conf_rev e ∙ h) l t), omega arith)

module _ {A : Type 0} (channels : A → ℕ) {reading : ℕ → Answer (Description × ℕ)} (l : List (ℕ × A)) {s : List ℕ} (o : Ordinary s reading) where
  -- ordinary reading with a set
  abbrev of_set : A → Answer (Description × ℕ)
  of_set x = reading (channels x)

  -- no number of ordinary reading is above 8
  no_number : (n : ℕ) {k p : ℕ} → reading n ≡ refusal k p → k ≤ 8
  no_number n e = number_upto (o.answered n) e

  own_set_of : (r : Answer (A × (Description × ℕ))) → Outcome of_set l s r → {x : A} {d : Description × ℕ} → r ≡ accepted (x, d)
      → (of_set x ≡ accepted d) × ((rev : ℕ) × ((find l rev ≡ Some x) × (All (λ (c : Asdu). c.conf_rev ≡ rev) d.0.asdus × (1 ≤ length d.0.asdus))))
  own_set_of _ (before f) e = let z : ◌≡◌ {A = ℕ} 0 1 = cc in absurd (omega arith)
  own_set_of _ (missing f) e = let z : ◌≡◌ {A = ℕ} 0 1 = cc in absurd (omega arith)
  own_set_of _ (refuses h f) e = let z : ◌≡◌ {A = ℕ} 0 1 = cc in absurd (omega arith)
  own_set_of _ (others h f t) e = let z : ◌≡◌ {A = ℕ} 0 1 = cc in absurd (omega arith)
  own_set_of _ (reads {x = y} {d = c} h f t) {x} {d} e =
      let z : ◌≡◌ {A = A × (Description × ℕ)} (y, c) (x, d) = cc in
      let z0 : y ≡ x = ap (λ (w : A × (Description × ℕ)). w.0) z in
      let z1 : c ≡ d = ap (λ (w : A × (Description × ℕ)). w.1) z in
      rw (← z0, ← z1) (f, (h.rev, (h.held, one_rev_lem h.rev c.0.asdus t (go (read_first o (channels y) f)))))
    where
      go : (v : Option ℕ) × ((at : ℕ) × ((first_rev s ≡ got v at) × Leads v c.0.asdus)) → Leads (Some h.rev) c.0.asdus
      go w =
          let g : first_rev s ≡ got w.0 w.1.0 = w.1.1.0 in
          let f : first_rev s ≡ got (Some h.rev) h.place = h.first in
          let z : w.0 ≡ Some h.rev = cc in
          rw z at w.1.1.1

  no_set_of : (r : Answer (A × (Description × ℕ))) → Outcome of_set l s r → r ≡ refusal no_set 0 → NotHeld l s
  no_set_of _ (before {k = k} f) e = let z : k ≡ no_set = cc in absurd (omega (arith, no_number 0 (first_refused o 0 (omega arith) f)))
  no_set_of _ (missing f) e = f
  no_set_of _ (refuses {x = x} {k = k} h f) e = let z : k ≡ no_set = cc in absurd (omega (arith, no_number (channels x) f))
  no_set_of _ (others h f t) e = let z : other_conf_rev ≡ no_set = cc in absurd (omega arith)
  no_set_of _ (reads h f t) e = let z : ◌≡◌ {A = ℕ} 0 1 = cc in absurd (omega arith)

  other_rev_of : (r : Answer (A × (Description × ℕ))) → Outcome of_set l s r → r ≡ refusal other_conf_rev 0
      → (x : A) × ((d : Description × ℕ) × (HeldFor l s x × ((of_set x ≡ accepted d) × (one_rev d.0.asdus ≡ false))))
  other_rev_of _ (before {k = k} f) e = let z : k ≡ other_conf_rev = cc in absurd (omega (arith, no_number 0 (first_refused o 0 (omega arith) f)))
  other_rev_of _ (missing f) e = let z : no_set ≡ other_conf_rev = cc in absurd (omega arith)
  other_rev_of _ (refuses {x = x} {k = k} h f) e = let z : k ≡ other_conf_rev = cc in absurd (omega (arith, no_number (channels x) f))
  other_rev_of _ (others {x = x} {d = d} h f t) e = (x, (d, (h, (f, t))))
  other_rev_of _ (reads h f t) e = let z : ◌≡◌ {A = ℕ} 0 1 = cc in absurd (omega arith)

  else_of : (r : Answer (A × (Description × ℕ))) → Outcome of_set l s r → {k p : ℕ} → r ≡ refusal k p → (k ≡ no_set → ⊥) → (k ≡ other_conf_rev → ⊥)
      → (first_rev s ≡ refused k p) ⊎ ((x : A) × (HeldFor l s x × (of_set x ≡ refusal k p)))
  else_of _ (before f) {k} {p} e g i = inl (f ∙ cc)
  else_of _ (missing f) {k} e g i = let z : no_set ≡ k = cc in absurd (g (sym z))
  else_of _ (refuses {x = x} h f) e g i = inr (x, (h, f ∙ cc))
  else_of _ (others h f t) {k} e g i = let z : other_conf_rev ≡ k = cc in absurd (i (sym z))
  else_of _ (reads h f t) e g i = let z : ◌≡◌ {A = ℕ} 0 1 = cc in absurd (omega arith)

  by_conf_rev_of : ByConfRev channels reading l s (read_with of_set l s)
  unfolding read_with
  by_conf_rev_of = record {
    accepts_as_ordinary = λ e. (own_set_of (read_with of_set l s) (outcome of_set l s) e).0;
    own_set = λ e. (own_set_of (read_with of_set l s) (outcome of_set l s) e).1;
    refused_first = λ e. (rw e, λ n few. first_refused o n few e);
    no_set_lem = (λ e. no_set_of (read_with of_set l s) (outcome of_set l s) e, λ h. rw (h.first, h.held));
    other_rev = (λ e. other_rev_of (read_with of_set l s) (outcome of_set l s) e, λ h. with_held of_set l s h.1.1.0 ∙ rw (h.1.1.1.0, h.1.1.1.1));
    reads = λ h e f. with_held of_set l s h ∙ rw (e, f);
    refuses = λ h e. with_held of_set l s h ∙ rw e;
    else = λ e f g. else_of (read_with of_set l s) (outcome of_set l s) e f g;
  }

-- Reading by confRev and ordinary reading.
pub by_conf_rev : {A : Type 0} (channels : A → ℕ) (l : List (ℕ × A)) (a b : ℕ) (s : List ℕ) → ByConfRev channels (λ n. ordinary_read n a b s) l s (read_by channels l a b s)
unfolding read_by
by_conf_rev channels l a b s = by_conf_rev_of channels l (ordinary a b s)

-- The same into the arrays of a flat description.
pub flat_by_conf_rev : {A : Type 0} (channels : A → ℕ) (l : List (ℕ × A)) (a b c e : ℕ) (s : List ℕ) → ByConfRev channels (λ n. flat_read n a b c e s) l s (flat_read_by channels l a b c e s)
unfolding flat_read_by
flat_by_conf_rev channels l a b c e s = by_conf_rev_of channels l (flat_ordinary a b c e s)

-- ---- 8

no_8_of : {A : Type 0} (channels : A → ℕ) {reading : ℕ → Answer (Description × ℕ)} {s : List ℕ} (o : Ordinary s reading) (ys : List (ℕ × A)) {p : ℕ}
    → read_with (λ (x : A). reading (channels x)) (stored channels [] ys) s ≡ refusal too_many_channels p → ⊥
no_8_of {A} channels {reading} {s} o ys {p} e = go ((by_conf_rev_of channels (stored channels [] ys) o).else e (λ f. omega arith) (λ f. omega arith))
  where
    go : (first_rev s ≡ refused too_many_channels p) ⊎ ((x : A) × (HeldFor (stored channels [] ys) s x × (reading (channels x) ≡ refusal too_many_channels p))) → ⊥
    go (inl f) = omega (arith, number_upto (o.few 0 (omega arith)) (first_refused o 0 (omega arith) f))
    go (inr f) = omega (arith, number_upto (o.few (channels f.0) (made_fits channels ys f.1.0.rev f.0 f.1.0.held)) f.1.1)

-- (8) With a store made from an empty one, 8 is never answered.
pub no_8 : {A : Type 0} (channels : A → ℕ) (ys : List (ℕ × A)) (a b : ℕ) (s : List ℕ) {p : ℕ} → read_by channels (stored channels [] ys) a b s ≡ refusal too_many_channels p → ⊥
unfolding read_by
no_8 channels ys a b s e = no_8_of channels (ordinary a b s) ys e

-- The same into the arrays of a flat description.
pub flat_no_8 : {A : Type 0} (channels : A → ℕ) (ys : List (ℕ × A)) (a b c d : ℕ) (s : List ℕ) {p : ℕ} → flat_read_by channels (stored channels [] ys) a b c d s ≡ refusal too_many_channels p → ⊥
unfolding flat_read_by
flat_no_8 channels ys a b c d s e = no_8_of channels (flat_ordinary a b c d s) ys e

-- ---- additions

module _ {A : Type 0} (channels : A → ℕ) (reading : A → Answer (Description × ℕ)) (s : List ℕ) where
  set_same : (l : List (ℕ × A)) (y : ℕ × A) (o : Option ℕ) (r : Answer (A × (Description × ℕ))) → (r ≡ refusal no_set 0 → ⊥)
      → with_set reading (find_for l o) ≡ r → with_set reading (find_for (added channels l y) o) ≡ r
  set_same l y None r h e = absurd (h (sym e))
  set_same l y (Some rev) r h e = go (find l rev) refl e
    where
      go : (x : Option A) → find l rev ≡ x → with_set reading x ≡ r → with_set reading (find (added channels l y) rev) ≡ r
      go None f e = absurd (h (sym e))
      go (Some x) f e = rw (find_added channels l y rev x f) e

  -- (9) An addition, taken or refused, to any store changes no answer but 15.
  pub added_same : (l : List (ℕ × A)) (y : ℕ × A) (r : Answer (A × (Description × ℕ))) → (r ≡ refusal no_set 0 → ⊥)
      → read_with reading l s ≡ r → read_with reading (added channels l y) s ≡ r
  unfolding read_with
  added_same l y r h e = go (first_rev s) e
    where
      go : (o : Out (Option ℕ)) → answer o (λ o at. with_set reading (find_for l o)) ≡ r → answer o (λ o at. with_set reading (find_for (added channels l y) o)) ≡ r
      go (refused k p) e = e
      go (got o p) e = set_same l y o r h e

  -- Nor do additions one after the other.
  pub stored_same : (ys l : List (ℕ × A)) (r : Answer (A × (Description × ℕ))) → (r ≡ refusal no_set 0 → ⊥)
      → read_with reading l s ≡ r → read_with reading (stored channels l ys) s ≡ r
  unfolding stored
  stored_same [] l r h e = e
  stored_same (y ∷ ys) l r h e = stored_same ys (added channels l y) r h (added_same l y r h e)

-- what is read of stores made from an empty one, where f reads a frame into the same arrays
pub record Lasting {A : Type 0} (channels : A → ℕ) (f : List (ℕ × A) → Answer (A × (Description × ℕ))) : Type 0 where
  -- (10) "From an empty store, a later addition, taken or refused, never changes how an already readable frame reads into the same
  -- arrays": after the additions xs, the additions ys change no answer but 15,
  pub later_additions : (xs ys : List (ℕ × A)) (r : Answer (A × (Description × ℕ))) → (r ≡ refusal no_set 0 → ⊥)
      → f (stored channels [] xs) ≡ r → f (stored channels (stored channels [] xs) ys) ≡ r
  -- and none that accepts.
  pub still_readable : (xs ys : List (ℕ × A)) (x : A × (Description × ℕ)) → f (stored channels [] xs) ≡ accepted x → f (stored channels (stored channels [] xs) ys) ≡ accepted x

lasting_of : {A : Type 0} (channels : A → ℕ) (reading : A → Answer (Description × ℕ)) (s : List ℕ) → Lasting channels (λ l. read_with reading l s)
lasting_of channels reading s = record {
  later_additions = λ xs ys r h e. stored_same channels reading s ys (stored channels [] xs) r h e;
  still_readable = λ xs ys x e. stored_same channels reading s ys (stored channels [] xs) (accepted x) (λ f. let z : ◌≡◌ {A = ℕ} 0 1 = cc in omega arith) e;
}

pub lasting : {A : Type 0} (channels : A → ℕ) (a b : ℕ) (s : List ℕ) → Lasting channels (λ l. read_by channels l a b s)
unfolding read_by
lasting {A} channels a b s = lasting_of channels (λ (x : A). ordinary_read (channels x) a b s) s

-- The same into the arrays of a flat description.
pub flat_lasting : {A : Type 0} (channels : A → ℕ) (a b c e : ℕ) (s : List ℕ) → Lasting channels (λ l. flat_read_by channels l a b c e s)
unfolding flat_read_by
flat_lasting {A} channels a b c e s = lasting_of channels (λ (x : A). flat_read (channels x) a b c e s) s
