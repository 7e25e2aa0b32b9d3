-- The theorems of demand 3, over the definitions of Frame, Read and Answers: written octets are read back, what strict reading
-- accepts is written again, and one frame means one thing.
use Rattle.std.specs.Prelude.{◌≡◌, refl, List, [], ◌∷◌, Bool, true, false, cond, ℕ, suc, ◌*◌, ◌≤◌, length, ltb, eqb}
use Rattle.std.proofs.Common.{sym, ap, ◌∙◌, arith, le-ltb, ltb-false, eq-eqb, eqb-true}
use Rattle.std.specs.Prelude.{Option, Some, None}
use Rattle.definition.specs.Frame.{Description, Form, frame_octets, length_of, writable, Octets, Accepted}
use Rattle.definition.specs.Limits.{not_as_written, no_room}
use Rattle.definition.specs.Answers.{Answer, accepted, refusal, refuse, read_as, read_frame, held_by, ordinary_read, differ, unless_at, again, strict_read}
use Rattle.definition.proofs.Trip.{written_then_read}
use Rattle.definition.proofs.Sound.{read_typed}

-- ---- the comparison

differ_none : (at : ℕ) (l : List ℕ) → differ at l l ≡ None
unfolding differ
differ_none at [] = refl
differ_none at (x ∷ l) = simp (eq-eqb x x refl, differ_none (suc at) l)

none_some : {P : Type 0} (at : ℕ) → ◌≡◌ {A = Option ℕ} (Some at) None → P
none_some at e = let z : ◌≡◌ {A = ℕ} 0 1 = cc in absurd (omega arith)

differ_same : (at : ℕ) (l m : List ℕ) → differ at l m ≡ None → l ≡ m
unfolding differ
differ_same at [] [] e = refl
differ_same at [] (y ∷ m) e = none_some at e
differ_same at (x ∷ l) [] e = none_some at e
differ_same at (x ∷ l) (y ∷ m) e = go (eqb x y) refl e (differ_same (suc at) l m)
  where
    go : (t : Bool) → eqb x y ≡ t → cond t (differ (suc at) l m) (Some at) ≡ None → (differ (suc at) l m ≡ None → l ≡ m) → x ∷ l ≡ y ∷ m
    go true f g h = let a = eqb-true x y f in let b = h g in cc
    go false f g h = none_some at g

-- ---- what strict reading's answer says

-- a call that is accepted passed its test
pub passed : {A : Type 0} (t : Bool) (k : ℕ) (rest : Answer A) {x : A} → refuse t k rest ≡ accepted x → (t ≡ false) × (rest ≡ accepted x)
passed true k rest e = let z : ◌≡◌ {A = ℕ} 0 1 = cc in absurd (omega arith)
passed false k rest e = (refl, e)

pub same_read : (d d' : Description) (l l' : ℕ) → read_as d l ≡ read_as d' l' → (d ≡ d') × (l ≡ l')
same_read d d' l l' e =
    let p : ◌≡◌ {A = Description × ℕ} (d, l) (d', l') = cc in
    (ap (λ (x : Description × ℕ). x.0) p, ap (λ (x : Description × ℕ). x.1) p)

-- strict reading accepts s as d with Length l exactly when all this holds
pub record Strictly (form : Form) (n a b : ℕ) (s : List ℕ) (d : Description) (l : ℕ) : Type 0 where
  pub ordinary : read_frame n s ≡ read_as d l
  pub counts : length d.asdus * n ≤ a
  pub qualities : length d.asdus * n ≤ b
  pub fits : writable form d ≡ true
  pub same : frame_octets form d ≡ s

pub strictly : (form : Form) (n a b : ℕ) (s : List ℕ) (d : Description) (l : ℕ) → strict_read form n a b s ≡ read_as d l → Strictly form n a b s d l
unfolding strict_read ordinary_read held_by again
strictly form n a b s d l e = on_read (read_frame n s) refl e
  where
    no_way : {P : Type 0} (k at : ℕ) → ◌≡◌ {A = Answer (Description × ℕ)} (refusal k at) (read_as d l) → P
    no_way k at e = let z : ◌≡◌ {A = ℕ} 0 1 = cc in absurd (omega arith)

    on_differ : (d' : Description) (l' : ℕ) (o : Option ℕ) → differ 0 s (frame_octets form d') ≡ o
        → read_frame n s ≡ read_as d' l' → length d'.asdus * n ≤ a → length d'.asdus * n ≤ b → writable form d' ≡ true
        → unless_at o (read_as d' l') ≡ read_as d l → Strictly form n a b s d l
    on_differ d' l' (Some at) f r ha hb w e = no_way 6 at e
    on_differ d' l' None f r ha hb w e =
        let x : d' ≡ d = (same_read d' d l' l e).0 in
        let y : read_frame n s ≡ read_as d l = r ∙ e in
        record { ordinary = y; counts = rw (← x) ha; qualities = rw (← x) hb; fits = rw (← x) w; same = rw (← x) (sym (differ_same 0 s (frame_octets form d') f)) }

    on_fits : (d' : Description) (l' : ℕ) (t : Bool) → writable form d' ≡ t
        → read_frame n s ≡ read_as d' l' → length d'.asdus * n ≤ a → length d'.asdus * n ≤ b
        → cond t (unless_at (differ 0 s (frame_octets form d')) (read_as d' l')) (refusal not_as_written 0) ≡ read_as d l → Strictly form n a b s d l
    on_fits d' l' false f r ha hb e = no_way 6 0 e
    on_fits d' l' true f r ha hb e = on_differ d' l' (differ 0 s (frame_octets form d')) refl r ha hb f e

    on_room : (d' : Description) (l' : ℕ) (t u : Bool) → ltb a (length d'.asdus * n) ≡ t → ltb b (length d'.asdus * n) ≡ u
        → read_frame n s ≡ read_as d' l'
        → again form s (refuse t no_room (refuse u no_room (read_as d' l'))) ≡ read_as d l → Strictly form n a b s d l
    on_room d' l' true u f g r e = no_way 7 0 e
    on_room d' l' false true f g r e = no_way 7 0 e
    on_room d' l' false false f g r e = on_fits d' l' (writable form d') refl r (ltb-false a (length d'.asdus * n) f) (ltb-false b (length d'.asdus * n) g) e

    on_read : (r : Answer (Description × ℕ)) → read_frame n s ≡ r → again form s (held_by (λ (x : Description × ℕ). x.0.asdus) n a b r) ≡ read_as d l → Strictly form n a b s d l
    on_read (refusal k at) f e = no_way k at e
    on_read (accepted (d', l')) f e = on_room d' l' (ltb a (length d'.asdus * n)) (ltb b (length d'.asdus * n)) refl refl f e

pub strictly_so : (form : Form) (n a b : ℕ) (s : List ℕ) (d : Description) (l : ℕ) → Strictly form n a b s d l → strict_read form n a b s ≡ read_as d l
unfolding strict_read ordinary_read held_by again
strictly_so form n a b s d l h =
    let c : ltb a (length d.asdus * n) ≡ false = le-ltb _ _ h.counts in
    let q : ltb b (length d.asdus * n) ≡ false = le-ltb _ _ h.qualities in
    let e : differ 0 s (frame_octets form d) ≡ None = rw h.same (differ_none 0 s) in
    rw (h.ordinary, c, q, h.fits, e)

-- ---- the theorems

-- (1) Written, then read. The frame of an accepted description whose samples fit the arrays is accepted by strict reading,
-- which hands back that description and its Length.
pub written_then_strictly_read : (form : Form) (n a b : ℕ) (d : Description) → Accepted form n d → length d.asdus * n ≤ a → length d.asdus * n ≤ b
    → strict_read form n a b (frame_octets form d) ≡ read_as d (length_of form d)
written_then_strictly_read form n a b d h ha hb =
    strictly_so form n a b (frame_octets form d) d (length_of form d) (record { ordinary = written_then_read form n d h; counts = ha; qualities = hb; fits = h.fits; same = refl })

-- (2) Read, then written. Whatever strict reading accepts is the frame of what it hands back.
pub read_then_written : (form : Form) (n a b : ℕ) (s : List ℕ) (d : Description) (l : ℕ) → strict_read form n a b s ≡ read_as d l → frame_octets form d ≡ s
read_then_written form n a b s d l e = (strictly form n a b s d l e).same

-- strict reading accepts
unfoldable pub Accepts : Form → ℕ → ℕ → ℕ → List ℕ → Type 0
Accepts form n a b s = (d : Description) × (l : ℕ) × (strict_read form n a b s ≡ read_as d l)

-- the octets are the frame of an accepted description whose samples fit the arrays
unfoldable pub IsFrame : Form → ℕ → ℕ → ℕ → List ℕ → Type 0
IsFrame form n a b s = (d : Description) × Accepted form n d × (length d.asdus * n ≤ a) × (length d.asdus * n ≤ b) × (frame_octets form d ≡ s)

-- (3) Accepted exactly. Strict reading accepts octets iff they are the frame of an accepted description of n channels whose
-- samples fit both arrays; ordinary reading then gives the same answer.
pub accepted_is_frame : (form : Form) (n a b : ℕ) (s : List ℕ) → Octets s → (d : Description) (l : ℕ) → strict_read form n a b s ≡ read_as d l
    → Accepted form n d × (length d.asdus * n ≤ a) × (length d.asdus * n ≤ b) × (frame_octets form d ≡ s)
accepted_is_frame form n a b s bytes d l e =
    let h = strictly form n a b s d l e in
    let r = read_typed n s bytes d l h.ordinary in
    (record { channels = r.channels; typed = r.typed; fits = h.fits }, h.counts, h.qualities, h.same)

pub accepted_exactly : (form : Form) (n a b : ℕ) (s : List ℕ) → Octets s → (Accepts form n a b s → IsFrame form n a b s) × (IsFrame form n a b s → Accepts form n a b s)
unfolding Accepts IsFrame
accepted_exactly form n a b s bytes = (to, from)
  where
    to : Accepts form n a b s → IsFrame form n a b s
    to (d, l, e) = let h = accepted_is_frame form n a b s bytes d l e in (d, h.0, h.1, h.2, h.3)

    from : IsFrame form n a b s → Accepts form n a b s
    from (d, h, ha, hb, e) = (d, length_of form d, rw (← e) (written_then_strictly_read form n a b d h ha hb))

pub ordinary_agrees : (form : Form) (n a b : ℕ) (s : List ℕ) (d : Description) (l : ℕ) → strict_read form n a b s ≡ read_as d l → ordinary_read n a b s ≡ read_as d l
unfolding ordinary_read held_by
ordinary_agrees form n a b s d l e =
    let h = strictly form n a b s d l e in
    rw (h.ordinary, le-ltb a _ h.counts, le-ltb b _ h.qualities)

-- (4) One meaning. Two accepted descriptions of n channels with the same frame are equal, in whichever forms it is their frame.
pub one_meaning : (form form' : Form) (n : ℕ) (d e : Description) → Accepted form n d → Accepted form' n e → frame_octets form d ≡ frame_octets form' e → d ≡ e
one_meaning form form' n d e h g same =
    let x : read_frame n (frame_octets form d) ≡ read_as d (length_of form d) = written_then_read form n d h in
    let y : read_frame n (frame_octets form' e) ≡ read_as e (length_of form' e) = written_then_read form' n e g in
    (same_read d e (length_of form d) (length_of form' e) (sym x ∙ ap (read_frame n) same ∙ y)).0

-- (5) Every such description, in whichever form, equals the one that strict reading hands back.
pub handed_back_lem : (form form' : Form) (n a b : ℕ) (s : List ℕ) → Octets s → (d : Description) (l : ℕ) → strict_read form n a b s ≡ read_as d l → (e : Description) → Accepted form' n e → frame_octets form' e ≡ s → (e ≡ d) × (l ≡ length_of form d)
handed_back_lem form form' n a b s bytes d l r e h f =
    let k = accepted_is_frame form n a b s bytes d l r in
    let x : read_frame n s ≡ read_as d l = (strictly form n a b s d l r).ordinary in
    let y : read_frame n s ≡ read_as d (length_of form d) = rw k.3 at (written_then_read form n d k.0) in
    (one_meaning form' form n e d h k.0 (f ∙ sym k.3), (same_read d d l (length_of form d) (sym x ∙ y)).1)

-- (6) One answer. Octets that strict reading accepts in two forms, whatever the arrays, mean the same in both.
pub one_answer : (form form' : Form) (n a b a' b' : ℕ) (s : List ℕ) (d d' : Description) (l l' : ℕ) → strict_read form n a b s ≡ read_as d l → strict_read form' n a' b' s ≡ read_as d' l' → (d ≡ d') × (l ≡ l')
one_answer form form' n a b a' b' s d d' l l' e e' =
    same_read d d' l l' (sym (strictly form n a b s d l e).ordinary ∙ (strictly form' n a' b' s d' l' e').ordinary)

-- (7) Judged by the form that is asked for. The frame of an accepted description, strictly read in another form: refused 6 at the
-- first octet in which that form's frame differs, and accepted where none does; refused 6 at 0 where that form's PDU is too long.
pub judged_by_form : (form form' : Form) (n a b : ℕ) (d : Description) → Accepted form n d → length d.asdus * n ≤ a → length d.asdus * n ≤ b
    → strict_read form' n a b (frame_octets form d)
    ≡ cond (writable form' d) (unless_at (differ 0 (frame_octets form d) (frame_octets form' d)) (read_as d (length_of form d))) (refusal not_as_written 0)
unfolding strict_read ordinary_read held_by again
judged_by_form form form' n a b d h ha hb = rw (written_then_read form n d h, le-ltb a _ ha, le-ltb b _ hb)
