-- Where two lists of octets first differ: at the first pair of different octets, or where the shorter ends.
use Rattle.std.specs.Prelude.{◌≡◌, refl, List, [], ◌∷◌, Bool, true, false, not, cond, ℕ, zero, suc, ◌+◌, ◌-◌, ◌≤◌, ◌<◌, min, length, take, drop, eqb, ltb, Some, None}
use Rattle.std.specs.Bool.{then_some}
use Rattle.std.specs.List.{zip, position_or_len}
use Rattle.std.proofs.Common.{sym, ◌∙◌, arith, add-zero, zero-add, length-drop, length-take-le, one-add, eq-eqb, ne_eqb}
use borrow.Author.Tests.{eqb-true, eqb-false, ltb-true, ltb-false}
use Rattle.definition.specs.Answers.{differ}

passed : (k at : ℕ) (s t : List ℕ) → k ≤ length s → k ≤ length t → take k s ≡ take k t → differ at s t ≡ differ (at + k) (drop k s) (drop k t)
unfolding differ
passed zero at s t h g a = rw (add-zero at)
passed (suc k) at [] t h g a = absurd (omega arith)
passed (suc k) at (x ∷ s) [] h g a = absurd (omega arith)
passed (suc k) at (x ∷ s) (y ∷ t) h g a =
    let first : x ≡ y = cc in
    let rest : take k s ≡ take k t = cc in
    let p : at + suc k ≡ suc at + k = omega arith in
    rw (p, eq-eqb x y first) (passed k (suc at) s t (omega arith) (omega arith) rest)

-- every octet agrees as far as the shorter goes
pub differ_ends : (s t : List ℕ) (m : ℕ) → m ≡ min (length s) (length t) → take m s ≡ take m t → then_some (not (eqb (length s) (length t))) m ≡ differ 0 s t
unfolding differ
differ_ends s t m is a = sym (passed m 0 s t (omega arith) (omega arith) a ∙ rw (zero-add m) (go (drop m s) (drop m t) (length-drop m s) (length-drop m t)))
  where
    go : (x y : List ℕ) → length x ≡ length s - m → length y ≡ length t - m → differ m x y ≡ then_some (not (eqb (length s) (length t))) m
    go [] [] e f = let same : length s ≡ length t = omega arith in rw (eq-eqb (length s) (length t) same)
    go [] (y ∷ ys) e f = rw (ne_eqb (length s) (length t) (λ same. omega arith))
    go (x ∷ xs) [] e f = rw (ne_eqb (length s) (length t) (λ same. omega arith))
    go (x ∷ xs) (y ∷ ys) e f = absurd (omega arith)

-- whether a pair is of different octets
abbrev pub unlike : ℕ × ℕ → Bool
unlike p = not (eqb p.0 p.1)

-- the first pair of different octets
abbrev first : List ℕ → List ℕ → ℕ
first s t = position_or_len unlike (zip s t)

same : (x y : ℕ) (s t : List ℕ) → x ≡ y → first (x ∷ s) (y ∷ t) ≡ suc (first s t)
same x y s t e = rw (eq-eqb x y e, one-add)

other : (x y : ℕ) (s t : List ℕ) → (x ≡ y → ⊥) → first (x ∷ s) (y ∷ t) ≡ 0
other x y s t f = rw (ne_eqb x y f)

decide : {P : Type 0} (x y : ℕ) → (x ≡ y → P) → ((x ≡ y → ⊥) → P) → P
decide {P} x y f g = go (eqb x y) refl
  where
    go : (b : Bool) → eqb x y ≡ b → P
    go true e = f (eqb-true x y e)
    go false e = g (eqb-false x y e)

found : (m at : ℕ) (s t : List ℕ) → first (take m s) (take m t) < length (zip (take m s) (take m t)) → Some (at + first (take m s) (take m t)) ≡ differ at s t
unfolding differ
found zero at s t h = absurd (omega arith)
found (suc m) at [] t h = absurd (omega arith)
found (suc m) at (x ∷ s) [] h = absurd (omega arith)
found (suc m) at (x ∷ s) (y ∷ t) h =
    let k = first (take m s) (take m t) in
    decide x y
    (λ e. let a = same x y (take m s) (take m t) e in
    let n : at + suc k ≡ suc at + k = omega arith in
    let l : k < length (zip (take m s) (take m t)) = omega arith in
    rw (a, n, eq-eqb x y e) (found m (suc at) s t l))
    (λ f. rw (other x y (take m s) (take m t) f, ne_eqb x y f, add-zero at))

alike : (s t : List ℕ) → length s ≡ length t → length (zip s t) ≤ first s t → s ≡ t
alike [] [] l g = refl
alike [] (y ∷ t) l g = absurd (omega arith)
alike (x ∷ s) [] l g = absurd (omega arith)
alike (x ∷ s) (y ∷ t) l g =
    decide x y
    (λ e. let i : s ≡ t = alike s t (omega arith) (omega (arith, same x y s t e)) in cc)
    (λ f. absurd (omega (arith, other x y s t f)))

-- an octet differs before the shorter ends
pub differ_first : (s t : List ℕ) (m : ℕ) → m ≡ min (length s) (length t) → (take m s ≡ take m t → ⊥) → cond (ltb (first (take m s) (take m t)) (length (zip (take m s) (take m t)))) (Some (first (take m s) (take m t))) None ≡ differ 0 s t
differ_first s t m e f = go (ltb k (length z)) refl
  where
    k : ℕ
    k = first (take m s) (take m t)

    z : List (ℕ × ℕ)
    z = zip (take m s) (take m t)

    go : (b : Bool) → ltb k (length z) ≡ b → cond b (Some k) None ≡ differ 0 s t
    go true h = rw (zero-add k) at (found m 0 s t (ltb-true _ _ h))
    go false h = absurd (f (alike (take m s) (take m t) (length-take-le m s (omega arith) ∙ sym (length-take-le m t (omega arith))) (ltb-false _ _ h)))
