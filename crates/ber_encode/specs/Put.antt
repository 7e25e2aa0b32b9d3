-- Octets written over a list from a position on, and the laws that writers compose by.
use Rattle.std.specs.Prelude.{◌≡◌, refl, List, [], ◌∷◌, ◌++◌, ℕ, suc, ◌+◌, ◌-◌, ◌≤◌, ◌<◌, length, take, drop, set}
use Rattle.std.proofs.Common.{sym, ap, ◌∙◌, append_assoc, append-nil, add-zero, add-one, arith, length-set, length-append, length-drop, length-take, take-append-drop, drop_of_length-le, take_all, drop-drop}
use Rattle.definition.specs.Answers.{over}
use Rattle.std.proofs.lemmas.List.Edits.{sets, sets-eq}
use Rattle.std.proofs.lemmas.List.{drop-set-add, take-set-le, set_comm}

-- d with the octets xs in the place of those from `at` on: each store is the code's own
unfoldable pub put : List ℕ → ℕ → List ℕ → List ℕ
put d at [] = d
put d at (x ∷ xs) = put (set d at x) (at + 1) xs

pub length-put : (d : List ℕ) (at : ℕ) (xs : List ℕ) → length (put d at xs) ≡ length d
unfolding put
length-put d at [] = refl
length-put d at (x ∷ xs) = length-put (set d at x) (at + 1) xs ∙ length-set d at x

-- one write after another is one write
pub put-put : (d : List ℕ) (at : ℕ) (xs ys : List ℕ) → put (put d at xs) (at + length xs) ys ≡ put d at (xs ++ ys)
unfolding put
put-put d at [] ys = rw add-zero refl
put-put d at (x ∷ xs) ys =
    let e : at + suc (length xs) ≡ at + 1 + length xs = omega arith in
    rw e (put-put (set d at x) (at + 1) xs ys)

put_sets : (d : List ℕ) (at : ℕ) (xs : List ℕ) → put d at xs ≡ sets d at xs
unfolding put
put_sets d at [] = refl
put_sets d at (x ∷ xs) = put_sets (set d at x) (at + 1) xs ∙ ap (λ (n : ℕ). sets (set d at x) n xs) (add-one at)

-- where there is room for the octets, these stores leave what `over` of the definitions says
pub put_over : (d : List ℕ) (at : ℕ) (xs : List ℕ) → at + length xs ≤ length d → put d at xs ≡ over d at xs
unfolding over
put_over d at xs h = put_sets d at xs ∙ sets-eq xs d at h ∙ append_assoc (take at d) xs (drop (at + length xs) d)

put-drop : (d : List ℕ) (a at : ℕ) (xs : List ℕ) → put (drop a d) at xs ≡ drop a (put d (a + at) xs)
unfolding put
put-drop d a at [] = refl
put-drop d a at (x ∷ xs) =
    let e : a + at + 1 ≡ a + (at + 1) = omega arith in
    rw (← drop-set-add a d at x, e) (put-drop (set d (a + at) x) a (at + 1) xs)

take_put : (d : List ℕ) (a at : ℕ) (xs : List ℕ) → a ≤ at → take a (put d at xs) ≡ take a d
unfolding put
take_put d a at [] h = refl
take_put d a at (x ∷ xs) h = take_put (set d at x) a (at + 1) xs (omega arith) ∙ take-set-le a d at x h

-- a write into the part from a on, come back to the whole
pub put_part : (d : List ℕ) (a at : ℕ) (xs : List ℕ) → a ≤ length d
    → take a d ++ (put (drop a d) at xs ++ drop (length d - a) (drop a d)) ≡ put d (a + at) xs
put_part d a at xs h =
    let far : length (drop a d) ≤ length d - a = simp length-drop (omega arith) in
    let none : drop (length d - a) (drop a d) ≡ [] = drop_of_length-le (drop a d) far in
    rw (none, append-nil, put-drop) (rw (← take_put d a (a + at) xs (omega arith)) (take-append-drop a (put d (a + at) xs)))

-- a store below a write, or above it, is part of it
pub set_put : (d : List ℕ) (j at : ℕ) (x : ℕ) (xs : List ℕ) → j < at → set (put d at xs) j x ≡ put (set d j x) at xs
unfolding put
set_put d j at x [] h = refl
set_put d j at x (y ∷ ys) h =
    set_put (set d at y) j (at + 1) x ys (omega arith) ∙ ap (λ (l : List ℕ). put l (at + 1) ys) (set_comm d at j y x (λ e. omega arith))

pub put_front : (d : List ℕ) (at x : ℕ) (xs : List ℕ) → set (put d (at + 1) xs) at x ≡ put d at (x ∷ xs)
unfolding put
put_front d at x xs = set_put d at (at + 1) x xs (omega arith)

pub put_back : (d : List ℕ) (at : ℕ) (xs : List ℕ) (x : ℕ) → set (put d at xs) (at + length xs) x ≡ put d at (xs ++ (x ∷ []))
unfolding put
put_back d at xs x = put-put d at xs (x ∷ [])

-- the contract of every writer: d became d' by the octets xs from `at` on, and r is the place after them
pub record Wrote (d : List ℕ) (at : ℕ) (xs : List ℕ) (d' : List ℕ) (r : ℕ) : Type 0 where
  pub list : d' ≡ put d at xs
  pub place : r ≡ at + length xs

pub nothing_wrote : (d : List ℕ) (at : ℕ) → Wrote d at [] d at
unfolding put
nothing_wrote d at = record { list = refl; place = sym (add-zero at) }

pub one_wrote : (d : List ℕ) (at x : ℕ) → Wrote d at (x ∷ []) (set d at x) (at + 1)
unfolding put
one_wrote d at x = record { list = refl; place = refl }

-- one writer after another
pub and_then : {d : List ℕ} {at : ℕ} {xs ys : List ℕ} {d' d'' : List ℕ} {p r : ℕ} → Wrote d at xs d' p → Wrote d' p ys d'' r → Wrote d at (xs ++ ys) d'' r
and_then {d} {at} {xs} {ys} {d'} {d''} {p} {r} u v = record {
  list = v.list ∙ (rw (u.list, u.place) (put-put d at xs ys));
  place = rw length-append (omega (arith, u.place, v.place));
}

-- a writer that was lent the part from a on, `&mut d[a..]`, seen from the whole: what the borrow checker says of the part before and of the whole after
pub part_wrote : (d : List ℕ) (a : ℕ) {xs d' : List ℕ} {r : ℕ} → a ≤ length d → Wrote (take (length d - a) (drop a d)) 0 xs d' r
    → Wrote d a xs (take a d ++ (d' ++ drop (length d - a) (drop a d))) (a + r)
part_wrote d a {xs} {d'} {r} h w =
    let far : length (drop a d) ≤ length d - a = simp length-drop (omega arith) in
    let whole : take (length d - a) (drop a d) ≡ drop a d = take_all (length d - a) (drop a d) far in
    record {
      list = rw (w.list, whole) (put_part d a 0 xs h ∙ ap (λ (n : ℕ). put d n xs) (add-zero a));
      place = omega (arith, w.place);
    }

pub part_length : (d : List ℕ) (a : ℕ) → length (take (length d - a) (drop a d)) ≡ length d - a
part_length d a = simp (length-take, length-drop) (omega arith)

-- a copy into the part from `at` on, of k elements
pub mid_wrote : (d : List ℕ) (at k : ℕ) {xs ys : List ℕ} → ys ≡ xs → k ≡ length xs → at + length xs ≤ length d
    → Wrote d at xs (take at d ++ (ys ++ drop k (drop at d))) (at + length xs)
unfolding over
mid_wrote d at k {xs} {ys} e f h = record {
  list = rw (e, f, drop-drop) (sym (put_over d at xs h));
  place = refl;
}
