-- What is found in a store, set by set; and what that says of the store as a list.
use Rattle.std.specs.Prelude.{◌≡◌, List, [], ◌∷◌, Bool, ◌&&◌, take, drop, get_or, Float, ltb, eqb}
use Rattle.std.specs.List as list
use Rattle.std.specs.List.{list_all, range_with_len}
use Rattle.std.proofs.Math.Path.{refl}
use Rattle.std.proofs.Common.{sym, ap, ◌∙◌, append-nil, append_assoc, add-one, drop_of_length-le, length-drop, take-suc}
use Rattle.std.proofs.lemmas.List.{drop-drop, get_or-drop}
use borrow.Rule.Slice.PartMut.{put_mid}
use Rattle.definition.specs.Over.{take_none}
use Rattle.std.specs.Prelude.{Option, Some, None}
use Rattle.std.specs.Option.{IfSome}
use Rattle.std.proofs.Math.Bool.{true, false, cond}
use Prim.Native.Nat.{ℕ, zero, suc, ◌+◌, ◌*◌, ◌≤◌, ◌<◌}
use native.Mathlib.Omega.{arith}
use Rattle.std.proofs.Math.ListN.{length, length-append}
use Rattle.std.proofs.Math.Seq.{sets}
use Rattle.std.proofs.lemmas.List.Edits.{sets-eq}
use Rattle.definition.specs.Frame.{and, all}
use Rattle.definition.specs.Flat.{nth}
use Rattle.definition.specs.Scaling.{up_to}
use Rattle.rt_services.specs.declared.SavDataSetConfig.{SavDataSetConfig}
use Rattle.data_sets.specs.DataSets.{higher, find, held_in, set_at, sets_from, store_of}

-- ---- higher than all held

-- than m sets, from set i on
unfoldable pub above_from : List ℕ → ℕ → ℕ → ℕ → Bool
above_from k rev i zero = true
above_from k rev i (suc m) = and (ltb (nth k (1 + i * 2)) rev) (above_from k rev (suc i) m)

abbrev pub above_all : List ℕ → ℕ → Bool
above_all k rev = above_from k rev 0 (held_in k)

pub higher_is : (k : List ℕ) (f : List Float) (rev i m : ℕ) → higher rev (sets_from k f i m) ≡ above_from k rev i m
unfolding higher all sets_from above_from
higher_is k f rev i zero = refl
higher_is k f rev i (suc m) = ap (and (ltb (nth k (1 + i * 2)) rev)) (higher_is k f rev (suc i) m)

-- as `all` answers of the places of sets
pub all_above : (k : List ℕ) (rev m i : ℕ) → list_all (λ j. ltb (nth k (1 + j * 2)) rev) (range_with_len i m) ≡ above_from k rev i m
unfolding above_from and
all_above k rev zero i = refl
all_above k rev (suc m) i = rw (add-one i, all_above k rev m (suc i)) (go (ltb (nth k (1 + i * 2)) rev))
  where
    go : (t : Bool) → (t && above_from k rev (suc i) m) ≡ cond t (above_from k rev (suc i) m) false
    go true = refl
    go false = refl

-- ---- which is under a confRev

-- of m sets, from set i on
unfoldable pub position_from : List ℕ → ℕ → ℕ → ℕ → Option ℕ
position_from k rev i zero = None
position_from k rev i (suc m) = cond (eqb (nth k (1 + i * 2)) rev) (Some i) (position_from k rev (suc i) m)

abbrev pub position_in : List ℕ → ℕ → Option ℕ
position_in k rev = position_from k rev 0 (held_in k)

-- as `find` answers of the places of sets
pub first_of : (k : List ℕ) (rev m i : ℕ) → list.find (λ j. eqb (nth k (1 + j * 2)) rev) (range_with_len i m) ≡ position_from k rev i m
unfolding position_from
first_of k rev zero i = refl
first_of k rev (suc m) i = rw (add-one i, first_of k rev m (suc i))

-- the set at a position
module _ (k : List ℕ) (f : List Float) (rev : ℕ) where
  abbrev at_position : Option ℕ → Option SavDataSetConfig
  at_position None = None
  at_position (Some i) = Some (set_at k f i).1

  found_from : (i m : ℕ) → find (sets_from k f i m) rev ≡ at_position (position_from k rev i m)
  unfolding find sets_from position_from
  found_from i zero = refl
  found_from i (suc m) = go (eqb (nth k (1 + i * 2)) rev) (found_from (suc i) m)
    where
      go : (t : Bool) → find (sets_from k f (suc i) m) rev ≡ at_position (position_from k rev (suc i) m)
          → cond t (Some (set_at k f i).1) (find (sets_from k f (suc i) m) rev) ≡ at_position (cond t (Some i) (position_from k rev (suc i) m))
      go true e = refl
      go false e = e

  pub found_at : {i : ℕ} → Some i ≡ position_in k rev → find (store_of k f) rev ≡ Some (set_at k f i).1
  unfolding store_of
  found_at e = rw (← e) at (found_from 0 (held_in k))

  pub not_found : None ≡ position_in k rev → find (store_of k f) rev ≡ None
  unfolding store_of
  not_found e = rw (← e) at (found_from 0 (held_in k))

-- it is one of the sets held
module _ (k : List ℕ) (rev : ℕ) where
  next : {n m : ℕ} (o : Option ℕ) → n ≤ m → IfSome o (λ j. j < n) → IfSome o (λ j. j < m)
  next None l h = tt
  next (Some j) l h = omega arith

  below_from : (i m : ℕ) → IfSome (position_from k rev i m) (λ j. j < i + m)
  unfolding position_from
  below_from i zero = tt
  below_from i (suc m) = go (eqb (nth k (1 + i * 2)) rev) (below_from (suc i) m)
    where
      go : (t : Bool) → IfSome (position_from k rev (suc i) m) (λ j. j < suc i + m) → IfSome (cond t (Some i) (position_from k rev (suc i) m)) (λ j. j < i + suc m)
      go true h = omega arith
      go false h = next (position_from k rev (suc i) m) (omega arith) h

  pub position_held : {i : ℕ} → Some i ≡ position_in k rev → i < held_in k
  position_held {i} e = let h : i < 0 + held_in k = rw (← e) at (below_from 0 (held_in k)) in omega arith

-- ---- elements of an array put in the place of others

module _ {A : Type 0} (l : List A) (at k : ℕ) (xs : List A) where
  pub put_sets : k ≡ length xs → at + k ≤ length l → put_mid at k l xs ≡ sets l at xs
  put_sets e h = let g : at + length xs ≤ length l = omega arith in rw (drop-drop, e, sets-eq xs l at g) (sym (append_assoc (take at l) xs (drop (at + length xs) l)))

module _ {A : Type 0} (l xs : List A) where
  pub all_sets : length l ≡ length xs → sets l 0 xs ≡ xs
  all_sets e =
      let h : 0 + length xs ≤ length l = omega arith in
      let d : drop (0 + length xs) l ≡ [] = drop_of_length-le l (omega arith) in
      sets-eq xs l 0 h ∙ rw d (append-nil xs)

pub up_length : {A : Type 0} (m : ℕ) (f : ℕ → A) → length (up_to m f) ≡ m
unfolding up_to
up_length zero f = refl
up_length (suc m) f = omega (arith, length-append (up_to m f) (f m ∷ []), up_length m f)

module _ {A : Type 0} (l : List A) (at : ℕ) (d : A) where
  -- the elements from a place on, one by one
  pub part_up : (m : ℕ) → at + m ≤ length l → take m (drop at l) ≡ up_to m (λ j. get_or l (at + j) d)
  unfolding up_to
  part_up zero h = take_none (drop at l)
  part_up (suc m) h =
      let g : m < length (drop at l) = omega (arith, length-drop at l) in
      rw (take-suc (drop at l) m d g, part_up m (omega arith), get_or-drop at l m d)

-- a set, from its parts
pub set_is : (k : List ℕ) (f : List Float) (i : ℕ) {n : ℕ} {l : List Float} → n ≡ (set_at k [] i).1.channels → l ≡ (set_at [] f i).1.scale_factor
    → record { channels = n; scale_factor = l } ≡ (set_at k f i).1
set_is k f i e g = rw (e, g)
