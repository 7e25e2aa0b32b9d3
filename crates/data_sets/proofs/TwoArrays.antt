-- A store in two arrays, after an addition, taken or refused, is the list that the definition of an addition says: the sets before it
-- stay where they were, and the added one stands after them.
use Rattle.std.specs.Prelude.{◌≡◌, refl, List, [], ◌∷◌, ◌++◌, ℕ, zero, suc, ◌+◌, ◌*◌, ◌≤◌, ◌<◌, length, take, drop, get_or, Float}
use Rattle.std.proofs.Common.{sym, ap, ◌∙◌, append_assoc, length-set, length-take-le, take_all, take-suc, get_or-take, get_or-append-add, get_or-set_same, get_or-set_other}
use native.Mathlib.Omega.{arith}
use Rattle.std.proofs.Math.ListN.{get_or-append}
use Rattle.std.proofs.lemmas.List.Edits.{sets, sets-eq}
use Rattle.std.specs.Float.{nan}
use Rattle.definition.specs.Limits.{max_channels, max_sets}
use Rattle.definition.specs.Answers.{Answer}
use Rattle.definition.specs.Flat.{nth}
use Rattle.definition.specs.Scaling.{up_to}
use Rattle.definition.specs.UpTo.{same_elements}
use Rattle.rt_services.specs.declared.SavDataSetConfig.{SavDataSetConfig}
use Rattle.data_sets.specs.DataSets.{store_numbers, store_scales, kept, held_in, set_at, sets_from, store_of, channels_of, store_add, numbers_after, scales_after}
use Rattle.data_sets.proofs.Store.{Outcome, taken, many, not_added, outcome}

-- ---- elements before those that were put, and these

module _ {A : Type 0} (l : List A) (at : ℕ) (xs : List A) (room : at + length xs ≤ length l) where
  is : sets l at xs ≡ take at l ++ (xs ++ drop (at + length xs) l)
  is = sets-eq xs l at room ∙ append_assoc (take at l) xs (drop (at + length xs) l)

  front : length (take at l) ≡ at
  front = length-take-le at l (omega arith)

  before : (i : ℕ) (d : A) → i < at → get_or (sets l at xs) i d ≡ get_or l i d
  before i d g =
      let k : i < length (take at l) = omega (arith, front) in
      rw is (get_or-append (take at l) (xs ++ drop (at + length xs) l) d i k ∙ get_or-take at l i d g)

  inside : (i : ℕ) (d : A) → i < length xs → get_or (sets l at xs) (at + i) d ≡ get_or xs i d
  inside i d g =
      let e : get_or (take at l ++ (xs ++ drop (at + length xs) l)) (length (take at l) + i) d ≡ get_or (xs ++ drop (at + length xs) l) i d = get_or-append-add (take at l) (xs ++ drop (at + length xs) l) i d in
      rw is ((rw front at e) ∙ get_or-append xs (drop (at + length xs) l) d i g)

-- ---- the elements of a list, one after the other

all_elements : {A : Type 0} (l : List A) (d : A) (m : ℕ) → m ≤ length l → up_to m (λ j. get_or l j d) ≡ take m l
unfolding up_to
all_elements l d zero h = refl
all_elements l d (suc m) h = rw (all_elements l d m (omega arith)) (sym (take-suc l m d (omega arith)))

-- ---- sets that are the same in two stores

same_sets : (k k' : List ℕ) (f f' : List Float) (i m : ℕ) → ((j : ℕ) → j < i + m → set_at k' f' j ≡ set_at k f j) → sets_from k' f' i m ≡ sets_from k f i m
unfolding sets_from
same_sets k k' f f' i zero h = refl
same_sets k k' f f' i (suc m) h =
    let e : set_at k' f' i ≡ set_at k f i = h i (omega arith) in
    let g : sets_from k' f' (suc i) m ≡ sets_from k f (suc i) m = same_sets k k' f f' (suc i) m (λ j less. h j (omega arith)) in
    rw (e, g)

one_set_more : (k : List ℕ) (f : List Float) (i m : ℕ) → sets_from k f i (suc m) ≡ sets_from k f i m ++ (set_at k f (i + m) ∷ [])
unfolding sets_from
one_set_more k f i zero = let e : i + 0 ≡ i = omega arith in rw e
one_set_more k f i (suc m) =
    let e : suc i + m ≡ i + suc m = omega arith in
    ap (λ (l : List (ℕ × SavDataSetConfig)). set_at k f i ∷ l) (one_set_more k f (suc i) m ∙ rw e)

pub sets_number : (k : List ℕ) (f : List Float) (i m : ℕ) → length (sets_from k f i m) ≡ m
unfolding sets_from
sets_number k f i zero = refl
sets_number k f i (suc m) = ap suc (sets_number k f (suc i) m)

-- as many as it holds
pub store_number : (k : List ℕ) (f : List Float) → length (store_of k f) ≡ held_in k
unfolding store_of
store_number k f = sets_number k f 0 (held_in k)

-- ---- one set more

module _ (k : List ℕ) (f : List Float) (rev : ℕ) (x : SavDataSetConfig) (sized : length k ≡ store_numbers) (scaled : length f ≡ store_scales) (whole : length x.scale_factor ≡ max_channels) (room : held_in k < max_sets) where
  abbrev m : ℕ
  m = held_in k

  abbrev first : List ℕ
  first = sets k 0 ((m + 1) ∷ [])

  abbrev k' : List ℕ
  k' = sets first (1 + m * 2) (rev ∷ x.channels ∷ [])

  abbrev f' : List Float
  f' = sets f (m * max_channels) x.scale_factor

  numbered : 1 + m * 2 + 2 ≤ length first
  numbered = omega (arith, length-set k 0 (m + 1))

  scaled_too : m * max_channels + length x.scale_factor ≤ length f
  scaled_too = omega arith

  held_more : held_in k' ≡ suc m
  held_more =
      let h : nth k' 0 ≡ nth first 0 = before first (1 + m * 2) (rev ∷ x.channels ∷ []) numbered 0 0 (omega arith) in
      let g : nth first 0 ≡ m + 1 = get_or-set_same k 0 (m + 1) 0 (omega arith) in
      omega (arith, h, g)

  number_before : (j : ℕ) → 1 ≤ j → j < 1 + m * 2 → nth k' j ≡ nth k j
  number_before j low high =
      let other : j ≡ 0 → ⊥ = λ e. omega arith in
      before first (1 + m * 2) (rev ∷ x.channels ∷ []) numbered j 0 high ∙ get_or-set_other k 0 j (m + 1) 0 other

  earlier : (j : ℕ) → j < m → set_at k' f' j ≡ set_at k f j
  earlier j less =
      let a : nth k' (1 + j * 2) ≡ nth k (1 + j * 2) = number_before (1 + j * 2) (omega arith) (omega arith) in
      let b : nth k' (2 + j * 2) ≡ nth k (2 + j * 2) = number_before (2 + j * 2) (omega arith) (omega arith) in
      let c : up_to max_channels (λ i. get_or f' (j * max_channels + i) nan) ≡ up_to max_channels (λ i. get_or f (j * max_channels + i) nan)
      = same_elements max_channels _ _ (λ i h. before f (m * max_channels) x.scale_factor scaled_too (j * max_channels + i) nan (omega arith)) in
      rw (a, b, c)

  last : set_at k' f' m ≡ (rev, x)
  last =
      let z : 1 + m * 2 + 0 ≡ 1 + m * 2 = omega arith in
      let y : 1 + m * 2 + 1 ≡ 2 + m * 2 = omega arith in
      let a : nth k' (1 + m * 2) ≡ rev = rw z at (inside first (1 + m * 2) (rev ∷ x.channels ∷ []) numbered 0 0 (omega arith)) in
      let b : nth k' (2 + m * 2) ≡ x.channels = rw y at (inside first (1 + m * 2) (rev ∷ x.channels ∷ []) numbered 1 0 (omega arith)) in
      let c : up_to max_channels (λ i. get_or f' (m * max_channels + i) nan) ≡ up_to max_channels (λ i. get_or x.scale_factor i nan)
      = same_elements max_channels _ _ (λ i h. inside f (m * max_channels) x.scale_factor scaled_too i nan (omega arith)) in
      let e : up_to max_channels (λ i. get_or x.scale_factor i nan) ≡ x.scale_factor = all_elements x.scale_factor nan max_channels (omega arith) ∙ take_all max_channels x.scale_factor (omega arith) in
      rw (a, b, c, e)

  pub one_more : store_of k' f' ≡ store_of k f ++ ((rev, x) ∷ [])
  unfolding store_of
  one_more =
      let z : 0 + m ≡ m = omega arith in
      let e : set_at k' f' (0 + m) ≡ (rev, x) = rw z last in
      rw (held_more, one_set_more k' f' 0 m, same_sets k k' f f' 0 m (λ j less. earlier j (omega arith)), e)

-- ---- an addition

-- The two arrays after an addition, taken or refused, are the store after it. A set of up to 24 channels has 24 scale factors; one of
-- more is refused, however many it has.
pub store_after : (k : List ℕ) (f : List Float) (rev : ℕ) (x : SavDataSetConfig) → length k ≡ store_numbers → length f ≡ store_scales
    → (x.channels ≤ max_channels → length x.scale_factor ≡ max_channels)
    → store_of (numbers_after (store_add k f rev x) k rev x) (scales_after (store_add k f rev x) k f x) ≡ kept (store_of k f) (store_add k f rev x)
store_after k f rev x sized scaled whole = go (store_add k f rev x) (outcome channels_of (store_of k f) rev x)
  where
    go : (r : Answer (List (ℕ × SavDataSetConfig))) → Outcome channels_of (store_of k f) rev x r → store_of (numbers_after r k rev x) (scales_after r k f x) ≡ kept (store_of k f) r
    go _ (taken few b less) = one_more k f rev x sized scaled (whole few) (omega (arith, less, store_number k f))
    go _ (many h) = refl
    go _ (not_added few h) = refl
