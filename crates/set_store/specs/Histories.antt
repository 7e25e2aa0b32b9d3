-- Stores that calls of the additions make of an empty one, taken or refused: they stand for the stores of the definition, so what is
-- proved of these is so of them.
use Rattle.std.specs.Prelude.{◌≡◌, refl, List, [], ◌∷◌, ◌++◌, ℕ, ◌+◌, ◌*◌, ◌≤◌, length, Float, Result}
use Rattle.std.proofs.Common.{sym, ap, ◌∙◌, arith}
use Rattle.std.proofs.lemmas.List.{length-replicate}
use Rattle.std.proofs.lemmas.List.Edits.{sets}
use Rattle.std.proofs.Math.Seq.{length-sets}
use Rattle.definition.specs.Limits.{max_channels, no_set}
use Rattle.definition.specs.Frame.{Description}
use Rattle.definition.specs.Answers.{Answer, accepted, refusal}
use Rattle.definition.specs.Flat.{nth}
use Rattle.rt_services.specs.DataSet.{no_scale}
use Rattle.rt_services.specs.declared.SavDataSetConfig.{SavDataSetConfig}
use Rattle.data_sets.specs.DataSets.{store_numbers, store_scales, added, stored, held_in, sets_from, store_of, channels_of, store_add, numbers_after, scales_after}
use Rattle.data_sets.proofs.TwoArrays.{store_after}
use Rattle.data_sets.proofs.Store.{Made, made}
use Rattle.data_sets.proofs.Theorems.{Lasting}
use Rattle.rt_services.specs.declared.Refusal.{Refusal}
use Rattle.set_store.specs.Told.{empty_store, AddedTo}

-- the two arrays after the additions xs, one after the other, each to the arrays that the one before left; a set of up to 24 channels
-- has 24 scale factors
pub data Built : List (ℕ × SavDataSetConfig) → List ℕ → List Float → Type 0 where
  empty : {k : List ℕ} {f : List Float} → length k ≡ store_numbers → length f ≡ store_scales → nth k 0 ≡ 0 → Built [] k f
  more : {xs : List (ℕ × SavDataSetConfig)} {k : List ℕ} {f : List Float} (rev : ℕ) (x : SavDataSetConfig) {k' : List ℕ} {f' : List Float} → Built xs k f → (x.channels ≤ max_channels → length x.scale_factor ≡ max_channels)
      → k' ≡ numbers_after (store_add k f rev x) k rev x → f' ≡ scales_after (store_add k f rev x) k f x → Built (xs ++ ((rev, x) ∷ [])) k' f'

-- The store that DataSets::empty hands back has had no additions.
pub none_added : Built [] empty_store.numbers empty_store.scales
unfolding empty_store
none_added = empty (length-replicate {A = ℕ} store_numbers 0) (length-replicate store_scales no_scale) refl

-- A call of add or add_to is one more addition, taken or refused.
pub one_added : {xs : List (ℕ × SavDataSetConfig)} {k : List ℕ} {f : List Float} → Built xs k f → {rev : ℕ} {x : SavDataSetConfig} → length x.scale_factor ≡ max_channels
    → {r : Result ℕ Refusal} {k' : List ℕ} {f' : List Float} → AddedTo rev x k f r k' f' → Built (xs ++ ((rev, x) ∷ [])) k' f'
one_added b {rev} {x} whole a = more rev x b (λ few. whole) a.numbers a.scales

numbers_long : (r : Answer (List (ℕ × SavDataSetConfig))) (k : List ℕ) (rev : ℕ) (x : SavDataSetConfig) → length (numbers_after r k rev x) ≡ length k
numbers_long (accepted l) k rev x = length-sets (sets k 0 ((held_in k + 1) ∷ [])) (1 + held_in k * 2) (rev ∷ x.channels ∷ []) ∙ length-sets k 0 ((held_in k + 1) ∷ [])
numbers_long (refusal n p) k rev x = refl

scales_long : (r : Answer (List (ℕ × SavDataSetConfig))) (k : List ℕ) (f : List Float) (x : SavDataSetConfig) → length (scales_after r k f x) ≡ length f
scales_long (accepted l) k f x = length-sets f (held_in k * max_channels) x.scale_factor
scales_long (refusal n p) k f x = refl

stored_append : {A : Type 0} (channels : A → ℕ) (l xs ys : List (ℕ × A)) → stored channels l (xs ++ ys) ≡ stored channels (stored channels l xs) ys
unfolding stored
stored_append channels l [] ys = refl
stored_append channels l (x ∷ xs) ys = stored_append channels (added channels l x) xs ys

none_held : (k : List ℕ) (f : List Float) → nth k 0 ≡ 0 → store_of k f ≡ []
unfolding store_of sets_from
none_held k f e = let h : held_in k ≡ 0 = omega (arith, e) in rw h

-- what they stand for
pub record Stands (xs : List (ℕ × SavDataSetConfig)) (k : List ℕ) (f : List Float) : Type 0 where
  pub numbers : length k ≡ store_numbers
  pub scales : length f ≡ store_scales
  pub is : store_of k f ≡ stored channels_of [] xs

pub built : {xs : List (ℕ × SavDataSetConfig)} {k : List ℕ} {f : List Float} → Built xs k f → Stands xs k f
unfolding stored added
built (empty {k = k} {f = f} n s e) = record { numbers = n; scales = s; is = none_held k f e }
built (more {xs = xs} {k = k} {f = f} rev x b whole e g) =
    let h = built b in
    record {
      numbers = rw e (numbers_long (store_add k f rev x) k rev x ∙ h.numbers);
      scales = rw g (scales_long (store_add k f rev x) k f x ∙ h.scales);
      is =
          rw (e, g) (store_after k f rev x h.numbers h.scales whole)
          ∙ ap (λ (l : List (ℕ × SavDataSetConfig)). added channels_of l (rev, x)) h.is
          ∙ sym (stored_append channels_of [] xs ((rev, x) ∷ []));
    }

-- The confRevs held are strictly increasing, at most 32, and each set has at most 24 channels.
pub built_made : {xs : List (ℕ × SavDataSetConfig)} {k : List ℕ} {f : List Float} → Built xs k f → Made channels_of (store_of k f)
built_made {xs} b = rw (built b).is (made channels_of xs)

-- "From an empty store, a later addition, taken or refused, never changes how an already readable frame reads into the same arrays": of
-- any reading by stores that later additions leave so, no answer but 15 is another after more additions.
pub later_same : {g : List (ℕ × SavDataSetConfig) → Answer (SavDataSetConfig × (Description × ℕ))} → Lasting channels_of g
    → {xs : List (ℕ × SavDataSetConfig)} (ys : List (ℕ × SavDataSetConfig)) {k k' : List ℕ} {f f' : List Float} → Built xs k f → Built (xs ++ ys) k' f'
    → (g (store_of k f) ≡ refusal no_set 0 → ⊥) → g (store_of k' f') ≡ g (store_of k f)
later_same {g} w {xs} ys {k} {k'} {f} {f'} b b' other =
    let e : g (store_of k' f') ≡ g (stored channels_of (stored channels_of [] xs) ys) = ap g ((built b').is ∙ stored_append channels_of [] xs ys) in
    let h : g (stored channels_of [] xs) ≡ g (store_of k f) = ap g (sym (built b).is) in
    e ∙ w.later_additions xs ys (g (store_of k f)) other h
