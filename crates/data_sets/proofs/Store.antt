-- Stores: what an addition answers, and what is so of every store that additions, taken or refused, make from an empty one. An addition
-- has three outcomes, each with what it means of the store and the set; all else goes by these.
use Rattle.std.proofs.Math.Path.{◌≡◌, refl}
use mathlib.Core.List.{List, [], ◌∷◌, ◌++◌}
use Rattle.std.specs.Prelude.{Some}
use Rattle.std.specs.Prelude.{Bool, not, ◌↔◌, ◌⊎◌, length, eqb}
use Rattle.std.proofs.Math.Bool.{true, false, cond}
use Rattle.std.proofs.Common.{inl, inr, arith}
use Prim.Native.Nat.{ℕ, ◌≤◌, ◌<◌}
use Rattle.std.proofs.Math.ListN.{length-append}
use Rattle.std.proofs.Math.Dec.{leb, ltb}
use borrow.Author.Tests.{ltb-true, ltb-false, lt-ltb, leb-true, leb-false, eq-eqb, ne_eqb}
use Rattle.definition.specs.Limits.{max_channels, max_sets, too_many_channels, set_not_added}
use Rattle.definition.specs.Frame.{All, all, and}
use Rattle.definition.specs.Answers.{Answer, accepted, refusal, refuse}
use Rattle.definition.specs.Tests.{and_both}
use Rattle.definition.proofs.Sound.{all_append}
use Rattle.data_sets.specs.DataSets.{higher, add, kept, added, stored, find}

-- what a test says of each element, where it holds of all
pub all_true : {A : Type 0} (f : A → Bool) (P : A → Type 0) → ((x : A) → f x ≡ true → P x) → (l : List A) → all f l ≡ true → All P l
unfolding all All
all_true f P h [] e = tt
all_true f P h (x ∷ l) e = let g = and_both (f x) (all f l) e in (h x g.0, all_true f P h l g.1)

module _ {A : Type 0} where
  -- "higher than all held"
  abbrev pub Below : ℕ → List (ℕ × A) → Type 0
  Below rev l = All (λ (y : ℕ × A). y.0 < rev) l

  higher_below : (rev : ℕ) (l : List (ℕ × A)) → higher rev l ≡ true → Below rev l
  unfolding higher
  higher_below rev l e = all_true (λ (y : ℕ × A). ltb y.0 rev) (λ (y : ℕ × A). y.0 < rev) (λ y. ltb-true y.0 rev) l e

  below_higher : (rev : ℕ) (l : List (ℕ × A)) → Below rev l → higher rev l ≡ true
  unfolding higher all All and
  below_higher rev [] h = refl
  below_higher rev (y ∷ l) h = rw (lt-ltb y.0 rev h.0) (below_higher rev l h.1)

  -- each confRev is higher than those before it
  unfoldable pub Rising : List (ℕ × A) → Type 0
  Rising [] = Unit {0}
  Rising (h ∷ l) = All (λ (y : ℕ × A). h.0 < y.0) l × Rising l

  rising_more : (l : List (ℕ × A)) (y : ℕ × A) → Rising l → Below y.0 l → Rising (l ++ (y ∷ []))
  unfolding Rising All
  rising_more [] y h g = (tt, tt)
  rising_more (x ∷ l) y h g = (all_append (λ (z : ℕ × A). x.0 < z.0) l (y ∷ []) h.0 (g.0, tt), rising_more l y h.1 g.1)

  -- a set that is found is found among more
  find_append : (l m : List (ℕ × A)) (rev : ℕ) (x : A) → find l rev ≡ Some x → find (l ++ m) rev ≡ Some x
  unfolding find
  find_append [] m rev x e = let z : ◌≡◌ {A = ℕ} 0 1 = cc in absurd (omega arith)
  find_append (h ∷ l) m rev x e = go (eqb h.0 rev) (find_append l m rev x) e
    where
      go : (t : Bool) → (find l rev ≡ Some x → find (l ++ m) rev ≡ Some x) → cond t (Some h.1) (find l rev) ≡ Some x → cond t (Some h.1) (find (l ++ m) rev) ≡ Some x
      go true i e = e
      go false i e = i e

  -- what is higher than all held is found where it was put
  find_last : (l : List (ℕ × A)) (rev : ℕ) (x : A) → Below rev l → find (l ++ ((rev, x) ∷ [])) rev ≡ Some x
  unfolding find All
  find_last [] rev x g = rw (eq-eqb rev rev refl)
  find_last (h ∷ l) rev x g =
      let n : h.0 ≡ rev → ⊥ = λ e. omega (arith, g.0) in
      rw (ne_eqb h.0 rev n) (find_last l rev x g.1)

  -- what is so of each set held is so of one that is found
  find_each : (P : A → Type 0) (l : List (ℕ × A)) (rev : ℕ) (x : A) → All (λ (y : ℕ × A). P y.1) l → find l rev ≡ Some x → P x
  unfolding find All
  find_each P [] rev x h e = let z : ◌≡◌ {A = ℕ} 0 1 = cc in absurd (omega arith)
  find_each P (y ∷ l) rev x h e = go (eqb y.0 rev) (find_each P l rev x h.1) e
    where
      go : (t : Bool) → (find l rev ≡ Some x → P x) → cond t (Some y.1) (find l rev) ≡ Some x → P x
      go true i e = let f : y.1 ≡ x = cc in rw f at h.0
      go false i e = i e

module _ {A : Type 0} (channels : A → ℕ) where
  -- ---- an addition

  -- what an addition answers, and where: it is taken; "8 stands before 14"; "14, an addition that isn't higher or is the thirty-third"
  pub data Outcome (l : List (ℕ × A)) (rev : ℕ) (x : A) : Answer (List (ℕ × A)) → Type 0 where
    taken : channels x ≤ max_channels → Below rev l → length l < max_sets → Outcome l rev x (accepted (l ++ ((rev, x) ∷ [])))
    many : max_channels < channels x → Outcome l rev x (refusal too_many_channels 0)
    not_added : channels x ≤ max_channels → (Below rev l → ⊥) ⊎ (max_sets ≤ length l) → Outcome l rev x (refusal set_not_added 0)

  module _ (l : List (ℕ × A)) (rev : ℕ) (x : A) where
    pub outcome : Outcome l rev x (add channels l rev x)
    unfolding add
    outcome = go (ltb max_channels (channels x)) refl (higher rev l) refl (leb max_sets (length l)) refl
      where
        go : (t : Bool) → ltb max_channels (channels x) ≡ t → (u : Bool) → higher rev l ≡ u → (v : Bool) → leb max_sets (length l) ≡ v
            → Outcome l rev x (refuse t too_many_channels (refuse (not u) set_not_added (refuse v set_not_added (accepted (l ++ ((rev, x) ∷ []))))))
        go true f u g v h = many (ltb-true _ _ f)
        go false f false g v h = not_added (ltb-false _ _ f) (inl (λ b. let c = below_higher rev l b in let z : ◌≡◌ {A = ℕ} 0 1 = cc in omega arith))
        go false f true g true h = not_added (ltb-false _ _ f) (inr (leb-true _ _ h))
        go false f true g false h = taken (ltb-false _ _ f) (higher_below rev l g) (leb-false _ _ h)

    -- 8 is answered exactly where there are more than 24 channels.
    pub refused_8 : (add channels l rev x ≡ refusal too_many_channels 0) ↔ (max_channels < channels x)
    unfolding add
    refused_8 = (λ e. go (add channels l rev x) outcome e, λ h. rw (lt-ltb max_channels (channels x) h))
      where
        go : (r : Answer (List (ℕ × A))) → Outcome l rev x r → r ≡ refusal too_many_channels 0 → max_channels < channels x
        go _ (taken f b c) e = let z : ◌≡◌ {A = ℕ} 0 1 = cc in absurd (omega arith)
        go _ (many f) e = f
        go _ (not_added f o) e = let z : set_not_added ≡ too_many_channels = cc in absurd (omega arith)

    -- 14 is answered exactly where there are at most 24 channels, and not all held are lower or 32 are held.
    pub refused_14 : (add channels l rev x ≡ refusal set_not_added 0) ↔ ((channels x ≤ max_channels) × ((Below rev l → ⊥) ⊎ (max_sets ≤ length l)))
    refused_14 = (λ e. go (add channels l rev x) outcome e, λ h. on (add channels l rev x) outcome h.0 h.1)
      where
        go : (r : Answer (List (ℕ × A))) → Outcome l rev x r → r ≡ refusal set_not_added 0 → (channels x ≤ max_channels) × ((Below rev l → ⊥) ⊎ (max_sets ≤ length l))
        go _ (taken f b c) e = let z : ◌≡◌ {A = ℕ} 0 1 = cc in absurd (omega arith)
        go _ (many f) e = let z : too_many_channels ≡ set_not_added = cc in absurd (omega arith)
        go _ (not_added f o) e = (f, o)

        on : (r : Answer (List (ℕ × A))) → Outcome l rev x r → channels x ≤ max_channels → (Below rev l → ⊥) ⊎ (max_sets ≤ length l) → r ≡ refusal set_not_added 0
        on _ (taken f b c) g (inl h) = absurd (h b)
        on _ (taken f b c) g (inr h) = absurd (omega (arith, c, h))
        on _ (many f) g h = absurd (omega (arith, f))
        on _ (not_added f o) g h = refl

    -- A refused addition changes nothing.
    pub refused_same : {k p : ℕ} → add channels l rev x ≡ refusal k p → added channels l (rev, x) ≡ l
    unfolding added
    refused_same e = rw e

    -- An addition that is taken is found under its confRev.
    pub find_taken : {m : List (ℕ × A)} → add channels l rev x ≡ accepted m → find m rev ≡ Some x
    find_taken {m} e = go (add channels l rev x) outcome e
      where
        go : (r : Answer (List (ℕ × A))) → Outcome l rev x r → r ≡ accepted m → find m rev ≡ Some x
        go _ (taken f b c) e = let z : l ++ ((rev, x) ∷ []) ≡ m = cc in rw (← z) (find_last l rev x b)
        go _ (many f) e = let z : ◌≡◌ {A = ℕ} 0 1 = cc in absurd (omega arith)
        go _ (not_added f o) e = let z : ◌≡◌ {A = ℕ} 0 1 = cc in absurd (omega arith)

  -- What is found stays found after an addition, taken or refused.
  pub find_added : (l : List (ℕ × A)) (y : ℕ × A) (rev : ℕ) (x : A) → find l rev ≡ Some x → find (added channels l y) rev ≡ Some x
  unfolding added
  find_added l y rev x e = go (add channels l y.0 y.1) (outcome l y.0 y.1)
    where
      go : (r : Answer (List (ℕ × A))) → Outcome l y.0 y.1 r → find (kept l r) rev ≡ Some x
      go _ (taken f b c) = find_append l (y ∷ []) rev x e
      go _ (many f) = e
      go _ (not_added f o) = e

  -- ---- a store

  -- what is so of a store that additions made
  pub record Made (l : List (ℕ × A)) : Type 0 where
    pub rising : Rising l
    pub few : length l ≤ max_sets
    pub each : All (λ (y : ℕ × A). channels y.1 ≤ max_channels) l

  made_added : (l : List (ℕ × A)) (y : ℕ × A) → Made l → Made (added channels l y)
  unfolding added All
  made_added l y h = go (add channels l y.0 y.1) (outcome l y.0 y.1)
    where
      go : (r : Answer (List (ℕ × A))) → Outcome l y.0 y.1 r → Made (kept l r)
      go _ (taken f b c) = record {
        rising = rising_more l y h.rising b;
        few = omega (arith, length-append l (y ∷ []), c);
        each = all_append (λ (z : ℕ × A). channels z.1 ≤ max_channels) l (y ∷ []) h.each (f, tt);
      }
      go _ (many f) = h
      go _ (not_added f o) = h

  made_stored : (ys l : List (ℕ × A)) → Made l → Made (stored channels l ys)
  unfolding stored
  made_stored [] l h = h
  made_stored (y ∷ ys) l h = made_stored ys (added channels l y) (made_added l y h)

  -- "Keep up to 32 data sets, each under its confRev, each addition higher than all held": from an empty store, after any additions,
  -- taken or refused, the confRevs held are strictly increasing, at most 32, and each set has at most 24 channels.
  pub made : (ys : List (ℕ × A)) → Made (stored channels [] ys)
  unfolding Rising All
  made ys = made_stored ys [] (record { rising = tt; few = omega arith; each = tt })

  -- So a set that is found has at most 24 channels.
  pub made_fits : (ys : List (ℕ × A)) (rev : ℕ) (x : A) → find (stored channels [] ys) rev ≡ Some x → channels x ≤ max_channels
  made_fits ys rev x e = find_each (λ (x : A). channels x ≤ max_channels) (stored channels [] ys) rev x (made ys).each e
