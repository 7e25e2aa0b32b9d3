-- What an addition answers and leaves, and one law for each of its ways out.
use Rattle.std.specs.Prelude.{◌≡◌, List, [], ◌∷◌, ◌++◌, true, false, ℕ, suc, ◌+◌, ◌*◌, ◌≤◌, ◌<◌, set, Float, Ok, Err}
use Rattle.std.proofs.Common.{ap, ◌∙◌, arith, length-append}
use Rattle.std.proofs.Math.ListN.{length}
use Rattle.std.proofs.lemmas.List.Edits.{sets}
use borrow.Author.Tests.{lt-ltb, le-ltb, lt-leb, le-leb}
use Rattle.definition.specs.Limits.{max_channels, max_sets, too_many_channels, set_not_added}
use Rattle.definition.specs.Answers.{accepted, refusal}
use Rattle.rt_services.specs.declared.SavDataSetConfig.{SavDataSetConfig}
use Rattle.rt_services.specs.declared.Reason.{Reason}
use Rattle.rt_services.specs.declared.Reason.TheVariants as reason
use Rattle.rt_services.specs.Reasons.{reason_number}
use Rattle.data_sets.specs.DataSets.{higher, add, held_in, store_of, store_add}
use Rattle.data_sets.proofs.TwoArrays.{store_number}
use Rattle.set_store.specs.Told.{AddedTo}
use Rattle.set_store.specs.Held.{above_all, higher_is}

-- the numbers of an addition, one by one
pub put_numbers : (k : List ℕ) (i rev n : ℕ) → set (set (set k 0 (i + 1)) (1 + i * 2) rev) (2 + i * 2) n ≡ sets (sets k 0 ((i + 1) ∷ [])) (1 + i * 2) (rev ∷ n ∷ [])
put_numbers k i rev n = let e : 2 + i * 2 ≡ suc (1 + i * 2) = omega arith in rw e

module _ (rev : ℕ) (x : SavDataSetConfig) (k : List ℕ) (f : List Float) where
  -- refused: nothing is written
  added_not : (r : Reason) → store_add k f rev x ≡ refusal (reason_number r) 0 → AddedTo rev x k f (Err (record { reason = r; place = 0 })) k f
  added_not r e = record { held = rw e; numbers = rw e; scales = rw e }

  add_many : max_channels < x.channels → store_add k f rev x ≡ refusal too_many_channels 0
  unfolding add
  add_many h = rw (lt-ltb _ _ h)

  pub added_many : max_channels < x.channels → AddedTo rev x k f (Err (record { reason = reason.TooManyChannels; place = 0 })) k f
  added_many h = added_not reason.TooManyChannels (add_many h)

  module _ (few : x.channels ≤ max_channels) where
    above : higher rev (store_of k f) ≡ above_all k rev
    unfolding store_of
    above = higher_is k f rev 0 (held_in k)

    add_low : above_all k rev ≡ false → store_add k f rev x ≡ refusal set_not_added 0
    unfolding add
    add_low h = rw (le-ltb _ _ few, above, h)

    pub added_low : above_all k rev ≡ false → AddedTo rev x k f (Err (record { reason = reason.SetNotAdded; place = 0 })) k f
    added_low h = added_not reason.SetNotAdded (add_low h)

    module _ (high : above_all k rev ≡ true) where
      add_full : max_sets ≤ held_in k → store_add k f rev x ≡ refusal set_not_added 0
      unfolding add
      add_full h = let n : max_sets ≤ length (store_of k f) = omega (arith, store_number k f) in rw (le-ltb _ _ few, above, high, le-leb _ _ n)

      pub added_full : max_sets ≤ held_in k → AddedTo rev x k f (Err (record { reason = reason.SetNotAdded; place = 0 })) k f
      added_full h = added_not reason.SetNotAdded (add_full h)

      add_taken : held_in k < max_sets → store_add k f rev x ≡ accepted (store_of k f ++ ((rev, x) ∷ []))
      unfolding add
      add_taken h = let n : length (store_of k f) < max_sets = omega (arith, store_number k f) in rw (le-ltb _ _ few, above, high, lt-leb _ _ n)

      pub added_taken : {n : ℕ} → n ≡ held_in k → n < max_sets → {k' : List ℕ} {f' : List Float}
          → k' ≡ sets (sets k 0 ((n + 1) ∷ [])) (1 + n * 2) (rev ∷ x.channels ∷ [])
          → f' ≡ sets f (n * max_channels) x.scale_factor
          → AddedTo rev x k f (Ok (n + 1)) k' f'
      added_taken {n} is less e g =
          let h : held_in k < max_sets = rw is at less in
          let m : n + 1 ≡ length (store_of k f ++ ((rev, x) ∷ [])) = omega (arith, is, length-append (store_of k f) ((rev, x) ∷ []), store_number k f) in
          record { held = ap accepted m ∙ rw (add_taken h); numbers = e ∙ rw (is, add_taken h); scales = g ∙ rw (is, add_taken h) }
