-- Calls of hopsickle_read_by_sets, before and after calls of hopsickle_sets_add and beside hopsickle_read, with the same arrays lent: what
-- a result of one call is, the contract of the other says it is. Over any results that meet the contracts.
use Rattle.std.specs.Prelude.{◌≡◌, refl, List, [], ◌∷◌, ◌++◌, ℕ, ℤ, Float}
use Rattle.std.proofs.Common.{sym, ap, ◌∙◌}
use Rattle.definition.specs.Limits.{max_channels, no_set}
use Rattle.definition.specs.Frame.{Description}
use Rattle.definition.specs.HeldLaws.{length-filled_to}
use Rattle.definition.specs.Answers.{Answer, accepted, refusal}
use Rattle.definition.specs.Flat.{number_of, flat_read}
use Rattle.rt_services.specs.DataSet.{no_scale, data_set_of}
use Rattle.rt_services.specs.declared.SavDataSetConfig.{SavDataSetConfig}
use Rattle.data_sets.specs.DataSets.{read_of, flat_read_by, store_of, channels_of, Adds, ReadsBy}
use Rattle.data_sets.proofs.First.{flat_ordinary}
use Rattle.data_sets.proofs.Theorems.{ByConfRev, flat_by_conf_rev, flat_lasting}
use Rattle.set_store.specs.Histories.{Built, more, later_same}
use Rattle.read_by_sets.specs.Alike.{never_0}
use Rattle.definition.specs.Calls.{Reads}

-- A call of hopsickle_sets_add, with any number of scale factors, is one more addition to a store, taken or refused.
pub one_more : {xs : List (ℕ × SavDataSetConfig)} {k : List ℕ} {f : List Float} → Built xs k f → (rev : ℕ) (scales : List Float) {k' : List ℕ} {f' : List Float} {r held : ℕ}
    → Adds rev (data_set_of scales) k k' f f' r held → Built (xs ++ ((rev, data_set_of scales) ∷ [])) k' f'
unfolding data_set_of
one_more b rev scales a = more rev (data_set_of scales) b (λ few. length-filled_to no_scale max_channels scales few) a.numbers a.scales

module _ (a b c e : ℕ) (s : List ℕ) (k k' o o' : List ℕ) (cs cs' : List ℤ) (qs qs' : List ℕ) (n n' : ℕ) (fs fs' : List Float) (r place : ℕ) where
  abbrev answer_of : List ℕ → List Float → Answer (SavDataSetConfig × (Description × ℕ))
  answer_of sets scales = flat_read_by channels_of (store_of sets scales) a b c e s

  -- such results of a call with this store
  abbrev Are : List ℕ → List Float → Type 0
  Are sets scales = ReadsBy (answer_of sets scales) k k' o o' cs cs' qs qs' n n' fs fs' r place

  -- "From an empty store, a later addition, taken or refused, never changes how an already readable frame reads into the same arrays": nor
  -- any other result than that of 15 (number, place, set and arrays).
  pub later_call : {xs : List (ℕ × SavDataSetConfig)} (ys : List (ℕ × SavDataSetConfig)) (sets sets' : List ℕ) (scales scales' : List Float)
      → Built xs sets scales → Built (xs ++ ys) sets' scales' → Are sets scales → (r ≡ no_set → ⊥) → Are sets' scales'
  later_call ys sets sets' scales scales' h h' f other =
      let e : answer_of sets' scales' ≡ answer_of sets scales = later_same (flat_lasting channels_of a b c e s) ys h h' (λ g. other (f.read.number ∙ ap (λ (x : Answer (SavDataSetConfig × (Description × ℕ))). number_of (read_of x)) g)) in
      rw e f

  -- "A frame is read, as by ordinary reading": what is accepted, hopsickle_read with the number of channels handed back answers so.
  pub as_ordinary : (sets : List ℕ) (scales : List Float) → Are sets scales → r ≡ 0 → Reads (flat_read n' a b c e s) k k' o o' cs cs' qs qs' r place
  as_ordinary sets scales f zero_is = go (answer_of sets scales) refl f
    where
      by : ByConfRev channels_of (λ n. flat_read n a b c e s) (store_of sets scales) s (answer_of sets scales)
      by = flat_by_conf_rev channels_of (store_of sets scales) a b c e s

      go : (x : Answer (SavDataSetConfig × (Description × ℕ))) → answer_of sets scales ≡ x → ReadsBy x k k' o o' cs cs' qs qs' n n' fs fs' r place → Reads (flat_read n' a b c e s) k k' o o' cs cs' qs qs' r place
      go (refusal j p) g f = absurd (never_0 channels_of (flat_ordinary a b c e s) by p (g ∙ ap (λ (i : ℕ). refusal i p) (sym f.read.number ∙ zero_is)))
      go (accepted y) g f =
          let read_is : flat_read y.0.channels a b c e s ≡ accepted y.1 = by.accepts_as_ordinary g in
          rw (f.channels, read_is) f.read
