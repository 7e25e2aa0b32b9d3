-- Scale factors, one for each channel: whether there are too many, and that the data set of them has no other part in the values.
use Rattle.std.specs.Prelude.{◌≡◌, refl, List, Bool, true, false, ℕ, ◌-◌, ◌*◌, ◌%◌, ◌<◌, length, replicate, ltb, ℤ, Float}
use Rattle.std.proofs.Common.{mul-zero, arith, lt-ltb, ltb-true}
use Rattle.std.proofs.Math.ListN.{get_or-append}
use Rattle.std.specs.Float.{nan}
use Rattle.definition.specs.Limits.{max_channels, too_many_channels}
use Rattle.definition.specs.Held.{filled_to}
use Rattle.definition.specs.UpTo.{same_elements, channel_below}
use Rattle.definition.specs.Scaling.{values_answer, values_of}
use Rattle.definition.specs.Answers.{accepted, refusal, refuse, refuse_channels}
use Rattle.rt_services.specs.DataSet.{no_scale, data_set_of}
use Rattle.rt_services.specs.declared.SavDataSetConfig.{SavDataSetConfig}
use Rattle.data_sets.specs.DataSets.{add}
use Rattle.set_store.specs.Told.{AddedTo}
use Rattle.rt_services.specs.declared.Refusal.{Refusal}
use Rattle.rt_services.specs.Reasons.{told}
use Rattle.std.specs.Prelude.{Result}

-- what the test answers
module _ {A : Type 0} (n : ℕ) (x : A) where
  pub many : {j p : ℕ} → refusal j p ≡ refuse_channels n (accepted x) → (max_channels < n) × (j ≡ too_many_channels) × (p ≡ 0)
  many {j} {p} e = go (ltb max_channels n) refl e
    where
      go : (t : Bool) → ltb max_channels n ≡ t → refusal j p ≡ refuse t too_many_channels (accepted x) → (max_channels < n) × (j ≡ too_many_channels) × (p ≡ 0)
      go true f e = (ltb-true max_channels n f, cc, cc)
      go false f e = let z : ◌≡◌ {A = ℕ} 0 1 = cc in absurd (omega arith)

  pub set_of : {y : A} → accepted y ≡ refuse_channels n (accepted x) → y ≡ x
  set_of {y} e = go (ltb max_channels n) e
    where
      go : (t : Bool) → accepted y ≡ refuse t too_many_channels (accepted x) → y ≡ x
      go true e = let z : ◌≡◌ {A = ℕ} 0 1 = cc in absurd (omega arith)
      go false e = cc

-- an addition
pub added_not : (rev : ℕ) (scales : List Float) (k : List ℕ) (f : List Float) {r : Result ℕ Refusal} → max_channels < length scales → told r ≡ refusal too_many_channels 0
    → AddedTo rev (data_set_of scales) k f r k f
unfolding add data_set_of
added_not rev scales k f h e = let t = lt-ltb max_channels (length scales) h in record { held = rw (e, t); numbers = rw t; scales = rw t }

-- the values
pub values_many : (scales : List Float) (m c b : ℕ) → max_channels < length scales → values_answer (length scales) m c b ≡ refusal too_many_channels 0
unfolding values_answer
values_many scales m c b h = rw (lt-ltb max_channels (length scales) h)

-- only the scale factors of the channels count
values_only : (scales : List Float) (counts : List ℤ) (m : ℕ)
    → values_of (length scales) (filled_to no_scale max_channels scales) counts (m * length scales) ≡ values_of (length scales) scales counts (m * length scales)
unfolding values_of filled_to
values_only scales counts m =
    same_elements (m * length scales) _ _ (λ i h. rw (get_or-append scales (replicate (max_channels - length scales) no_scale) nan (i % length scales) (channel_below (length scales) (m * length scales) i (λ z. rw z (mul-zero m)) h)))

pub values_are : (scales : List Float) (counts : List ℤ) (m : ℕ) (config : SavDataSetConfig) → config ≡ data_set_of scales
    → values_of config.channels config.scale_factor counts (m * config.channels) ≡ values_of (length scales) scales counts (m * length scales)
unfolding data_set_of
values_are scales counts m config e = rw e (values_only scales counts m)
