-- What the store's calls answer, and leave in its arrays: definitions only.
use Rattle.std.specs.Prelude.{◌≡◌, List, ℕ, length, replicate, Float, Result}
use Rattle.rt_services.specs.DataSet.{no_scale}
use Rattle.rt_services.specs.Reasons.{told}
use Rattle.rt_services.specs.Told.{answer_as}
use Rattle.rt_services.specs.declared.Refusal.{Refusal}
use Rattle.rt_services.specs.declared.SavDataSetConfig.{SavDataSetConfig}
use Rattle.data_sets.specs.DataSets.{store_numbers, store_scales, store_add, numbers_after, scales_after}
use Rattle.set_store.specs.declared.DataSets.{DataSets}

-- a store that holds no set
unfoldable pub empty_store : DataSets
empty_store = record { numbers = replicate store_numbers 0; scales = replicate store_scales no_scale }

-- the answer, how many sets are held after an addition, and what the two arrays become
pub record AddedTo (rev : ℕ) (x : SavDataSetConfig) (k : List ℕ) (f : List Float) (r : Result ℕ Refusal) (k' : List ℕ) (f' : List Float) : Type 0 where
  pub held : told r ≡ answer_as length (store_add k f rev x)
  pub numbers : k' ≡ numbers_after (store_add k f rev x) k rev x
  pub scales : f' ≡ scales_after (store_add k f rev x) k f x
