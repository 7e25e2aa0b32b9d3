-- What each call leaves for its caller, from the answer that it hands on: the refusal's number, or 0; beside it the refusal's place, or
-- what was answered; and the lent arrays.
use Rattle.std.specs.Prelude.{◌≡◌, refl, List, ℕ, ℤ, Float, length, Result, Ok, Err}
use Rattle.std.specs.Result.{result_and}
use Rattle.std.proofs.Common.{ap, ◌∙◌}
use Rattle.definition.specs.Frame.{Description}
use Rattle.definition.specs.Read.{Header}
use Rattle.definition.specs.Answers.{Answer, accepted, refusal, leaves}
use Rattle.definition.specs.Flat.{numbers_of_header, octets_of_header, left, number_of, beside_it}
use Rattle.definition.specs.Calls.{Reads, ReadsHeader, Writes}
use Rattle.rt_services.specs.Told.{Left, answer_as, done}
use Rattle.rt_services.specs.Reasons.{told}
use Rattle.rt_services.specs.declared.Refusal.{Refusal}
use Rattle.rt_services.specs.declared.SavDataSetConfig.{SavDataSetConfig}
use Rattle.data_sets.specs.DataSets.{store_add, Adds}
use Rattle.set_store.specs.Told.{AddedTo}

-- the two numbers of an answer
abbrev pub Crossed : Answer ℕ → ℕ → ℕ → Type 0
Crossed y r beside = (r ≡ number_of y) × (beside ≡ beside_it (λ n. n) y)

-- of what else an accepted call holds
crossed : {A : Type 0} (f : A → ℕ) (x : Answer A) → (number_of (answer_as f x) ≡ number_of x) × (beside_it (λ n. n) (answer_as f x) ≡ beside_it f x)
crossed f (accepted y) = (refl, refl)
crossed f (refusal k at) = (refl, refl)

two : {A : Type 0} (f : A → ℕ) (x : Answer A) (y : Answer ℕ) {r beside : ℕ} → y ≡ answer_as f x → Crossed y r beside → (r ≡ number_of x) × (beside ≡ beside_it f x)
two f x y e c = (c.0 ∙ ap number_of e ∙ (crossed f x).0, c.1 ∙ ap (beside_it (λ n. n)) e ∙ (crossed f x).1)

abbrev none : {A : Type 0} → A → ℕ
none x = 0

done_none : (x : Answer (Description × ℕ)) → answer_as none (done x) ≡ answer_as none x
done_none (accepted y) = refl
done_none (refusal k at) = refl

told_and : (f : Result (Unit {0}) Refusal) → told (result_and f (Ok 0)) ≡ answer_as none (told f)
told_and (Ok x) = refl
told_and (Err r) = refl

-- a reading, which hands nothing back but what is in the arrays
pub reads : {x : Answer (Description × ℕ)} {k k' o o' : List ℕ} {cs cs' : List ℤ} {qs qs' : List ℕ} {f : Result (Unit {0}) Refusal} {m : Result ℕ Refusal} {r place : ℕ}
    → Left x k o cs qs f k' o' cs' qs' → m ≡ result_and f (Ok 0) → Crossed (told m) r place → Reads x k k' o o' cs cs' qs qs' r place
reads {x} {f = f} {m = m} l e c =
    let d = two none x (told m) (ap told e ∙ told_and f ∙ ap (answer_as none) l.read ∙ done_none x) c in
    record {
      number = d.0;
      place = d.1;
      numbers = l.numbers;
      octets = l.octets;
      counts = l.counts;
      qualities = l.qualities;
    }

pub writes : {A : Type 0} {x y : Answer ℕ} {written old new : List A} {r size : ℕ} → y ≡ x → new ≡ leaves x old 0 written → Crossed y r size → Writes x written old new r size
writes e f c = record { number = c.0 ∙ ap number_of e; size = c.1 ∙ ap (beside_it (λ n. n)) e; array = f }

pub reads_header : {x : Answer (Header × ℕ)} {k k' o o' : List ℕ} {y : Answer ℕ} {r place : ℕ} → y ≡ answer_as (λ z. z.1) x
    → k' ≡ left (λ z. numbers_of_header z.0) x k → o' ≡ left (λ z. octets_of_header z.0) x o → Crossed y r place → ReadsHeader x k k' o o' r place
reads_header {x = x} {y = y} e f g c = let d = two (λ z. z.1) x y e c in record { number = d.0; place = d.1; numbers = f; octets = g }

pub adds : {rev : ℕ} {x : SavDataSetConfig} {k k' : List ℕ} {f f' : List Float} {a : Result ℕ Refusal} {r held : ℕ}
    → AddedTo rev x k f a k' f' → Crossed (told a) r held → Adds rev x k k' f f' r held
adds {rev} {x} {k} {f = f} {a = a} e c = let d = two length (store_add k f rev x) (told a) e.held c in record { number = d.0; held = d.1; numbers = e.numbers; scales = e.scales }
