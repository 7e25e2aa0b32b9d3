-- Two calls of hopsickle_read_granted on frames of one length that differ in hidden octets alone: what the customer is given is the
-- same. Over any results that meet the contract.
use Rattle.std.specs.Prelude.{◌≡◌, List, false, ℕ, length, get_or, ℤ}
use Rattle.std.proofs.Common.{sym, ap, ◌∙◌}
use Rattle.definition.specs.Frame.{Description}
use Rattle.definition.specs.Answers.{Answer, all_counts, all_qualities}
use Rattle.definition.specs.Flat.{numbers_of, octets_of, left, number_of, beside_it}
use Rattle.grant.specs.Grant.{flat_granted, hidden}
use Rattle.grant.proofs.HiddenOctets.{flat_same}
use Rattle.definition.specs.Calls.{Reads}

-- what the call answers for the frame s, the arrays k, o, cs and qs being lent
abbrev Answers : ℕ → ℕ → List ℕ → List ℕ → List ℕ → List ℤ → List ℕ → Answer (Description × ℕ)
Answers n mask s k o cs qs = flat_granted n mask (length k) (length o) (length cs) (length qs) s

module _ (n mask : ℕ) (s t : List ℕ) (len : length s ≡ length t) (agree : (i : ℕ) → hidden n mask s i ≡ false → get_or s i 0 ≡ get_or t i 0) where
  -- "the customer's answers are identical, refusals and places included": of two calls, with other arrays of the same lengths in the
  -- second, the second's results are those of the first one's answer
  pub one_answer : (k h o u : List ℕ) (cs ds : List ℤ) (qs ps : List ℕ) → length k ≡ length h → length o ≡ length u → length cs ≡ length ds → length qs ≡ length ps
      → {k' h' o' u' : List ℕ} {cs' ds' : List ℤ} {qs' ps' : List ℕ} {r r' place place' : ℕ}
      → Reads (Answers n mask s k o cs qs) k k' o o' cs cs' qs qs' r place
      → Reads (Answers n mask t h u ds ps) h h' u u' ds ds' ps ps' r' place'
      → (r ≡ r') × (place ≡ place') × Reads (Answers n mask s k o cs qs) h h' u u' ds ds' ps ps' r' place'
  one_answer k h o u cs ds qs ps a b c d x y =
      let e : Answers n mask s k o cs qs ≡ Answers n mask t h u ds ps = rw (← a, ← b, ← c, ← d) (flat_same n mask s t len agree (length k) (length o) (length cs) (length qs)) in (
        x.number ∙ ap number_of e ∙ sym y.number,
        x.place ∙ ap (beside_it (λ (z : Description × ℕ). 0)) e ∙ sym y.place,
        rw e y,
      )

  -- and so, where the same arrays are lent, the same is left in them
  pub one_content : (k o : List ℕ) (cs : List ℤ) (qs : List ℕ) {k' h' o' u' : List ℕ} {cs' ds' : List ℤ} {qs' ps' : List ℕ} {r r' place place' : ℕ}
      → Reads (Answers n mask s k o cs qs) k k' o o' cs cs' qs qs' r place
      → Reads (Answers n mask t k o cs qs) k h' o u' cs ds' qs ps' r' place'
      → (k' ≡ h') × (o' ≡ u') × (cs' ≡ ds') × (qs' ≡ ps')
  one_content k o cs qs x y =
      let e : Answers n mask s k o cs qs ≡ Answers n mask t k o cs qs = flat_same n mask s t len agree (length k) (length o) (length cs) (length qs) in (
        x.numbers ∙ ap (λ (z : Answer (Description × ℕ)). left numbers_of z k) e ∙ sym y.numbers,
        x.octets ∙ ap (λ (z : Answer (Description × ℕ)). left octets_of z o) e ∙ sym y.octets,
        x.counts ∙ ap (λ (z : Answer (Description × ℕ)). left (λ (w : Description × ℕ). all_counts w.0.asdus) z cs) e ∙ sym y.counts,
        x.qualities ∙ ap (λ (z : Answer (Description × ℕ)). left (λ (w : Description × ℕ). all_qualities w.0.asdus) z qs) e ∙ sym y.qualities,
      )
