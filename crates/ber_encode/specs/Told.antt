-- What the public writers answer and leave, case by case.
use Rattle.std.specs.Prelude.{◌≡◌, refl, List, Bool, ℕ, ◌+◌, ◌≤◌, ◌<◌, ltb, leb}
use Rattle.std.proofs.Common.{ap, ◌∙◌, arith}
use Rattle.std.proofs.Math.Bool.{true, false}
use borrow.Author.Tests.{lt-ltb, le-ltb, le-leb, lt-leb, ltb-false, leb-false}
use Rattle.std.proofs.Math.ListN.{length}
use Rattle.definition.specs.Limits.{length_limit, no_room, too_long_to_write}
use Rattle.definition.specs.Answers.{Answer, accepted, refusal, refuse, leaves}
use Rattle.ber_encode.specs.Put.{Wrote, put_over}

-- the refusals, "7, then 10": of octets that end at `end` and tell the length n
unfoldable pub refused_as : ℕ → ℕ → ℕ → Answer (Unit {0})
refused_as room end n = refuse (ltb room end) no_room (refuse (leb length_limit n) too_long_to_write (accepted (tt {0})))

pub as_no_room : (room end n : ℕ) → room < end → refusal no_room 0 ≡ refused_as room end n
unfolding refused_as
as_no_room room end n h = simp (lt-ltb _ _ h)

pub as_too_long : (room end n : ℕ) → end ≤ room → length_limit ≤ n → refusal too_long_to_write 0 ≡ refused_as room end n
unfolding refused_as
as_too_long room end n h g = simp (le-ltb _ _ h, le-leb _ _ g)

pub as_none : (room end n : ℕ) → end ≤ room → n < length_limit → accepted tt ≡ refused_as room end n
unfolding refused_as
as_none room end n h g = simp (le-ltb _ _ h, lt-leb _ _ g)

none_refused : (room end n : ℕ) → accepted tt ≡ refused_as room end n → (end ≤ room) × (n < length_limit)
unfolding refused_as
none_refused room end n e = go (ltb room end) (leb length_limit n) refl refl e
  where
    go : (t u : Bool) → ltb room end ≡ t → leb length_limit n ≡ u
        → accepted (tt {0}) ≡ refuse t no_room (refuse u too_long_to_write (accepted (tt {0}))) → (end ≤ room) × (n < length_limit)
    go true u f g e = let z : ◌≡◌ {A = ℕ} 0 1 = cc in absurd (omega arith)
    go false true f g e = let z : ◌≡◌ {A = ℕ} 0 1 = cc in absurd (omega arith)
    go false false f g e = (ltb-false _ _ f, leb-false _ _ g)

-- the answer of each writer: xs are the octets, n the length that they tell
unfoldable pub written : ℕ → ℕ → ℕ → List ℕ → Answer ℕ
written room at n xs =
    refuse (ltb room (at + length xs)) no_room (refuse (leb length_limit n) too_long_to_write (accepted (at + length xs)))

-- its two ways out, each as the writer's two promises; `end` is the place after the octets
module _ (d : List ℕ) (at n : ℕ) (xs : List ℕ) {end : ℕ} (here : end ≡ at + length xs) where
  pub refused_it : {k p : ℕ} → refusal k p ≡ refused_as (length d) end n
      → (refusal k p ≡ written (length d) at n xs) × (d ≡ leaves (written (length d) at n xs) d at xs)
  unfolding refused_as written
  refused_it {k} {p} e = rw (← here) (go (ltb (length d) end) (leb length_limit n) e)
    where
      go : (t u : Bool) → refusal k p ≡ refuse t no_room (refuse u too_long_to_write (accepted (tt {0})))
          → (refusal k p ≡ refuse t no_room (refuse u too_long_to_write (accepted end)))
          × (d ≡ leaves (refuse t no_room (refuse u too_long_to_write (accepted end))) d at xs)
      go true u e = (cc, refl)
      go false true e = (cc, refl)
      go false false e = let z : ◌≡◌ {A = ℕ} 0 1 = cc in absurd (omega arith)

  pub has_room : accepted tt ≡ refused_as (length d) end n → (at + length xs ≤ length d) × (n < length_limit)
  has_room e = rw (← here) (none_refused (length d) end n e)

  pub wrote_it : {d' : List ℕ} {r : ℕ} → accepted tt ≡ refused_as (length d) end n → Wrote d at xs d' r
      → (accepted r ≡ written (length d) at n xs) × (d' ≡ leaves (written (length d) at n xs) d at xs)
  unfolding written
  wrote_it e w =
      let f = has_room e in
      (simp (le-ltb _ _ f.0, lt-leb _ _ f.1) (ap accepted w.place), simp (le-ltb _ _ f.0, lt-leb _ _ f.1) (w.list ∙ put_over d at xs f.0))
