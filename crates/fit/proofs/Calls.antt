-- Of calls: whatever results meet the promise of checked reading meet that of ordinary reading, and so on. `Are x` says that a call's
-- results are those of the answer x, r is the number among them.
use Rattle.std.specs.Prelude.{◌≡◌, refl, List, ℕ, ◌<◌}
use Rattle.std.proofs.Common.{◌∙◌, arith}
use Rattle.definition.specs.Limits.{lengths_differ}
use Rattle.definition.specs.Frame.{Description}
use Rattle.definition.specs.Answers.{Answer, accepted, refusal}
use Rattle.definition.specs.Flat.{number_of}
use Rattle.definition.proofs.Numbers.{AnsweredUpto, no_from_1}
use Rattle.fit.proofs.Theorems.{Checks}

module _ (Are : Answer (Description × ℕ) → Type 0) (r : ℕ) (number : (x : Answer (Description × ℕ)) → Are x → r ≡ number_of x) where
  module _ {n : ℕ} {s : List ℕ} {read check : Answer (Description × ℕ)} (c : Checks n s read check) where
    -- what checked reading accepts, or refuses with anything but 13, ordinary reading answers so
    pub but_13 : Are check → (r ≡ lengths_differ → ⊥) → Are read
    but_13 f e = go check refl f
      where
        go : (a : Answer (Description × ℕ)) → check ≡ a → Are a → Are read
        go (accepted y) w f = rw (c.accepts w) f
        go (refusal k p) w f = rw (c.else w (λ z. e (number (refusal k p) f ∙ z))) f

    -- what ordinary reading refuses, checked reading refuses so
    pub refused_alike : Are read → 0 < r → Are check
    refused_alike f more = go read refl f
      where
        go : (a : Answer (Description × ℕ)) → read ≡ a → Are a → Are check
        go (accepted y) w f = absurd (omega (arith, number (accepted y) f))
        go (refusal k p) w f = rw (c.refuses w) f

  -- what a reading accepts, whose accepted answers are another's too, the other accepts so
  pub accepted_alike : (strict check : Answer (Description × ℕ)) → AnsweredUpto 8 strict → ((d : Description) (l : ℕ) → strict ≡ accepted (d, l) → check ≡ accepted (d, l)) → Are strict → r ≡ 0 → Are check
  accepted_alike strict check h passes f e = go strict refl h f
    where
      go : (a : Answer (Description × ℕ)) → strict ≡ a → AnsweredUpto 8 a → Are a → Are check
      go (accepted (d, l)) w h f = rw (passes d l w) f
      go (refusal k p) w (no_from_1 h) f = absurd (omega (arith, h.0, number (refusal k p) f))
