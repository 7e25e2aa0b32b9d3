-- Laws of tests: of both, and of each element of a list.
use Rattle.std.specs.Prelude.{◌≡◌, refl, List, [], ◌∷◌, ◌++◌, Bool, true, false, ℕ}
use Rattle.std.proofs.Common.{arith}
use Rattle.definition.specs.Frame.{and, all}

pub and_both : (a b : Bool) → and a b ≡ true → (a ≡ true) × (b ≡ true)
unfolding and
and_both true b e = (refl, e)
and_both false b e = let z : ◌≡◌ {A = ℕ} 0 1 = cc in absurd (omega arith)

pub and_assoc : (a b c : Bool) → and a (and b c) ≡ and (and a b) c
unfolding and
and_assoc true b c = refl
and_assoc false b c = refl

pub and_true : (a : Bool) → and a true ≡ a
unfolding and
and_true true = refl
and_true false = refl

pub and_false : (a : Bool) → and a false ≡ false
unfolding and
and_false true = refl
and_false false = refl

pub all_both : {A : Type 0} (f : A → Bool) (l m : List A) → all f (l ++ m) ≡ and (all f l) (all f m)
unfolding all and
all_both f [] m = refl
all_both f (x ∷ l) m = rw (all_both f l m) (and_assoc (f x) (all f l) (all f m))
