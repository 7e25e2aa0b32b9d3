-- Laws of lists made element by element, and of the channel of an element.
use Rattle.std.specs.Prelude.{◌≡◌, refl, ℕ, zero, suc, ◌%◌, ◌<◌}
use Rattle.std.proofs.Common.{inl, inr, mod-lt, eq-zero-or-pos, arith}
use Rattle.definition.specs.Scaling.{up_to}

pub same_elements : {A : Type 0} (m : ℕ) (f g : ℕ → A) → ((j : ℕ) → j < m → f j ≡ g j) → up_to m f ≡ up_to m g
unfolding up_to
same_elements zero f g h = refl
same_elements (suc m) f g h =
    let e : f m ≡ g m = h m (omega arith) in
    rw (same_elements m f g (λ j less. h j (omega arith)), e)

-- element k of m, of n channels: without channels there are no elements
pub channel_below : (n m k : ℕ) → (n ≡ 0 → m ≡ 0) → k < m → k % n < n
channel_below n m k none h = elim (eq-zero-or-pos n) [
  | inl z ↦ absurd (let p : m ≡ 0 = none z in omega arith)
  | inr p ↦ mod-lt k p
]
