-- The steps of `put_octets`: one octet less is left with each turn, and at the end none.
use mathlib.Core.Path.{◌≡◌, refl, sym, ap, ◌∙◌, subst}
use mathlib.Core.List.{List, [], ◌∷◌, append_assoc, append-nil}
use Prim.Native.Nat.{ℕ, suc, ◌+◌, ◌-◌, ◌/◌, ◌%◌}
use native.Mathlib.Nat.{add-zero}
use native.Mathlib.Omega.{arith}
use lib.ListN.{set}
use Rattle.ber_encode.specs.Put.{put, put_front}
use Rattle.definition.specs.Octets.{octets}
use Rattle.definition.proofs.OctetLaws.{length-octets}
use Rattle.ber_encode.proofs.put_octets.Invariants.{Left}
use Rattle.ber_encode.proofs.put_octets.Goals as goal

step : (buffer₀ : List ℕ) (at k v j x : ℕ) (buffer : List ℕ) → Left buffer₀ at k v buffer (suc j) x → Left buffer₀ at k v (set buffer (at + j) (x % 256)) j (x / 256)
unfolding octets
step buffer₀ at k v j x buffer r =
    let e : at + suc j ≡ at + j + 1 = omega arith in (
      x % 256 ∷ r.0,
      r.1 ∙ append_assoc (octets j (x / 256)) (x % 256 ∷ []) r.0,
      rw (r.2, e) (put_front buffer₀ (at + j) (x % 256) r.0),
    )

pub loop-j-init : goal.loop-j-init
unfolding put
loop-j-init c = ([], sym (append-nil (octets c.args.k c.args.v)), refl)

pub loop-j-preserved : goal.loop-j-preserved
loop-j-preserved c = let l = c.loop-j in
    let a = c.args in
    let e : l.j ≡ suc (l.j - 1) = omega arith in
    step a.buffer.now a.at a.k a.v (l.j - 1) l.x l.buffer
    (subst (λ (n : ℕ). Left a.buffer.now a.at a.k a.v l.buffer n l.x) e l.invariant)

pub returns : goal.returns
unfolding octets
returns c = let l = c.loop-j in
    let a = c.args in
    let z : l.j ≡ 0 = omega arith in
    let r : Left a.buffer.now a.at a.k a.v l.buffer 0 l.x = subst (λ (n : ℕ). Left a.buffer.now a.at a.k a.v l.buffer n l.x) z l.invariant in
    record {
      list = r.2 ∙ ap (λ (n : ℕ). put a.buffer.now n r.0) (add-zero a.at) ∙ ap (λ (w : List ℕ). put a.buffer.now a.at w) (sym r.1);
      place = ap (λ (n : ℕ). a.at + n) (sym (length-octets a.k a.v));
    }
