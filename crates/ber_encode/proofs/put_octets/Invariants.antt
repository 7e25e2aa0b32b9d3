-- `ber_encode::put_octets` meets its contract. The loop writes from the last octet to the first; its invariant: what is written and the
-- octets of what is left make the whole. Assumes nothing.
use Rattle.std.proofs.Common.{◌≡◌, ℕ, ◌+◌, List, ◌++◌}
use Rattle.ber_encode.specs.Put.{put}
use Rattle.definition.specs.Octets.{octets}
use Rattle.ber_encode.proofs.put_octets.Given as goal

-- the octets that are written, w, and those that are left make the whole
abbrev pub Left : List ℕ → ℕ → ℕ → ℕ → List ℕ → ℕ → ℕ → Type 0
Left buffer₀ at k v buffer j x = (w : List ℕ) × (octets k v ≡ octets j x ++ w) × (buffer ≡ put buffer₀ (at + j) w)

abbrev pub invariant-loop-j : goal.invariant-loop-j
invariant-loop-j l = Left l.initial.buffer l.at l.k l.v l.buffer l.j l.x
