-- extended: the number of n octets with its sign's fill is below 256 ^ width, at most 2^32.
use Rattle.std.proofs.Common.{◌≡◌, ℕ, zero, suc, ◌≤◌, ◌*◌, ◌^◌, ◌%◌, arith, refl, lit<}
use Rattle.std.proofs.Math.Nat.{pow-le-pow_right}
use Rattle.ber_decode.specs.Cases.{filled_lt}
use Rattle.ber_decode.proofs.extended.Goals as goal

-- a shift by n whole octets
octets_shl : (n : ℕ) → n ≤ 4 → 1 * 2 ^ (8 * n) % 18446744073709551616 ≡ 256 ^ n
octets_shl zero h = refl
octets_shl (suc zero) h = refl
octets_shl (suc (suc zero)) h = refl
octets_shl (suc (suc (suc zero))) h = refl
octets_shl (suc (suc (suc (suc zero)))) h = refl
octets_shl (suc (suc (suc (suc (suc n))))) h = absurd (omega arith)

pub overflow_sub-whole : goal.overflow_sub-whole
overflow_sub-whole c = rw (octets_shl c.args.n (omega arith), octets_shl c.args.width (omega arith)) (pow-le-pow_right (lit< tt) c.requires.0)

pub overflow_cast-result : goal.overflow_cast-result
overflow_cast-result c = omega (arith, filled_lt c.args.s.now c.args.at c.args.n c.args.width (λ i. (c.type_inv.s i).fits) c.requires.0 c.requires.1 c.be-value.ensures (octets_shl c.args.width (omega arith)) (octets_shl c.args.n (omega arith)))

pub returns : goal.returns
returns c = rw (octets_shl c.args.n (omega arith), octets_shl c.args.width (omega arith), c.be-value.ensures)
