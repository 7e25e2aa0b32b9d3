-- The element types of the four arrays say their widths: so the description of arrays that stand for one keeps to the widths of its
-- fields, whatever the arrays hold.
use Rattle.std.specs.Prelude.{◌≡◌, List, true, ℕ, zero, suc, ◌+◌, ◌*◌, ◌≤◌, ◌<◌, length, take, drop, ℤ}
use Rattle.std.proofs.Common.{arith, length-drop, length-take-le, leb-true}
use Rattle.definition.specs.Limits.{max_text}
use Rattle.definition.specs.Frame.{held, Held, All, Octet, Word, Octets, Of, Count, Tag, AsduTyped, Typed}
use Rattle.definition.specs.Tests.{and_both}
use Rattle.definition.proofs.Sound.{all_take, all_drop, part_octets, number_lt}
use Rattle.definition.proofs.Samples.{length_zip, all_zip}
use Rattle.definition.specs.Flat.{head_numbers, asdu_numbers, head_octets, asdu_octets, nth, given, behind, asdu_stands, asdus_stand, head_stands, stands, flat_asdu, flat_asdus, flat_description}

-- u32, u8, i32 and u32
pub record Lent (k o : List ℕ) (cs : List ℤ) (qs : List ℕ) : Type 0 where
  pub numbers : All Word k
  pub octets : Octets o
  pub counts : All Count cs
  pub qualities : All Word qs

-- ---- a field behind its mark

given_held : {A : Type 0} (P : A → Type 0) (i : ℕ) (x : A) → P x → Held P (given i x)
unfolding Held
given_held P zero x h = tt
given_held P (suc i) x h = h

behind_held : (most i x : ℕ) → behind most i x ≡ true → Held (λ (v : ℕ). v < suc most) (given i x)
unfolding held Held
behind_held most zero x e = tt
behind_held most (suc i) x e = omega (arith, leb-true x most (and_both _ _ e).1)

vlan_held : (i x y : ℕ) → behind 65535 i x ≡ true → behind 65535 i y ≡ true → Held Tag (given {A = ℕ × ℕ} i (x, y))
unfolding held Held
vlan_held zero x y e f = tt
vlan_held (suc i) x y e f =
    record { tpid = omega (arith, leb-true x 65535 (and_both _ _ e).1); tci = omega (arith, leb-true y 65535 (and_both _ _ f).1) }

-- so many octets from a place on
of_octets : (m at : ℕ) (o : List ℕ) → Octets o → at + m ≤ length o → Of m (take m (drop at o))
of_octets m at o h l = record { size = length-take-le m (drop at o) (omega (arith, length-drop at o)); each = part_octets o h at m }

-- ---- the ASDUs

asdu_typed : (n : ℕ) (k o : List ℕ) (cs : List ℤ) (qs : List ℕ) → Lent k o cs qs → asdu_stands k ≡ true → asdu_octets ≤ length o → length cs ≡ n → length qs ≡ n
    → AsduTyped n (flat_asdu k o cs qs)
unfolding asdu_stands flat_asdu
asdu_typed n k o cs qs t e l lc lq =
    let e1 = and_both _ _ e in
    let e2 = and_both _ _ e1.1 in
    let e3 = and_both _ _ e2.1 in
    let e4 = and_both _ _ e3.1 in
    let e5 = and_both _ _ e4.1 in
    let e6 = and_both _ _ e5.1 in
    let e7 = and_both _ _ e6.1 in
    record {
      sv_id = part_octets o t.octets 0 (nth k 0);
      dat_set = given_held Octets (nth k 1) _ (part_octets o t.octets max_text (nth k 2));
      smp_cnt = omega (arith, leb-true (nth k 3) 65535 e3.0);
      conf_rev = number_lt 4294967295 k t.numbers 4;
      refr_tm = given_held (Of 8) (nth k 5) _ (of_octets 8 (max_text + max_text) o t.octets (omega arith));
      smp_synch = omega (arith, leb-true (nth k 6) 255 e5.0);
      smp_rate = behind_held 65535 (nth k 7) (nth k 8) e6.0;
      channels = length_zip cs qs n lc lq;
      samples = all_zip cs qs t.counts t.qualities;
      smp_mod = behind_held 65535 (nth k 9) (nth k 10) e7.0;
      gm_identity = given_held (Of 8) (nth k 11) _ (of_octets 8 (max_text + max_text + 8) o t.octets (omega arith));
    }

asdus_typed : (m n : ℕ) (k o : List ℕ) (cs : List ℤ) (qs : List ℕ) → Lent k o cs qs → asdus_stand m k ≡ true → m * asdu_octets ≤ length o → m * n ≤ length cs → m * n ≤ length qs
    → All (AsduTyped n) (flat_asdus m n k o cs qs)
unfolding asdus_stand flat_asdus All
asdus_typed zero n k o cs qs t e l lc lq = tt
asdus_typed (suc m) n k o cs qs t e l lc lq =
    let f = and_both _ _ e in
    let p : suc m * n ≡ n + m * n = omega arith in
    let first : Lent k o (take n cs) (take n qs) = record { numbers = t.numbers; octets = t.octets; counts = all_take Count n cs t.counts; qualities = all_take Word n qs t.qualities } in
    let rest : Lent (drop asdu_numbers k) (drop asdu_octets o) (drop n cs) (drop n qs) = record { numbers = all_drop Word asdu_numbers k t.numbers; octets = all_drop Octet asdu_octets o t.octets; counts = all_drop Count n cs t.counts; qualities = all_drop Word n qs t.qualities } in (
      asdu_typed n k o (take n cs) (take n qs) first f.0 (omega arith) (length-take-le n cs (omega arith)) (length-take-le n qs (omega arith)),
      asdus_typed m n (drop asdu_numbers k) (drop asdu_octets o) (drop n cs) (drop n qs) rest f.1 (simp length-drop (omega arith)) (simp length-drop (omega arith)) (simp length-drop (omega arith)),
    )

-- The description of four arrays that stand for one, long enough for their ASDUs, keeps to the widths of its fields.
pub lent_typed : (n : ℕ) (k o : List ℕ) (cs : List ℤ) (qs : List ℕ) → Lent k o cs qs → stands k ≡ true
    → head_octets + nth k 9 * asdu_octets ≤ length o → nth k 9 * n ≤ length cs → nth k 9 * n ≤ length qs → Typed n (flat_description n k o cs qs)
unfolding stands head_stands flat_description
lent_typed n k o cs qs t e l lc lq =
    let e0 = and_both _ _ e in
    let e1 = and_both _ _ e0.0 in
    let e2 = and_both _ _ e1.1 in
    let e3 = and_both _ _ e2.1 in
    let e4 = and_both _ _ e3.1 in
    let rest : Lent (drop head_numbers k) (drop head_octets o) cs qs = record { numbers = all_drop Word head_numbers k t.numbers; octets = all_drop Octet head_octets o t.octets; counts = t.counts; qualities = t.qualities } in
    record {
      destination = of_octets 6 0 o t.octets (omega arith);
      source = of_octets 6 6 o t.octets (omega arith);
      vlan = vlan_held (nth k 0) (nth k 1) (nth k 2) e1.0 e2.0;
      ether_type = omega (arith, leb-true (nth k 3) 65535 e3.0);
      appid = omega (arith, leb-true (nth k 4) 65535 e4.0);
      security = given_held Octets (nth k 7) _ (part_octets o t.octets 12 (nth k 8));
      asdus = asdus_typed (nth k 9) n (drop head_numbers k) (drop head_octets o) cs qs rest e0.1 (simp length-drop (omega arith)) lc lq;
    }
