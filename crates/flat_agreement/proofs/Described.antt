-- Equal flat descriptions are those that stand for the same description: what counts decides the description, and the description
-- decides what counts. Both go ASDU by ASDU.
use Rattle.std.specs.Prelude.{◌≡◌, refl, List, ℕ, zero, suc, ◌*◌, ◌≤◌, length, take, drop, ℤ}
use Rattle.std.proofs.Common.{sym, ◌∙◌, arith, take-take}
use Rattle.std.proofs.Math.Path.{ap}
use Rattle.definition.specs.Frame.{Asdu, Description}
use Rattle.definition.specs.Answers.{all_counts, all_qualities}
use Rattle.definition.proofs.Samples.{Sampled, sampled_all, first_same}
use Rattle.definition.specs.Flat.{head_numbers, asdu_numbers, head_octets, asdu_octets, nth, flat_asdu, flat_asdus, flat_description}
use Rattle.flat_agreement.specs.Same.{SameFlatAsdu, SameFlatAsdus, SameFlat}

-- ---- what counts decides the description

same_asdu : (k o k' o' : List ℕ) (cs : List ℤ) (qs : List ℕ) → SameFlatAsdu k o k' o' → flat_asdu k o cs qs ≡ flat_asdu k' o' cs qs
unfolding flat_asdu
same_asdu k o k' o' cs qs s = rw (s.sv_id, s.dat_set, s.smp_cnt, s.conf_rev, s.refr_tm, s.smp_synch, s.smp_rate, s.smp_mod, s.gm_identity)

same_asdus : (m n : ℕ) (k o k' o' : List ℕ) (cs cs' : List ℤ) (qs qs' : List ℕ) → SameFlatAsdus m k o k' o' → take (m * n) cs ≡ take (m * n) cs' → take (m * n) qs ≡ take (m * n) qs'
    → flat_asdus m n k o cs qs ≡ flat_asdus m n k' o' cs' qs'
unfolding SameFlatAsdus flat_asdus
same_asdus zero n k o k' o' cs cs' qs qs' s c q = refl
same_asdus (suc m) n k o k' o' cs cs' qs qs' s c q =
    let (c₁, c₂) = first_same m n cs cs' c in
    let (q₁, q₂) = first_same m n qs qs' q in
    rw (
      c₁,
      q₁,
      same_asdu k o k' o' (take n cs') (take n qs') s.0,
      same_asdus m n (drop asdu_numbers k) (drop asdu_octets o) (drop asdu_numbers k') (drop asdu_octets o') (drop n cs) (drop n cs') (drop n qs) (drop n qs') s.1 c₂ q₂,
    )

module _ (n : ℕ) (k o : List ℕ) (cs : List ℤ) (qs : List ℕ) (k' o' : List ℕ) (cs' : List ℤ) (qs' : List ℕ) where
  -- Equal flat descriptions stand for the same description.
  pub same_flat_described : SameFlat n k o cs qs k' o' cs' qs' → flat_description n k o cs qs ≡ flat_description n k' o' cs' qs'
  unfolding flat_description
  same_flat_described s =
      let a : flat_asdus (nth k 9) n (drop head_numbers k) (drop head_octets o) cs qs ≡ flat_asdus (nth k' 9) n (drop head_numbers k') (drop head_octets o') cs' qs'
      = same_asdus (nth k 9) n (drop head_numbers k) (drop head_octets o) (drop head_numbers k') (drop head_octets o') cs cs' qs qs' s.asdus s.counts s.qualities ∙ rw s.no_asdu in
      rw (s.destination, s.source, s.vlan, s.ether_type, s.appid, s.simulation, s.security, a)

-- the first noASDU × n counts are all that count
pub flat_first : (n : ℕ) (k o : List ℕ) (cs : List ℤ) (qs : List ℕ) → flat_description n k o (take (nth k 9 * n) cs) qs ≡ flat_description n k o cs qs
unfolding SameFlatAsdus
flat_first n k o cs qs =
    same_flat_described n k o (take (nth k 9 * n) cs) qs k o cs qs
    (record {
      destination = refl;
      source = refl;
      vlan = refl;
      ether_type = refl;
      appid = refl;
      simulation = refl;
      security = refl;
      no_asdu = refl;
      asdus = themselves (nth k 9) (drop head_numbers k) (drop head_octets o);
      counts = take-take (nth k 9 * n) (nth k 9 * n) cs (omega arith);
      qualities = refl;
    })
  where
    themselves : (m : ℕ) (k o : List ℕ) → SameFlatAsdus m k o k o
    themselves zero k o = tt
    themselves (suc m) k o = (record { sv_id = refl; dat_set = refl; smp_cnt = refl; conf_rev = refl; refr_tm = refl; smp_synch = refl; smp_rate = refl; smp_mod = refl; gm_identity = refl }, themselves m (drop asdu_numbers k) (drop asdu_octets o))

-- ---- the description decides what counts

asdu_same : (k o k' o' : List ℕ) (cs cs' : List ℤ) (qs qs' : List ℕ) → flat_asdu k o cs qs ≡ flat_asdu k' o' cs' qs' → SameFlatAsdu k o k' o'
unfolding flat_asdu
asdu_same k o k' o' cs cs' qs qs' e = record {
  sv_id = ap (λ (x : Asdu). x.sv_id) e;
  dat_set = ap (λ (x : Asdu). x.dat_set) e;
  smp_cnt = ap (λ (x : Asdu). x.smp_cnt) e;
  conf_rev = ap (λ (x : Asdu). x.conf_rev) e;
  refr_tm = ap (λ (x : Asdu). x.refr_tm) e;
  smp_synch = ap (λ (x : Asdu). x.smp_synch) e;
  smp_rate = ap (λ (x : Asdu). x.smp_rate) e;
  smp_mod = ap (λ (x : Asdu). x.smp_mod) e;
  gm_identity = ap (λ (x : Asdu). x.gm_identity) e;
}

asdus_same : (m n : ℕ) (k o k' o' : List ℕ) (cs cs' : List ℤ) (qs qs' : List ℕ) → flat_asdus m n k o cs qs ≡ flat_asdus m n k' o' cs' qs' → SameFlatAsdus m k o k' o'
unfolding SameFlatAsdus flat_asdus
asdus_same zero n k o k' o' cs cs' qs qs' e = tt
asdus_same (suc m) n k o k' o' cs cs' qs qs' e =
    let one : flat_asdu k o (take n cs) (take n qs) ≡ flat_asdu k' o' (take n cs') (take n qs') = cc in
    let rest : flat_asdus m n (drop asdu_numbers k) (drop asdu_octets o) (drop n cs) (drop n qs) ≡ flat_asdus m n (drop asdu_numbers k') (drop asdu_octets o') (drop n cs') (drop n qs') = cc in
    (asdu_same k o k' o' _ _ _ _ one, asdus_same m n _ _ _ _ _ _ _ _ rest)

pub length-flat_asdus : (m n : ℕ) (k o : List ℕ) (cs : List ℤ) (qs : List ℕ) → length (flat_asdus m n k o cs qs) ≡ m
unfolding flat_asdus
length-flat_asdus zero n k o cs qs = refl
length-flat_asdus (suc m) n k o cs qs = ap suc (length-flat_asdus m n (drop asdu_numbers k) (drop asdu_octets o) (drop n cs) (drop n qs))

sampled : (m n : ℕ) (k o : List ℕ) (cs : List ℤ) (qs : List ℕ) → Sampled n (flat_asdus m n k o cs qs) cs qs
unfolding Sampled flat_asdus flat_asdu
sampled zero n k o cs qs = tt
sampled (suc m) n k o cs qs = (refl, sampled m n (drop asdu_numbers k) (drop asdu_octets o) (drop n cs) (drop n qs))

-- "Arrays are long enough with noASDU × channels elements each"
pub record SamplesFit (n : ℕ) (k : List ℕ) (cs : List ℤ) (qs : List ℕ) : Type 0 where
  pub counts : nth k 9 * n ≤ length cs
  pub qualities : nth k 9 * n ≤ length qs

-- noASDU, and the samples of the arrays
pub described_count : (n : ℕ) (k o : List ℕ) (cs : List ℤ) (qs : List ℕ) → length (flat_description n k o cs qs).asdus ≡ nth k 9
unfolding flat_description
described_count n k o cs qs = length-flat_asdus (nth k 9) n (drop head_numbers k) (drop head_octets o) cs qs

pub described_samples : (n : ℕ) (k o : List ℕ) (cs : List ℤ) (qs : List ℕ) → SamplesFit n k cs qs
    → (all_counts (flat_description n k o cs qs).asdus ≡ take (nth k 9 * n) cs) × (all_qualities (flat_description n k o cs qs).asdus ≡ take (nth k 9 * n) qs)
unfolding flat_description
described_samples n k o cs qs long =
    let l = length-flat_asdus (nth k 9) n (drop head_numbers k) (drop head_octets o) cs qs in
    rw l at (sampled_all n (flat_asdus (nth k 9) n (drop head_numbers k) (drop head_octets o) cs qs) cs qs (sampled (nth k 9) n (drop head_numbers k) (drop head_octets o) cs qs) (rw l long.counts) (rw l long.qualities))

module _ (n : ℕ) (k o : List ℕ) (cs : List ℤ) (qs : List ℕ) (k' o' : List ℕ) (cs' : List ℤ) (qs' : List ℕ) (e : flat_description n k o cs qs ≡ flat_description n k' o' cs' qs') where
  same_fields : nth k 9 ≡ nth k' 9 → take (nth k 9 * n) cs ≡ take (nth k 9 * n) cs' → take (nth k 9 * n) qs ≡ take (nth k 9 * n) qs' → SameFlat n k o cs qs k' o' cs' qs'
  unfolding flat_description
  same_fields m c q = record {
    destination = ap (λ (d : Description). d.destination) e;
    source = ap (λ (d : Description). d.source) e;
    vlan = ap (λ (d : Description). d.vlan) e;
    ether_type = ap (λ (d : Description). d.ether_type) e;
    appid = ap (λ (d : Description). d.appid) e;
    simulation = ap (λ (d : Description). d.simulation) e;
    security = ap (λ (d : Description). d.security) e;
    no_asdu = m;
    asdus = asdus_same (nth k 9) n (drop head_numbers k) (drop head_octets o) (drop head_numbers k') (drop head_octets o') cs cs' qs qs' (ap (λ (d : Description). d.asdus) e ∙ rw (← m));
    counts = c;
    qualities = q;
  }

  -- Flat descriptions that stand for the same description, their arrays long enough, are equal.
  pub described_same_flat : SamplesFit n k cs qs → SamplesFit n k' cs' qs' → SameFlat n k o cs qs k' o' cs' qs'
  described_same_flat long long' =
      let a = ap (λ (d : Description). d.asdus) e in
      let m : nth k 9 ≡ nth k' 9 = sym (described_count n k o cs qs) ∙ ap length a ∙ described_count n k' o' cs' qs' in
      let s = described_samples n k o cs qs long in
      let s' = described_samples n k' o' cs' qs' long' in
      same_fields m (sym s.0 ∙ ap all_counts a ∙ s'.0 ∙ rw m) (sym s.1 ∙ ap all_qualities a ∙ s'.1 ∙ rw m)
