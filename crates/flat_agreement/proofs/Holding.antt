-- Arrays of just a description: their elements keep to the types of the arrays, and the writer takes them.
use mathlib.Core.List.{List, [], ◌∷◌}
use Rattle.std.specs.Prelude.{Option, Some, None}
use Rattle.std.specs.Prelude.{Bool, true, false, ℕ, ◌≤◌, ◌<◌, length}
use Rattle.std.proofs.Common.{arith, lit<}
use Rattle.definition.specs.Limits.{max_text, max_security, max_asdus}
use Rattle.definition.specs.Frame.{Asdu, Description, Held, All, Octet, Word, Octets, Of, Tag, AsduTyped, Typed}
use Rattle.definition.specs.Answers.{all_counts, all_qualities}
use Rattle.definition.proofs.Sound.{AsduShort, Short, all_append, padded_octets}
use Rattle.definition.proofs.Samples.{all_typed}
use Rattle.definition.specs.Flat.{or_else, mark, simulation_mark, numbers_of_asdu, octets_of_asdu, joined, numbers_of_head, octets_of_head, numbers_of, octets_of}
use Rattle.flat_agreement.specs.Lent.{Lent}

-- ---- numbers

mark_word : {A : Type 0} (o : Option A) → Word (mark o)
mark_word None = lit< tt
mark_word (Some x) = lit< tt

bit_word : (b : Bool) → Word (simulation_mark b)
bit_word false = lit< tt
bit_word true = lit< tt

number_word : (o : Option ℕ) → Held (λ (v : ℕ). v < 65536) o → Word (or_else 0 o)
unfolding Held
number_word None h = lit< tt
number_word (Some v) h = omega arith

length_word : (m : ℕ) → m < 65536 → (o : Option (List ℕ)) → Held (λ (l : List ℕ). length l ≤ m) o → Word (length (or_else [] o))
unfolding Held
length_word m b None h = lit< tt
length_word m b (Some l) h = omega arith

vlan_word : (o : Option (ℕ × ℕ)) → Held Tag o → Word (or_else (0, 0) o).0 × Word (or_else (0, 0) o).1
unfolding Held
vlan_word None h = (lit< tt, lit< tt)
vlan_word (Some v) h = (omega (arith, h.tpid), omega (arith, h.tci))

asdu_words : (n : ℕ) (a : Asdu) → AsduTyped n a → AsduShort a → All Word (numbers_of_asdu a)
unfolding numbers_of_asdu All
asdu_words n a t s = (
  omega (arith, s.sv_id),
  (
    mark_word a.dat_set,
    (
      length_word max_text (lit< tt) a.dat_set s.dat_set,
      (
        omega (arith, t.smp_cnt),
        (
          t.conf_rev,
          (
            mark_word a.refr_tm,
            (
              omega (arith, t.smp_synch),
              (mark_word a.smp_rate, (number_word a.smp_rate t.smp_rate, (mark_word a.smp_mod, (number_word a.smp_mod t.smp_mod, (mark_word a.gm_identity, tt))))),
            ),
          ),
        ),
      ),
    ),
  ),
)

head_words : (n : ℕ) (d : Description) (len : ℕ) → Typed n d → Short d → Word len → length d.asdus ≤ max_asdus → All Word (numbers_of_head d len)
unfolding numbers_of_head All
head_words n d len t s l few = (
  mark_word d.vlan,
  (
    (vlan_word d.vlan t.vlan).0,
    (
      (vlan_word d.vlan t.vlan).1,
      (
        omega (arith, t.ether_type),
        (
          omega (arith, t.appid),
          (
            l,
            (
              bit_word d.simulation,
              (mark_word d.security, (length_word max_security (lit< tt) d.security s.security, (omega (arith, few), tt))),
            ),
          ),
        ),
      ),
    ),
  ),
)

-- ---- octets

or_octets : (o : Option (List ℕ)) → Held Octets o → Octets (or_else [] o)
unfolding Held All
or_octets None h = tt
or_octets (Some l) h = h

eight_octets : (o : Option (List ℕ)) → Held (Of 8) o → Octets (or_else [] o)
unfolding Held All
eight_octets None h = tt
eight_octets (Some l) h = h.each

asdu_octets_lem : (n : ℕ) (a : Asdu) → AsduTyped n a → Octets (octets_of_asdu a)
unfolding octets_of_asdu
asdu_octets_lem n a t =
    all_append Octet _ _ (padded_octets max_text a.sv_id t.sv_id)
    (all_append Octet _ _ (padded_octets max_text (or_else [] a.dat_set) (or_octets a.dat_set t.dat_set))
    (all_append Octet _ _ (padded_octets 8 (or_else [] a.refr_tm) (eight_octets a.refr_tm t.refr_tm))
    (padded_octets 8 (or_else [] a.gm_identity) (eight_octets a.gm_identity t.gm_identity))))

head_octets_lem : (n : ℕ) (d : Description) → Typed n d → Octets (octets_of_head d)
unfolding octets_of_head
head_octets_lem n d t =
    all_append Octet _ _ t.destination.each
    (all_append Octet _ _ t.source.each (padded_octets max_security (or_else [] d.security) (or_octets d.security t.security)))

-- ---- ASDU by ASDU

module _ (n : ℕ) where
  asdus_lent : (l : List Asdu) → All (AsduTyped n) l → All AsduShort l → All Word (joined numbers_of_asdu l) × Octets (joined octets_of_asdu l)
  unfolding joined All
  asdus_lent [] t s = (tt, tt)
  asdus_lent (a ∷ l) t s =
      let i = asdus_lent l t.1 s.1 in (
        all_append Word (numbers_of_asdu a) (joined numbers_of_asdu l) (asdu_words n a t.0 s.0) i.0,
        all_append Octet (octets_of_asdu a) (joined octets_of_asdu l) (asdu_octets_lem n a t.0) i.1,
      )

  -- The numbers, the octets, the counts and the quality words of a description that keeps to its widths and limits keep to the types
  -- of the arrays.
  pub typed_lent : (x : Description × ℕ) → Typed n x.0 → Short x.0 → Word x.1 → length x.0.asdus ≤ max_asdus
      → Lent (numbers_of x) (octets_of x) (all_counts x.0.asdus) (all_qualities x.0.asdus)
  unfolding numbers_of octets_of
  typed_lent x t s l few =
      let i = asdus_lent x.0.asdus t.asdus s.asdus in
      let c = all_typed n x.0.asdus t.asdus in
      record {
        numbers = all_append Word (numbers_of_head x.0 x.1) _ (head_words n x.0 x.1 t s l few) i.0;
        octets = all_append Octet (octets_of_head x.0) _ (head_octets_lem n x.0 t) i.1;
        counts = c.0;
        qualities = c.1;
      }
