-- An example of what doesn't count: two flat descriptions of one ASDU, with nothing optional, that differ behind every mark of 0, in
-- Length and in every spare octet, are equal.
use Rattle.std.specs.Prelude.{refl, List, [], ◌∷◌, ◌++◌, ℕ, replicate}
use Rattle.flat_agreement.specs.Same.{SameFlatAsdus, SameFlat}

-- EtherType 88 BA, APPID 4000 hexadecimal, no ASDU field but confRev 1 and smpSynch 2, and x in every number that doesn't count
abbrev numbers_with : ℕ → List ℕ
numbers_with x =
    (0 ∷ x ∷ x ∷ 0x88BA ∷ 0x4000 ∷ x ∷ 0 ∷ 0 ∷ x ∷ 1 ∷ [])
    ++ (0 ∷ 0 ∷ x ∷ 0 ∷ 1 ∷ 0 ∷ 2 ∷ 0 ∷ x ∷ 0 ∷ x ∷ 0 ∷ [])

-- addresses of zeros, and x in every octet that doesn't count
abbrev octets_with : ℕ → List ℕ
octets_with x = replicate 12 0 ++ replicate 334 x

pub absent_apart : SameFlat 0 (numbers_with 0) (octets_with 0) [] [] (numbers_with 65535) (octets_with 255) [] []
unfolding SameFlatAsdus
absent_apart = record {
  destination = refl;
  source = refl;
  vlan = refl;
  ether_type = refl;
  appid = refl;
  simulation = refl;
  security = refl;
  no_asdu = refl;
  asdus = (
    record { sv_id = refl; dat_set = refl; smp_cnt = refl; conf_rev = refl; refr_tm = refl; smp_synch = refl; smp_rate = refl; smp_mod = refl; gm_identity = refl },
    tt,
  );
  counts = refl;
  qualities = refl;
}
