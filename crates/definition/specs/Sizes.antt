-- "smv_size equals the octets written; it takes no samples": the sizes of a description are those of the one with every count and
-- quality word 0, and the quality words are all that a writer refuses besides.
use Rattle.std.specs.Prelude.{Bool, ℕ, length, replicate, ℤ, pos, ltb}
use mathlib.Core.List.{map}
use Rattle.definition.specs.Limits.{quality_limit}
use Rattle.definition.specs.Frame.{Asdu, Description}

-- a sample of 0; an ASDU, and a description, with as many samples of 0
abbrev pub zero_sample : ℤ × ℕ
zero_sample = (pos 0, 0)

unfoldable pub zeroed_asdu : Asdu → Asdu
zeroed_asdu a = record {
  sv_id = a.sv_id;
  dat_set = a.dat_set;
  smp_cnt = a.smp_cnt;
  conf_rev = a.conf_rev;
  refr_tm = a.refr_tm;
  smp_synch = a.smp_synch;
  smp_rate = a.smp_rate;
  samples = replicate (length a.samples) zero_sample;
  smp_mod = a.smp_mod;
  gm_identity = a.gm_identity;
}

unfoldable pub zeroed : Description → Description
zeroed d = record {
  destination = d.destination;
  source = d.source;
  vlan = d.vlan;
  ether_type = d.ether_type;
  appid = d.appid;
  simulation = d.simulation;
  security = d.security;
  asdus = map zeroed_asdu d.asdus;
}

-- ---- tests

-- "a quality word of 2^13 or more" is refused
abbrev pub quality_fits : ℕ → Bool
quality_fits q = ltb q quality_limit
