-- The types of the records' fields say their widths: so the description of records and arrays that a writer accepts keeps to the
-- widths of its fields, whatever they hold.
use Rattle.std.specs.Prelude.{◌≡◌, List, [], ◌∷◌, ℕ, zero, suc, ◌+◌, ◌-◌, ◌*◌, ◌≤◌, ◌<◌, length, take, drop, replicate, ℤ}
use Rattle.std.proofs.Common.{arith, length-drop, length-take-le, lit<}
use Rattle.std.proofs.lemmas.List.{length-replicate}
use Rattle.definition.specs.Limits.{max_text}
use Rattle.definition.specs.Frame.{Held, All, Octet, Word, Octets, Of, Count, Tag, AsduTyped, Typed}
use Rattle.definition.specs.Answers.{described}
use Rattle.definition.specs.Held.{held_octets, first_of}
use Rattle.definition.specs.HeldLaws.{length-first_of}
use Rattle.definition.proofs.Sound.{all_take, all_drop, all_append, all_zeros}
use Rattle.definition.proofs.Samples.{length_zip, all_zip}
use Rattle.rt_services.specs.declared.SavAsdu.{SavAsdu}
use Rattle.rt_services.specs.declared.SavPdu.{SavPdu}
use Rattle.rt_services.specs.declared.EthernetHeader.{EthernetHeader}
use Rattle.rt_services.specs.declared.Presence.{Presence}
use Rattle.rt_services.specs.declared.Presence.TheVariants as presence
use Rattle.rt_services.specs.Describe.{when, tag_of, asdu_of, asdus_of, blank_record, pdu_of, header_of, description_of}
use Rattle.rt_services.specs.Same.{records_of}

-- u8, u16 and u32; arrays of octets
pub record AsduWidths (a : SavAsdu) : Type 0 where
  pub sv_id : Octets a.msv_id
  pub dat_set : Octets a.dat_set_octets
  pub refr_tm : Of 8 a.refr_tm_octets
  pub gm_identity : Of 8 a.gm_identity_octets
  pub smp_rate : Held (λ (v : ℕ). v < 65536) a.smp_rate
  pub smp_mod : Held (λ (v : ℕ). v < 65536) a.smp_mod
  pub conf_rev : Word a.conf_rev
  pub smp_cnt : a.smp_cnt < 65536
  pub smp_synch : a.smp_synch < 256

-- a header, a PDU, counts and quality words
pub record Widths (h : EthernetHeader) (p : SavPdu) (cs : List ℤ) (qs : List ℕ) : Type 0 where
  pub destination : Of 6 h.dst_addr
  pub source : Of 6 h.src_addr
  pub vlan : Held Tag (tag_of h.vlan)
  pub ether_type : h.ether_type < 65536
  pub appid : h.appid < 65536
  pub security : Octets p.security_octets
  pub asdus : All AsduWidths p.sav_asdu
  pub counts : All Count cs
  pub qualities : All Word qs

-- ---- held octets and optional fields

held_octets_lem : (len : ℕ) (l : List ℕ) → Octets l → Octets (held_octets len l)
unfolding first_of
held_octets_lem len l h = all_append Octet (take len l) _ (all_take Octet len l h) (all_zeros (len - length l))

when_held : {A : Type 0} (P : A → Type 0) (i : Presence) (x : A) → P x → Held P (when i x)
unfolding Held
when_held P presence.Absent x h = tt
when_held P presence.Present x h = h

-- ---- the records

zeros_of : (k : ℕ) → Of k (replicate k 0)
zeros_of k = record { size = length-replicate {A = ℕ} k 0; each = all_zeros k }

blank_widths : AsduWidths blank_record
unfolding blank_record Held
blank_widths = record {
  sv_id = all_zeros max_text;
  dat_set = all_zeros max_text;
  refr_tm = zeros_of 8;
  gm_identity = zeros_of 8;
  smp_rate = tt;
  smp_mod = tt;
  conf_rev = lit< tt;
  smp_cnt = lit< tt;
  smp_synch = lit< tt;
}

pub all_blank : (k : ℕ) → All AsduWidths (replicate k blank_record)
unfolding All
all_blank zero = tt
all_blank (suc k) = (blank_widths, all_blank k)

records_widths : (p : SavPdu) → All AsduWidths p.sav_asdu → All AsduWidths (records_of p)
unfolding first_of
records_widths p h =
    all_append AsduWidths (take p.no_asdu p.sav_asdu) _ (all_take AsduWidths p.no_asdu p.sav_asdu h) (all_blank (p.no_asdu - length p.sav_asdu))

asdu_typed : (n : ℕ) (a : SavAsdu) (cs : List ℤ) (qs : List ℕ) → AsduWidths a → All Count cs → All Word qs → length cs ≡ n → length qs ≡ n → AsduTyped n (asdu_of a cs qs)
unfolding asdu_of
asdu_typed n a cs qs w c q lc lq = record {
  sv_id = held_octets_lem a.msv_id_len a.msv_id w.sv_id;
  dat_set = when_held Octets a.dat_set _ (held_octets_lem a.dat_set_len a.dat_set_octets w.dat_set);
  smp_cnt = w.smp_cnt;
  conf_rev = w.conf_rev;
  refr_tm = when_held (Of 8) a.refr_tm _ w.refr_tm;
  smp_synch = w.smp_synch;
  smp_rate = w.smp_rate;
  channels = length_zip cs qs n lc lq;
  samples = all_zip cs qs c q;
  smp_mod = w.smp_mod;
  gm_identity = when_held (Of 8) a.gm_identity _ w.gm_identity;
}

asdus_typed : (n : ℕ) (l : List SavAsdu) (cs : List ℤ) (qs : List ℕ) → All AsduWidths l → All Count cs → All Word qs → length l * n ≤ length cs → length l * n ≤ length qs
    → All (AsduTyped n) (asdus_of l n cs qs)
unfolding asdus_of All
asdus_typed n [] cs qs w c q lc lq = tt
asdus_typed n (a ∷ l) cs qs w c q lc lq =
    let p : suc (length l) * n ≡ n + length l * n = omega arith in (
      asdu_typed n a (take n cs) (take n qs) w.0 (all_take Count n cs c) (all_take Word n qs q) (length-take-le n cs (omega arith)) (length-take-le n qs (omega arith)),
      asdus_typed n l (drop n cs) (drop n qs) w.1 (all_drop Count n cs c) (all_drop Word n qs q) (simp length-drop (omega arith)) (simp length-drop (omega arith)),
    )

-- The description of a header, a PDU and arrays that are long enough keeps to the widths of its fields.
pub widths_typed : (n : ℕ) (h : EthernetHeader) (p : SavPdu) (cs : List ℤ) (qs : List ℕ) → Widths h p cs qs → p.no_asdu * n ≤ length cs → p.no_asdu * n ≤ length qs
    → Typed n (description_of n h p cs qs)
unfolding description_of described header_of pdu_of
widths_typed n h p cs qs w lc lq =
    let m : length (records_of p) ≡ p.no_asdu = length-first_of blank_record p.no_asdu p.sav_asdu in
    record {
      destination = w.destination;
      source = w.source;
      vlan = w.vlan;
      ether_type = w.ether_type;
      appid = w.appid;
      security = when_held Octets p.security _ (held_octets_lem p.security_len p.security_octets w.security);
      asdus = asdus_typed n (records_of p) cs qs (records_widths p w.asdus) w.counts w.qualities (rw m lc) (rw m lq);
    }
