-- Records and arrays of just a description: they keep to the types of their fields and elements, and stand for it.
use Rattle.std.specs.Prelude.{◌≡◌, refl, List, [], ◌∷◌, ◌++◌, map, ℕ, ◌-◌, length, ℤ}
use Rattle.std.proofs.Common.{sym, ap, ◌∙◌, append-nil, arith}
use Rattle.std.specs.Prelude.{Option, Some, None}
use Rattle.definition.specs.Limits.{max_text, max_security, max_asdus}
use Rattle.definition.specs.Frame.{Asdu, Description, Held, All, Octets, Of, AsduTyped, Typed}
use Rattle.definition.specs.Held.{filled_to, padded}
use Rattle.definition.specs.HeldLaws.{length-filled_to}
use Rattle.definition.specs.Answers.{all_counts, all_qualities}
use Rattle.definition.proofs.Sound.{all_append, padded_octets}
use Rattle.definition.proofs.Samples.{all_typed}
use Rattle.rt_services.specs.Describe.{asdu_record, asdu_records, pdu_record, header_record, header_in, pdu_in, description_of}
use Rattle.definition.specs.Flat.{or_else}
use Rattle.rt_services.proofs.Laws.{vlan_back, description_held}
use Rattle.record_agreement.specs.Widths.{AsduWidths, Widths, all_blank}

-- ---- fields

or_octets : (o : Option (List ℕ)) → Held Octets o → Octets (or_else [] o)
unfolding Held All
or_octets None h = tt
or_octets (Some l) h = h

eight : (o : Option (List ℕ)) → Held (Of 8) o → Of 8 (padded 8 (or_else [] o))
unfolding Held All
eight None h = record { size = length-filled_to 0 8 [] (omega arith); each = padded_octets 8 [] tt }
eight (Some l) h = record { size = length-filled_to 0 8 l (omega (arith, h.size)); each = padded_octets 8 l h.each }

asdu_widths : (n : ℕ) (a : Asdu) → AsduTyped n a → AsduWidths (asdu_record a)
unfolding asdu_record
asdu_widths n a t = record {
  sv_id = padded_octets max_text a.sv_id t.sv_id;
  dat_set = padded_octets max_text (or_else [] a.dat_set) (or_octets a.dat_set t.dat_set);
  refr_tm = eight a.refr_tm t.refr_tm;
  gm_identity = eight a.gm_identity t.gm_identity;
  smp_rate = t.smp_rate;
  smp_mod = t.smp_mod;
  conf_rev = t.conf_rev;
  smp_cnt = t.smp_cnt;
  smp_synch = t.smp_synch;
}

-- ---- ASDU by ASDU

records_held : (n : ℕ) (l : List Asdu) → All (AsduTyped n) l → All AsduWidths (map asdu_record l)
unfolding All
records_held n [] t = tt
records_held n (a ∷ l) t = (asdu_widths n a t.0, records_held n l t.1)

-- The records that hold a description that keeps to its widths, with its counts and quality words, keep to the types.
pub typed_widths : (n : ℕ) (d : Description) (l : ℕ) → Typed n d → Widths (header_record (header_in d l)) (pdu_record (pdu_in d)) (all_counts d.asdus) (all_qualities d.asdus)
unfolding header_record header_in pdu_record pdu_in asdu_records filled_to
typed_widths n d l t =
    let c = all_typed n d.asdus t.asdus in
    record {
      destination = t.destination;
      source = t.source;
      vlan = rw (vlan_back d.vlan) t.vlan;
      ether_type = t.ether_type;
      appid = t.appid;
      security = padded_octets max_security (or_else [] d.security) (or_octets d.security t.security);
      asdus = all_append AsduWidths (map asdu_record d.asdus) _ (records_held n d.asdus t.asdus) (all_blank (max_asdus - length (map asdu_record d.asdus)));
      counts = c.0;
      qualities = c.1;
    }

-- and stand for it
pub held_description : (n : ℕ) (d : Description) (l : ℕ) → Typed n d → description_of n (header_record (header_in d l)) (pdu_record (pdu_in d)) (all_counts d.asdus) (all_qualities d.asdus) ≡ d
held_description n d l t =
    sym (ap (λ (cs : List ℤ). description_of n (header_record (header_in d l)) (pdu_record (pdu_in d)) cs (all_qualities d.asdus)) (append-nil (all_counts d.asdus)))
    ∙ sym (ap (λ (qs : List ℕ). description_of n (header_record (header_in d l)) (pdu_record (pdu_in d)) (all_counts d.asdus ++ []) qs) (append-nil (all_qualities d.asdus)))
    ∙ description_held n d l t [] []

pub held_count : (d : Description) → (pdu_record (pdu_in d)).no_asdu ≡ length d.asdus
unfolding pdu_record pdu_in
held_count d = refl
