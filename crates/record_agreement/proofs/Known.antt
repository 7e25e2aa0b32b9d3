-- What holding a header and a PDU tells of their fields: each keeps to the width of its type.
use mathlib.Core.List.{List, [], ◌∷◌}
use Prim.Native.Nat.{ℕ, ◌<◌}
use lib.IntN.{ℤ}
use mir.Syntax.{w8, w16}
use mir.Val.{Val}
use base.Fml.{Fml}
use denote.Shadow.{shadow}
use denote.Laws.{Is}
use denote.Plain.{UInt}
use denote.Array.{Array, each}
use denote.Struct.Declared as struct
use denote.Enum.Declared as enum
use Rattle.std.specs.Prelude.{Option, None, Some}
use Rattle.definition.specs.Frame.{Held, All, Octet, Word, Count, Of, Tag}
use Rattle.definition.specs.Limits.{max_text}
use Rattle.rt_services.specs.declared.SavAsdu.{SavAsdu}
use Rattle.rt_services.specs.declared.SavPdu.{SavPdu}
use Rattle.rt_services.specs.declared.EthernetHeader.{EthernetHeader}
use Rattle.rt_services.specs.declared.Vlan.{Vlan}
use Rattle.rt_services.specs.declared.Vlan.TheVariants as vlan
use Rattle.rt_services.specs.Describe.{tag_of}
use Rattle.rt_services.specs.contracts.SavAsdu as sav-asdu
use Rattle.rt_services.specs.contracts.SavPdu as sav-pdu
use Rattle.rt_services.specs.contracts.EthernetHeader as ethernet-header
use Rattle.rt_services.specs.contracts.Vlan as vlan-type
use Rattle.std.specs.contracts.option.Option as option
use Rattle.record_agreement.specs.Widths.{AsduWidths, Widths}

-- an array: what each element's type tells of it
each_known : {A : Type 0} (f : A → List Val → Fml) (P : A → Type 0) → ((x : A) (vs : List Val) → shadow (f x vs) → P x) → (xs : List A) (us : List Val) → shadow (each A f xs us) → All P xs
unfolding All
each_known f P g [] us h = tt
each_known f P g (x ∷ xs) [] h = absurd h
each_known f P g (x ∷ xs) (u ∷ us) h = (g x (u ∷ []) h.0, each_known f P g xs us h.1)

octets_known : (n : ℕ) (xs : List ℕ) (vs : List Val) → Is (Array (UInt w8) n) xs vs → Of n xs
octets_known n xs vs h = record { size = h.1.0.1; each = each_known (UInt w8).own_val Octet (λ x vs k. k.1) xs h.0 h.1.1 }

vlan_known : (v : Vlan) (vs : List Val) → Is (enum.row vlan-type.the_type) v vs → Held Tag (tag_of v)
unfolding Held
vlan_known vlan.Untagged vs h = tt
vlan_known (vlan.Tagged a b) vs h = record { tpid = h.1.1.1.1.0.1; tci = h.1.1.1.1.1.0.1 }

number_known : (o : Option ℕ) (vs : List Val) → Is (option.the_row (UInt w16)) o vs → Held (λ (v : ℕ). v < 65536) o
unfolding Held
number_known None vs h = tt
number_known (Some v) vs h = h.1.1.1.1.0.1

asdu_known : (a : SavAsdu) (vs : List Val) → Is (struct.row sav-asdu.the_type) a vs → AsduWidths a
asdu_known a vs h =
    let f = h.1.1 in
    record {
      sv_id = (octets_known max_text a.msv_id _ f.0).each;
      dat_set = (octets_known max_text a.dat_set_octets _ f.1.1.0).each;
      refr_tm = octets_known 8 a.refr_tm_octets _ f.1.1.1.1.1.1.0;
      gm_identity = octets_known 8 a.gm_identity_octets _ f.1.1.1.1.1.1.1.0;
      smp_rate = number_known a.smp_rate _ f.1.1.1.1.1.1.1.1.0;
      smp_mod = number_known a.smp_mod _ f.1.1.1.1.1.1.1.1.1.0;
      conf_rev = f.1.1.1.1.1.1.1.1.1.1.0.1;
      smp_cnt = f.1.1.1.1.1.1.1.1.1.1.1.0.1;
      smp_synch = f.1.1.1.1.1.1.1.1.1.1.1.1.0.1;
    }

-- the records of a PDU
records_known : (p : SavPdu) (vs : List Val) → Is (struct.row sav-pdu.the_type) p vs → All AsduWidths p.sav_asdu
records_known p vs h =
    let f = h.1.1.0 in
    each_known (sav-asdu.the_row).own_val AsduWidths asdu_known p.sav_asdu f.0 f.1.1

-- A header, a PDU, counts and quality words.
pub known : (h : EthernetHeader) (p : SavPdu) (cs : List ℤ) (qs : List ℕ) (vs us : List Val) → Is (struct.row ethernet-header.the_type) h vs → Is (struct.row sav-pdu.the_type) p us
    → All Count cs → All Word qs → Widths h p cs qs
known h p cs qs vs us a b c q =
    let f = a.1.1 in
    record {
      destination = octets_known 6 h.dst_addr _ f.0;
      source = octets_known 6 h.src_addr _ f.1.0;
      vlan = vlan_known h.vlan _ f.1.1.0;
      ether_type = f.1.1.1.0.1;
      appid = f.1.1.1.1.0.1;
      security = (octets_known 64 p.security_octets _ b.1.1.1.0).each;
      asdus = records_known p us b;
      counts = c;
      qualities = q;
    }
