-- The octets of a frame before its PDU, from the header's record: "Addresses, optional 81 00 and TCI, EtherType, APPID, Length,
-- reserved 1, reserved 2".
use Rattle.std.specs.Prelude.{◌≡◌, refl, List, [], ◌∷◌, ◌++◌, Bool, true, ℕ, ◌+◌, ◌≤◌, length, ℤ, eqb}
use Rattle.std.proofs.Common.{◌∙◌, append_assoc, arith, length-append, eqb-true}
use Rattle.definition.specs.Limits.{smv_ether_type, vlan_tpid}
use Rattle.definition.specs.Octets.{octets}
use Rattle.definition.proofs.OctetLaws.{length-octets}
use Rattle.definition.specs.Frame.{Form, optional, vlan_octets, reserved, pdu_octets, length_of, frame_octets, held}
use Rattle.definition.specs.Answers.{described}
use Rattle.rt_services.specs.declared.SavPdu.{SavPdu}
use Rattle.rt_services.specs.declared.EthernetHeader.{EthernetHeader}
use Rattle.rt_services.specs.declared.Vlan.{Vlan}
use Rattle.rt_services.specs.declared.Vlan.TheVariants as vlan
use Rattle.rt_services.specs.Describe.{tag_of, header_of, pdu_of, description_of}
use Rattle.encode_check.specs.Fits.{header_fits}
use Rattle.definition.specs.Tests.{and_both}

-- TPID and TCI of a tag, or nothing
unfoldable pub tag_octets : Vlan → List ℕ
tag_octets v = optional vlan_octets (tag_of v)

-- with the simulation mark and Length
unfoldable pub header_written : EthernetHeader → Bool → ℕ → List ℕ
header_written h sim len =
    h.dst_addr
    ++ (h.src_addr
    ++ (tag_octets h.vlan
    ++ (octets 2 h.ether_type ++ (octets 2 h.appid ++ (octets 2 len ++ reserved sim)))))

-- TPID is 81 00, where there is one
unfoldable pub TagFits : Vlan → Type 0
TagFits v = held (λ (v : ℕ × ℕ). eqb v.0 vlan_tpid) (tag_of v) ≡ true

-- ---- laws

pub smv_octets : octets 2 smv_ether_type ≡ 0x88 ∷ 0xBA ∷ []
unfolding octets
smv_octets = refl

tpid_octets : octets 2 vlan_tpid ≡ 0x81 ∷ 0x00 ∷ []
unfolding octets
tpid_octets = refl

pub untagged : tag_octets vlan.Untagged ≡ []
unfolding tag_octets optional
untagged = refl

-- a tag that fits is 81 00 and TCI
pub tagged : (tpid tci : ℕ) → TagFits (vlan.Tagged tpid tci) → tag_octets (vlan.Tagged tpid tci) ≡ (0x81 ∷ 0x00 ∷ []) ++ octets 2 tci
unfolding TagFits held tag_octets optional vlan_octets
tagged tpid tci e = rw (eqb-true tpid vlan_tpid e, tpid_octets)

pub length_tag : (v : Vlan) → length (tag_octets v) ≤ 4
unfolding tag_octets optional vlan_octets
length_tag vlan.Untagged = omega arith
length_tag (vlan.Tagged tpid tci) = omega (arith, length-append (octets 2 tpid) (octets 2 tci), length-octets 2 tpid, length-octets 2 tci)

pub length_tagged : (tpid tci : ℕ) → length (tag_octets (vlan.Tagged tpid tci)) ≡ 4
unfolding tag_octets optional vlan_octets
length_tagged tpid tci = length-append (octets 2 tpid) (octets 2 tci) ∙ rw (length-octets 2 tpid, length-octets 2 tci) refl

pub length_reserved : (sim : Bool) → length (reserved sim) ≡ 4
unfolding reserved
length_reserved sim = refl

-- 22 octets and the tag
pub length_header : (h : EthernetHeader) (sim : Bool) (len : ℕ) → length h.dst_addr ≡ 6 → length h.src_addr ≡ 6
    → length (header_written h sim len) ≡ 22 + length (tag_octets h.vlan)
unfolding header_written
length_header h sim len e f =
    simp (length-append, length-octets, length_reserved, e, f) (omega arith)

-- what a header that fits says
pub header_fits_lem : (h : EthernetHeader) → header_fits h ≡ true → (h.ether_type ≡ smv_ether_type) × TagFits h.vlan
unfolding header_fits TagFits
header_fits_lem h e =
    let b = and_both _ _ e in
    (eqb-true h.ether_type smv_ether_type b.0, b.1)

-- the frame is the header, then the PDU
pub frame_is : (form : Form) (n : ℕ) (h : EthernetHeader) (p : SavPdu) (counts : List ℤ) (qualities : List ℕ)
    → frame_octets form (description_of n h p counts qualities)
    ≡ header_written h p.sim (length_of form (description_of n h p counts qualities)) ++ pdu_octets form (description_of n h p counts qualities)
unfolding frame_octets header_written tag_octets description_of described header_of pdu_of
frame_is form n h p counts qualities = simp append_assoc
