-- decode_ethernet_header: by the length, then by whether there is a VLAN tag.
use Rattle.std.proofs.Common.{sym, ap, arith}
use Rattle.rt_services.specs.Describe.{header_record}
use Rattle.ber_decode.specs.Told.{found}
use Rattle.ethernet_header.specs.Header.{header_short, header_vlan, header_plain}
use Rattle.ethernet_header.proofs.decode_ethernet_header.Goals as goal
use Rattle.ethernet_header.proofs.decode_ethernet_header.Goals.{then-at-eq16, else-at-eq16}

pub returns-then-s-at : goal.returns-then-s-at
returns-then-s-at c = rw c.at.ensures (sym (ap (found header_record) (header_short _ _ c.type_place-at.ensures (omega arith))))

pub returns : goal.returns
returns c =
    rw (c.address.ensures, c.address-2.ensures, c.number16-2.ensures, c.number16-3.ensures, c.number16-4.ensures)
    (elim c.if-at-eq16.branch [
      | then-at-eq16 w ↦ rw (w.vlan-is, w.number16.ensures, w.number16-then-at-eq16.ensures) (header_vlan _ _ c.type_place-at.ensures (omega arith) (omega arith))
      | else-at-eq16 w ↦ rw w.vlan-is (header_plain _ _ c.type_place-at.ensures (omega arith) (λ h. omega arith))
    ])
