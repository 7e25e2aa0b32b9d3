-- `encode_header::put_vlan` meets its contract, by the two cases of the tag. Assumes nothing.
use Rattle.std.proofs.Common.{◌≡◌, length, ap, ◌∙◌, arith}
use Rattle.encode_header.specs.Header.{tag_octets, untagged, tagged, length_tagged}
use Rattle.ber_encode.specs.Put.{and_then, nothing_wrote}
use Rattle.encode_header.proofs.put_vlan.Goals as goal

pub returns-in-Untagged : goal.returns-in-Untagged
returns-in-Untagged c = rw (c.in-Untagged.is, untagged) (nothing_wrote _ _)

pub put_bytes-p-requires : goal.put_bytes-p-requires
put_bytes-p-requires c = let e : length (tag_octets c.args.vlan) ≡ 4 = ap (λ v. length (tag_octets v)) c.in-Tagged.is ∙ length_tagged _ _ in
    omega arith

pub put_octets-requires : goal.put_octets-requires
put_octets-requires c = let e : length (tag_octets c.args.vlan) ≡ 4 = ap (λ v. length (tag_octets v)) c.in-Tagged.is ∙ length_tagged _ _ in
    omega arith

pub returns-in-Tagged : goal.returns-in-Tagged
returns-in-Tagged c = let v = c.in-Tagged.is in
    rw (v, tagged _ _ (rw v at c.requires.0)) (and_then c.put_bytes-p.ensures c.put_octets.ensures)
