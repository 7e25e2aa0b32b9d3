-- `encode_header::header_length` meets its contract, by the two cases of the tag. Assumes nothing.
use borrow.Author.Rules.{rules}
use mathlib.Core.Bool.{Bool}
use mathlib.Core.Path.{◌≡◌, ap, ◌∙◌}
use Prim.Native.Nat.{ℕ, ◌+◌}
use lib.ListN.{length}
use native.Mathlib.Omega.{arith}
use Rattle.rt_services.specs.declared.EthernetHeader.{EthernetHeader}
use Rattle.encode_header.specs.Header.{tag_octets, untagged, length_tagged, length_header, header_written}
use Rattle.encode_header.proofs.header_length.Goals as goal

length-with : (h : EthernetHeader) (sim : Bool) (len m : ℕ) → length h.dst_addr ≡ 6 → length h.src_addr ≡ 6 → length (tag_octets h.vlan) ≡ m
    → 22 + m ≡ length (header_written h sim len)
length-with h sim len m d s e = omega (arith, e, length_header h sim len d s)

pub returns-in-Untagged : goal.returns-in-Untagged
returns-in-Untagged c = record {
  octets = λ sim len. length-with c.args.header sim len 0 (search rules) (search rules) (ap (λ v. length (tag_octets v)) c.in-Untagged.is ∙ rw untagged);
  bound = omega arith;
}

pub returns-in-Tagged : goal.returns-in-Tagged
returns-in-Tagged c = record {
  octets = λ sim len. length-with c.args.header sim len 4 (search rules) (search rules) (ap (λ v. length (tag_octets v)) c.in-Tagged.is ∙ length_tagged _ _);
  bound = omega arith;
}
