-- What reading the header answers, from what its reader found.
use Rattle.std.specs.Prelude.{◌≡◌, refl, List, Bool, true, false, ltb, ℕ, ◌≤◌, ◌<◌, ◌⊎◌}
use Rattle.std.proofs.Common.{arith, inl, inr, lt-ltb, le-ltb}
use Rattle.definition.specs.Limits.{no_room}
use Rattle.definition.specs.Read.{Out, got, refused, Header, header_at}
use Rattle.definition.specs.Answers.{accepted, refusal, refuse}
use Rattle.definition.specs.Flat.{header_numbers, header_octets, flat_header}
use Rattle.rt_services.specs.Describe.{header_of, header_record}
use Rattle.rt_services.proofs.Laws.{header_held}
use Rattle.rt_services.specs.declared.EthernetHeader.{EthernetHeader}
use Rattle.ber_decode.specs.Told.{found}

-- arrays of a numbers and b octets
module _ (a b : ℕ) (s : List ℕ) where
  pub header_refused : {j p : ℕ} → refused j p ≡ found header_record (header_at s) → flat_header a b s ≡ refusal j p
  unfolding flat_header
  header_refused {j} {p} e = go (header_at s) refl e
    where
      go : (o : Out Header) → header_at s ≡ o → refused j p ≡ found header_record o → flat_header a b s ≡ refusal j p
      go (got y q) f e = let z : ◌≡◌ {A = ℕ} 0 1 = cc in absurd (omega arith)
      go (refused k q) f e =
          let x : j ≡ k = cc in
          let y : p ≡ q = cc in
          rw (f, x, y)

  module _ {h : EthernetHeader} {at : ℕ} (e : got h at ≡ found header_record (header_at s)) where
    read : header_at s ≡ got (header_of h) at
    read = go (header_at s) refl e
      where
        go : (o : Out Header) → header_at s ≡ o → got h at ≡ found header_record o → header_at s ≡ got (header_of h) at
        go (refused k q) f e = let z : ◌≡◌ {A = ℕ} 0 1 = cc in absurd (omega arith)
        go (got y q) f e =
            let x : h ≡ header_record y = cc in
            let z : at ≡ q = cc in
            rw (f, x, z, header_held y)

    pub header_lacks : (a < header_numbers) ⊎ (b < header_octets) → flat_header a b s ≡ refusal no_room 0
    unfolding flat_header
    header_lacks (inl l) = rw (read, lt-ltb a header_numbers l)
    header_lacks (inr l) = rw (read, lt-ltb b header_octets l) (either (ltb a header_numbers))
      where
        either : (t : Bool) → refuse {A = Header × ℕ} t no_room (refusal no_room 0) ≡ refusal no_room 0
        either true = refl
        either false = refl

    pub header_read : header_numbers ≤ a → header_octets ≤ b → flat_header a b s ≡ accepted (header_of h, at)
    unfolding flat_header
    header_read i l = rw (read, le-ltb a header_numbers i, le-ltb b header_octets l)
