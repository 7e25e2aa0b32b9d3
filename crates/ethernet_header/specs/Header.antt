-- The cases of the definitions that read a header.
use Rattle.std.specs.Prelude.{◌≡◌, refl, List, Bool, ℕ, ◌+◌, ◌*◌, ◌<◌, ◌≤◌, length, take, drop, leb, ltb, cond}
use Rattle.std.proofs.Common.{sym, ap, ◌∙◌}
use Rattle.std.specs.Prelude.{Option, Some, None}
use Rattle.std.proofs.Math.Bool.{true, false}
use Rattle.std.proofs.Common.{arith, lit<}
use Rattle.std.proofs.Math.ListN.{get_or, get_or-eq_default}
use Rattle.std.proofs.Math.Dec.{eqb}
use borrow.Author.Tests.{le-ltb, lt-ltb, eq-eqb, ne_eqb, eqb-true, eqb-false}
use Rattle.definition.specs.Limits.{ends_too_soon, max_channels, too_many_channels}
use Rattle.definition.specs.Answers.{Answer, answer, refuse, refuse_channels}
use Rattle.definition.specs.Frame.{and, Bytes}
use Rattle.definition.specs.Read.{Header, got, refused, be_at, tagged, header_at, header_from, is_smv_frame, simulation_of}
use Rattle.rt_services.specs.Describe.{header_record, vlan_of}
use Rattle.rt_services.specs.declared.Vlan.{Vlan}
use Rattle.rt_services.specs.declared.Vlan.TheVariants as vlan
use Rattle.rt_services.specs.declared.EthernetHeader.{EthernetHeader}
use Rattle.ber_decode.specs.Told.{found}
use Rattle.ethernet_header.specs.Told.{opened_at}

-- whether the two octets at a place are a and b
unfoldable pub pair_at : List ℕ → ℕ → ℕ → ℕ → Bool
pair_at s at a b = and (leb (at + 2) (length s)) (and (eqb (get_or s at 0) a) (eqb (get_or s (at + 1) 0) b))

-- ---- the cases

eqb_alike : (a b c d : ℕ) → (a ≡ b → c ≡ d) → (c ≡ d → a ≡ b) → eqb a b ≡ eqb c d
eqb_alike a b c d f g = go (eqb c d) refl
  where
    go : (t : Bool) → eqb c d ≡ t → eqb a b ≡ t
    go true e = eq-eqb a b (g (eqb-true c d e))
    go false e = ne_eqb a b (λ h. eqb-false c d e (f h))

pub two : (s : List ℕ) (at : ℕ) → be_at s at 2 ≡ get_or s at 0 * 256 + get_or s (at + 1) 0
unfolding be_at
two s at = let z : at + 0 ≡ at = omega arith in rw z (omega arith)

module _ (s : List ℕ) (at a b : ℕ) where
  -- two octets are a and b where their number is
  pub pair_number : b < 256 → get_or s (at + 1) 0 < 256 → pair_at s at a b ≡ and (leb (at + 2) (length s)) (eqb (be_at s at 2) (a * 256 + b))
  unfolding pair_at and
  pair_number h g = ap (and (leb (at + 2) (length s))) (go (eqb (get_or s at 0) a) refl)
    where
      go : (t : Bool) → eqb (get_or s at 0) a ≡ t → and t (eqb (get_or s (at + 1) 0) b) ≡ eqb (be_at s at 2) (a * 256 + b)
      go true e =
          let k : get_or s at 0 ≡ a = eqb-true _ _ e in
          eqb_alike (get_or s (at + 1) 0) b (be_at s at 2) (a * 256 + b) (λ f. omega (arith, two s at)) (λ f. omega (arith, two s at))
      go false e =
          let k : get_or s at 0 ≡ a → ⊥ = eqb-false _ _ e in
          sym (ne_eqb (be_at s at 2) (a * 256 + b) (λ f. k (omega (arith, two s at))))

module _ (s : List ℕ) where
  tag_place : {at : ℕ} → at ≡ cond (tagged s) 16 12 → tagged s ≡ true → at ≡ 16
  tag_place h e = rw e at h

  plain_place : {at : ℕ} → at ≡ cond (tagged s) 16 12 → tagged s ≡ false → at ≡ 12
  plain_place h e = rw e at h

  module _ (at : ℕ) (place : at ≡ cond (tagged s) 16 12) where
    -- the simulation mark
    pub mark_none : length s ≤ at + 6 → simulation_of s ≡ false
    unfolding simulation_of
    mark_none h = go (tagged s) refl
      where
        go : (t : Bool) → tagged s ≡ t → leb 0x80 (get_or s (cond (tagged s) 22 18) 0) ≡ false
        go true e = rw e (rw (get_or-eq_default s 0 {n = 22} (omega (arith, tag_place place e))))
        go false e = rw e (rw (get_or-eq_default s 0 {n = 18} (omega (arith, plain_place place e))))

    pub mark_there : simulation_of s ≡ leb 0x80 (get_or s (at + 6) 0)
    unfolding simulation_of
    mark_there = rw place (go (tagged s))
      where
        go : (t : Bool) → leb 0x80 (get_or s (cond t 22 18) 0) ≡ leb 0x80 (get_or s (cond t 16 12 + 6) 0)
        go true = refl
        go false = refl

    -- the header
    from_place : (t : Bool) → tagged s ≡ t → header_at s ≡ header_from s at (cond t (Some (be_at s 12 2, be_at s 14 2)) None)
    unfolding header_at
    from_place true e = let p : at ≡ 16 = tag_place place e in rw (e, p)
    from_place false e = let p : at ≡ 12 = plain_place place e in rw (e, p)

    short : length s < at + 6 → (v : Option (ℕ × ℕ)) → header_from s at v ≡ refused ends_too_soon (length s)
    unfolding header_from
    short h v = rw (lt-ltb (length s) (at + 6))

    pub header_short : length s < at + 6 → header_at s ≡ refused ends_too_soon (length s)
    header_short h = from_place (tagged s) refl ∙ short h _

    -- the record of a header with a VLAN tag or none
    abbrev pub fields : Vlan → EthernetHeader
    fields v = record {
      dst_addr = take 6 (drop 0 s);
      src_addr = take 6 (drop 6 s);
      vlan = v;
      ether_type = be_at s at 2;
      appid = be_at s (at + 2) 2;
      length = be_at s (at + 4) 2;
    }

    module _ (all : at + 6 ≤ length s) where
      there : (v : Option (ℕ × ℕ)) → found header_record (header_from s at v) ≡ got (fields (vlan_of v)) (at + 10)
      unfolding header_from header_record
      there v = rw (le-ltb (length s) (at + 6))

      pub header_vlan : at ≡ 16 → got (fields (vlan.Tagged (be_at s 12 2) (be_at s 14 2))) (at + 10) ≡ found header_record (header_at s)
      header_vlan e = go (tagged s) refl
        where
          go : (t : Bool) → tagged s ≡ t → got (fields (vlan.Tagged (be_at s 12 2) (be_at s 14 2))) (at + 10) ≡ found header_record (header_at s)
          go true f = sym (ap (found header_record) (from_place true f) ∙ there _)
          go false f = let z : at ≡ 12 = plain_place place f in absurd (omega arith)

      pub header_plain : (at ≡ 16 → ⊥) → got (fields vlan.Untagged) (at + 10) ≡ found header_record (header_at s)
      header_plain h = go (tagged s) refl
        where
          go : (t : Bool) → tagged s ≡ t → got (fields vlan.Untagged) (at + 10) ≡ found header_record (header_at s)
          go true f = absurd (h (tag_place place f))
          go false f = sym (ap (found header_record) (from_place false f) ∙ there _)

  -- the two octets of the EtherType
  module _ (bytes : Bytes s) where
    pub tagged_is : pair_at s 12 0x81 0x00 ≡ tagged s
    unfolding tagged
    tagged_is = pair_number s 12 0x81 0x00 (lit< tt) (bytes 13)

    pub smv_at : (at : ℕ) → at ≡ cond (tagged s) 16 12 → pair_at s at 0x88 0xBA ≡ is_smv_frame s
    unfolding is_smv_frame
    smv_at at place = rw place (go (tagged s) refl)
      where
        go : (t : Bool) → tagged s ≡ t → pair_at s (cond t 16 12) 0x88 0xBA ≡ is_smv_frame s
        go true e = rw e (pair_number s 16 0x88 0xBA (lit< tt) (bytes 17))
        go false e = rw e (pair_number s 12 0x88 0xBA (lit< tt) (bytes 13))

-- a reader of a frame
module _ {B : Type 0} (f : Header → ℕ → Answer B) where
  pub opened_answer : (n : ℕ) (s : List ℕ) → answer (opened_at n s) f ≡ refuse_channels n (answer (header_at s) f)
  opened_answer n s = go (ltb max_channels n)
    where
      go : (t : Bool) → answer (cond t (refused too_many_channels 0) (header_at s)) f ≡ refuse t too_many_channels (answer (header_at s) f)
      go true = refl
      go false = refl
