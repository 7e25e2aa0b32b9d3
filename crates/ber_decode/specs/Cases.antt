-- The cases of head_at, number_at, span_at and has_at, one for each way out; and the bounds of what they find.
use Rattle.std.specs.Prelude.{ℕ, zero, suc, ◌+◌, ◌-◌, ◌*◌, ◌^◌, ◌<◌, ◌≤◌, ◌≡◌, refl, List, Bool, true, false, length, take, drop, leb, eqb}
use native.Mathlib.Omega.{arith}
use Rattle.std.proofs.Math.Nat.{pow-le-pow_right}
use Rattle.std.proofs.Common.{add-zero, add-one, sym, ap, ◌∙◌, lit<}
use Rattle.std.proofs.Math.ListN.{get_or}
use borrow.Author.Tests.{le-leb, lt-leb, le-ltb, lt-ltb, ne_eqb, leb-true, leb-false}
use Rattle.definition.specs.Frame.{and, Bytes}
use Rattle.definition.specs.Read.{Out, got, refused, be_at, Head, head_at, number_at, span_at, has_at, missing_at}
use Rattle.definition.specs.Limits.{ends_too_soon, bad_length, integer_too_long}
use Rattle.ber_decode.specs.declared.Cursor.{Cursor}
use Rattle.ber_decode.specs.declared.Head as code
use Rattle.ber_decode.specs.declared.Span.{Span}
use Rattle.rt_services.specs.Reasons.{reason_number}
use Rattle.rt_services.specs.declared.Refusal.{Refusal}
use Rattle.std.specs.Prelude.{Result, Ok, Err}
use Rattle.ber_decode.specs.Told.{told_at, found, head_of, span_from, octets_in}

-- ---- numbers

-- the number of n octets is below 256 ^ n
pub be_lt : (s : List ℕ) → Bytes s → (at n : ℕ) → be_at s at n < 256 ^ n
unfolding be_at
be_lt s h at zero = lit< tt
be_lt s h at (suc n) = omega (arith, be_lt s h at n, h (at + n))

pub be_none : (s : List ℕ) (at : ℕ) → 0 ≡ be_at s at 0
unfolding be_at
be_none s at = refl

-- one octet more
pub be_more : (s : List ℕ) (at n : ℕ) → be_at s at n * 256 + get_or s (at + n) 0 ≡ be_at s at (n + 1)
unfolding be_at
be_more s at n = rw add-one

pub digit_more : {v b : ℕ} (n : ℕ) → v < 256 ^ n → b < 256 → v * 256 + b < 256 ^ (n + 1)
digit_more n h l = rw add-one (omega arith)

pub pow_three : {n : ℕ} → n < 4 → 256 ^ n ≤ 256 ^ 3
pow_three {n} h = pow-le-pow_right (lit< tt) {i = n} {j = 3} (omega arith)

pub pow_four : {w : ℕ} → w ≤ 4 → 256 ^ w ≤ 4294967296
pow_four {w} h = pow-le-pow_right (lit< tt) {i = w} {j = 4} h

-- a number of n octets with its sign's fill is one of w octets
pub fill_lt : {v n w : ℕ} → v < 256 ^ n → n ≤ w → v + (256 ^ w - 256 ^ n) < 256 ^ w
fill_lt {v} {n} {w} h l = let p : 256 ^ n ≤ 256 ^ w = pow-le-pow_right (lit< tt) l in omega arith

-- the number of n octets with its sign's fill, in a field of w ≤ 4
pub filled_lt : (s : List ℕ) (at n w : ℕ) {v p q : ℕ} → Bytes s → n ≤ w → w ≤ 4 → v ≡ be_at s at n → p ≡ 256 ^ w → q ≡ 256 ^ n → v + (p - q) < 4294967296
filled_lt s at n w {v} {p} {q} h l m a b d =
    let e : v + (p - q) < 256 ^ w = rw (a, b, d) (fill_lt (be_lt s h at n) l) in
    omega (arith, pow_four {w = w} m)

-- two numbers are one way round or the other
split : {P : Type 0} (a b : ℕ) → (a ≤ b → P) → (b < a → P) → P
split {P} a b f g = go (leb a b) refl
  where
    go : (t : Bool) → leb a b ≡ t → P
    go true e = f (leb-true a b e)
    go false e = g (leb-false a b e)

-- ---- a tag and its length

module _ (s : List ℕ) (at : ℕ) where
  pub head_none : length s ≤ at + 1 → head_at s at ≡ refused ends_too_soon at
  unfolding head_at
  head_none h = simp le-leb

  module _ (two : at + 1 < length s) where
    pub head_short : get_or s (at + 1) 0 < 128 → head_at s at ≡ got (record { tag = get_or s at 0; len = get_or s (at + 1) 0 }) (at + 2)
    unfolding head_at
    head_short h = simp (lt-leb, lt-ltb)

    head_eighty : get_or s (at + 1) 0 ≡ 128 → head_at s at ≡ refused bad_length at
    unfolding head_at
    head_eighty h = simp (lt-leb, h)

    head_above : 132 ≤ get_or s (at + 1) 0 → head_at s at ≡ refused bad_length at
    unfolding head_at
    head_above h =
        let k : 128 ≤ get_or s (at + 1) 0 = omega arith in
        let e : get_or s (at + 1) 0 ≡ 128 → ⊥ = λ e. omega arith in
        simp (lt-leb, le-ltb, ne_eqb, le-leb)

    -- a length octet 80, or 84 to FF
    pub head_bad : 128 ≤ get_or s (at + 1) 0 → (128 < get_or s (at + 1) 0 → get_or s (at + 1) 0 < 132 → ⊥) → head_at s at ≡ refused bad_length at
    head_bad h f = split (get_or s (at + 1) 0) 128 (λ a. head_eighty (omega arith)) (λ a. split 132 (get_or s (at + 1) 0) head_above (λ b. absurd (f a b)))

    module _ (low : 128 < get_or s (at + 1) 0) (high : get_or s (at + 1) 0 < 132) where
      pub head_cut : length s < at + 2 + (get_or s (at + 1) 0 - 128) → head_at s at ≡ refused ends_too_soon at
      unfolding head_at
      head_cut h =
          let k : 128 ≤ get_or s (at + 1) 0 = omega arith in
          let e : get_or s (at + 1) 0 ≡ 128 → ⊥ = λ e. omega arith in
          simp (lt-leb, le-ltb, ne_eqb, lt-ltb)

      pub head_long :
          at + 2 + (get_or s (at + 1) 0 - 128) ≤ length s →
          head_at s at
          ≡ got (record { tag = get_or s at 0; len = be_at s (at + 2) (get_or s (at + 1) 0 - 128) }) (at + 2 + (get_or s (at + 1) 0 - 128))
      unfolding head_at
      head_long h =
          let k : 128 ≤ get_or s (at + 1) 0 = omega arith in
          let e : get_or s (at + 1) 0 ≡ 128 → ⊥ = λ e. omega arith in
          simp (lt-leb, le-ltb, ne_eqb)

-- the place after a tag and its length is inside, and the length has at most three octets
module _ (s : List ℕ) (bytes : Bytes s) (at : ℕ) where
  head_within : {h : Head} {end : ℕ} → head_at s at ≡ got h end → (end ≤ length s) × (h.len < 16777216)
  head_within {h} {end} e =
      split (length s) (at + 1) (λ a. no (head_none s at a)) (λ a.
      split 128 (get_or s (at + 1) 0) (λ b.
      split (get_or s (at + 1) 0) 128 (λ d. no (head_eighty s at a (omega arith))) (λ d.
      split 132 (get_or s (at + 1) 0) (λ f. no (head_above s at a f)) (λ f.
      split (at + 2 + (get_or s (at + 1) 0 - 128)) (length s)
      (λ g. yes (head_long s at a d f g) (g, omega (arith, be_lt s bytes (at + 2) (get_or s (at + 1) 0 - 128), pow_three {n = get_or s (at + 1) 0 - 128} (omega arith))))
      (λ g. no (head_cut s at a d f g)))))
      (λ b. yes (head_short s at a b) (omega arith)))
    where
      no : {k p : ℕ} → head_at s at ≡ refused k p → (end ≤ length s) × (h.len < 16777216)
      no f = let x = sym f ∙ e in let z : ◌≡◌ {A = ℕ} 0 1 = cc in absurd (omega arith)

      yes : {h' : Head} {end' : ℕ} → head_at s at ≡ got h' end' → (end' ≤ length s) × (h'.len < 16777216) → (end ≤ length s) × (h.len < 16777216)
      yes {h'} {end'} f g =
          let x : got h' end' ≡ got h end = sym f ∙ e in
          let p : h' ≡ h = cc in
          let q : end' ≡ end = cc in
          rw (← p, ← q) g

  -- of the answer of `head`
  pub head_found : {x : Result (code.Head × Cursor) Refusal} → told_at x ≡ found head_of (head_at s at) → {h : code.Head} {c : Cursor} → x ≡ Ok (h, c) → (c.at ≤ length s) × (h.len < 16777216)
  head_found e f = go (head_at s at) refl (sym e ∙ ap told_at f)
    where
      go : {h : code.Head} {c : Cursor} (o : Out Head) → head_at s at ≡ o → found head_of o ≡ got h c.at → (c.at ≤ length s) × (h.len < 16777216)
      go {h} {c} (got k p) f g =
          let q : p ≡ c.at = cc in
          let r : head_of k ≡ h = cc in
          rw (← q, ← r) (head_within f)
      go (refused k p) f g = let z : ◌≡◌ {A = ℕ} 0 1 = cc in absurd (omega arith)

-- ---- octets that are not there

module _ (s : List ℕ) (at n : ℕ) where
  missing_sum : 2 ^ 64 ≤ at + n → missing_at s at n ≡ length s
  unfolding missing_at
  missing_sum h = rw (le-ltb (at + n) (2 ^ 64) h)

  missing_place : at + n < 2 ^ 64 → missing_at s at n ≡ at
  unfolding missing_at
  missing_place h = rw (lt-ltb (at + n) (2 ^ 64) h)

-- ---- an integer

module _ (w : ℕ) (s : List ℕ) (at n : ℕ) where
  pub number_none : length s ≤ at → number_at w s at n ≡ refused ends_too_soon (missing_at s at n)
  unfolding number_at
  number_none h = simp le-leb

  module _ (one : at < length s) where
    pub number_cut : length s < at + n → number_at w s at n ≡ refused ends_too_soon (missing_at s at n)
    unfolding number_at
    number_cut h = simp (lt-leb, lt-ltb)

    module _ (all : at + n ≤ length s) where
      pub number_plain : n ≤ w → get_or s at 0 < 128 → number_at w s at n ≡ got (be_at s at n) (at + n)
      unfolding number_at
      number_plain h p = simp (lt-leb, le-ltb, le-leb, add-zero)

      pub number_signed : n ≤ w → 128 ≤ get_or s at 0 → number_at w s at n ≡ got (be_at s at n + (256 ^ w - 256 ^ n)) (at + n)
      unfolding number_at
      number_signed h p = simp (lt-leb, le-ltb, le-leb)

      pub number_long : w + 1 < n → number_at w s at n ≡ refused integer_too_long at
      unfolding number_at
      number_long h = let k : w < n = omega arith in simp (lt-leb, le-ltb, lt-ltb)

      module _ (more : n ≡ w + 1) where
        pub number_full : 0 < get_or s at 0 → number_at w s at n ≡ refused integer_too_long at
        unfolding number_at
        number_full h = let k : w < n = omega arith in let l : n ≤ w + 1 = omega arith in simp (lt-leb, le-ltb, lt-ltb)

        pub number_idle : get_or s at 0 ≡ 0 → get_or s (at + 1) 0 < 128 → number_at w s at n ≡ refused integer_too_long at
        unfolding number_at
        number_idle h p =
            let k : w < n = omega arith in
            let l : n ≤ w + 1 = omega arith in
            let z : get_or s at 0 ≤ 0 = omega arith in
            simp (lt-leb, le-ltb, lt-ltb)

        pub number_front : get_or s at 0 ≡ 0 → 128 ≤ get_or s (at + 1) 0 → number_at w s at n ≡ got (be_at s (at + 1) w) (at + n)
        unfolding number_at
        number_front h p =
            let k : w < n = omega arith in
            let l : n ≤ w + 1 = omega arith in
            let z : get_or s at 0 ≤ 0 = omega arith in
            simp (lt-leb, le-ltb)

module _ (w : ℕ) (s : List ℕ) (at n : ℕ) where
  -- place and length add up to 2^64 or more
  pub number_sum : length s < 2 ^ 64 → 2 ^ 64 ≤ at + n → number_at w s at n ≡ refused ends_too_soon (length s)
  number_sum l h =
      split (length s) at
      (λ a. number_none w s at n a ∙ rw (missing_sum s at n h))
      (λ a. number_cut w s at n a (omega arith) ∙ rw (missing_sum s at n h))

  -- or stay below it
  pub number_none_at : at + n < 2 ^ 64 → length s ≤ at → number_at w s at n ≡ refused ends_too_soon at
  number_none_at h a = number_none w s at n a ∙ rw (missing_place s at n h)

  pub number_cut_at : at + n < 2 ^ 64 → at < length s → length s < at + n → number_at w s at n ≡ refused ends_too_soon at
  number_cut_at h a b = number_cut w s at n a b ∙ rw (missing_place s at n h)

-- ---- octets

module _ (number limit : ℕ) (s : List ℕ) (at n : ℕ) where
  pub span_cut : length s < at + n → span_at number limit s at n ≡ refused ends_too_soon (missing_at s at n)
  unfolding span_at
  span_cut h = simp lt-ltb

  pub span_sum : length s < 2 ^ 64 → 2 ^ 64 ≤ at + n → span_at number limit s at n ≡ refused ends_too_soon (length s)
  span_sum l h = span_cut (omega arith) ∙ rw (missing_sum s at n h)

  pub span_cut_at : at + n < 2 ^ 64 → length s < at + n → span_at number limit s at n ≡ refused ends_too_soon at
  span_cut_at h a = span_cut a ∙ rw (missing_place s at n h)

  pub span_long : at + n ≤ length s → limit < n → span_at number limit s at n ≡ refused number at
  unfolding span_at
  span_long h l = simp (le-ltb, lt-ltb)

  pub span_held : at + n ≤ length s → n ≤ limit → span_at number limit s at n ≡ got (take n (drop at s)) (at + n)
  unfolding span_at
  span_held h l = simp le-ltb

-- ---- a tag

pub has_end : (s : List ℕ) (at tag : ℕ) → length s ≤ at → has_at s at tag ≡ false
unfolding has_at and
has_end s at tag h = simp le-ltb

pub has_there : (s : List ℕ) (at tag : ℕ) → at < length s → has_at s at tag ≡ eqb (get_or s at 0) tag
unfolding has_at and
has_there s at tag h = simp lt-ltb

-- ---- what was found keeps to its bounds

-- a number that was read is one of w octets
pub data Below (w : ℕ) : Out ℕ → Type 0 where
  below : {v at : ℕ} → v < 256 ^ w → Below w (got v at)
  unread : {k at : ℕ} → Below w (refused k at)

pub below_value : {w v at : ℕ} → Below w (got v at) → v < 256 ^ w
below_value (below h) = h

pub number_lt : (w : ℕ) (s : List ℕ) → Bytes s → (at n : ℕ) → Below w (number_at w s at n)
number_lt w s h at n =
    split (length s) at (λ a. rw (number_none w s at n a) unread) (λ a.
    split (at + n) (length s) (λ b.
    split n w (λ d.
    split 128 (get_or s at 0)
    (λ e. rw (number_signed w s at n a b d e) (below (fill_lt (be_lt s h at n) d)))
    (λ e. rw (number_plain w s at n a b d e) (below (plain d))))
    (λ d.
    split n (w + 1) (λ e.
    split (get_or s at 0) 0 (λ f.
    split 128 (get_or s (at + 1) 0)
    (λ g. rw (number_front w s at n a b (omega arith) (omega arith) g) (below (be_lt s h (at + 1) w)))
    (λ g. rw (number_idle w s at n a b (omega arith) (omega arith) g) unread))
    (λ f. rw (number_full w s at n a b (omega arith) f) unread))
    (λ e. rw (number_long w s at n a b e) unread)))
    (λ b. rw (number_cut w s at n a b) unread))
  where
    plain : n ≤ w → be_at s at n < 256 ^ w
    plain l = let p : 256 ^ n ≤ 256 ^ w = pow-le-pow_right (lit< tt) l in omega (arith, be_lt s h at n)

-- octets that are there, and can be held
pub record Inside (limit : ℕ) (s : List ℕ) (at n : ℕ) : Type 0 where
  pub fits : n ≤ limit
  pub within : at + n ≤ length s

-- what an answer holds has this
abbrev pub Within : {A : Type 0} → (A → Type 0) → Result (A × Cursor) Refusal → Type 0
Within P (Ok x) = P x.0
Within P (Err r) = Unit {0}

abbrev pub SpanIn : ℕ → List ℕ → Span → Type 0
SpanIn limit s x = Inside limit s x.at x.len

-- an answer tells what the definition finds, and keeps within its bounds
pub record Says {X A : Type 0} (tell : X → A) (In : X → Type 0) (x : Result (X × Cursor) Refusal) (o : Out A) : Type 0 where
  pub told : found tell (told_at x) ≡ o
  pub inside : Within In x

-- what a step that reads octets answers, is so
pub span_says : (number limit : ℕ) (s : List ℕ) (at n : ℕ) (x : Result (Span × Cursor) Refusal) → told_at x ≡ found (span_from at n) (span_at number limit s at n) → Says (octets_in s) (SpanIn limit s) x (span_at number limit s at n)
span_says number limit s at n (Ok x) h =
    split (at + n) (length s) (λ f.
    split n limit
    (λ g. held f g (h ∙ ap (found (span_from at n)) (span_held number limit s at n f g)))
    (λ g. no (h ∙ ap (found (span_from at n)) (span_long number limit s at n f g))))
    (λ f. no (h ∙ ap (found (span_from at n)) (span_cut number limit s at n f)))
  where
    no : {k p : ℕ} → got x.0 x.1.at ≡ refused k p → Says (octets_in s) (SpanIn limit s) (Ok x) (span_at number limit s at n)
    no e = let z : ◌≡◌ {A = ℕ} 0 1 = cc in absurd (omega arith)

    held : at + n ≤ length s → n ≤ limit → got x.0 x.1.at ≡ got (record { at = at; len = n }) (at + n) → Says (octets_in s) (SpanIn limit s) (Ok x) (span_at number limit s at n)
    held f g e =
        let a : x.0 ≡ record { at = at; len = n } = cc in
        let b : x.1.at ≡ at + n = cc in
        let i : Inside limit s x.0.at x.0.len = rw a (record { fits = g; within = f }) in
        record { told = rw (a, b) (sym (span_held number limit s at n f g)); inside = i }
span_says number limit s at n (Err r) h = record { told = go (span_at number limit s at n) h; inside = tt }
  where
    go : (o : Out (List ℕ)) → refused (reason_number r.reason) r.place ≡ found (span_from at n) o → refused (reason_number r.reason) r.place ≡ o
    go (got l p) e = let z : ◌≡◌ {A = ℕ} 0 1 = cc in absurd (omega arith)
    go (refused k p) e = cc
