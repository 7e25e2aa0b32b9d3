-- What the steps of the cursor answer, in the terms of the definition: a value and the place after it, or a refusal's number and
-- place: definitions only.
use Rattle.std.specs.Prelude.{List, ℕ, take, drop, Result, Ok, Err}
use Rattle.definition.specs.Read.{Out, got, refused}
use Rattle.definition.specs.Read as read
use Rattle.rt_services.specs.Reasons.{reason_number}
use Rattle.rt_services.specs.declared.Refusal.{Refusal}
use Rattle.ber_decode.specs.declared.Cursor.{Cursor}
use Rattle.ber_decode.specs.declared.Head.{Head}
use Rattle.ber_decode.specs.declared.Numbered.{Numbered}
use Rattle.ber_decode.specs.declared.Span.{Span}
use Rattle.ber_decode.specs.declared.Width.{Width}
use Rattle.ber_decode.specs.declared.Width.TheVariants as width

-- a step's answer
abbrev pub told_at : {A : Type 0} → Result (A × Cursor) Refusal → Out A
told_at (Ok x) = got x.0 x.1.at
told_at (Err r) = refused (reason_number r.reason) r.place

-- a step's answer, where a refusal has a number that may be the caller's own
abbrev pub numbered_at : {A : Type 0} → Result (A × Cursor) Numbered → Out A
numbered_at (Ok x) = got x.0 x.1.at
numbered_at (Err r) = refused r.number r.place

-- what a step found, put otherwise
abbrev pub found : {A B : Type 0} → (A → B) → Out A → Out B
found f (got x at) = got (f x) at
found f (refused k at) = refused k at

-- a tag with its length
abbrev pub head_of : read.Head → Head
head_of h = record { tag = h.tag; len = h.len }

-- k octets from a place on
abbrev pub span_from : ℕ → ℕ → List ℕ → Span
span_from at k l = record { at = at; len = k }

-- those octets of s
abbrev pub octets_in : List ℕ → Span → List ℕ
octets_in s x = take x.len (drop x.at s)

-- the octets of a field
abbrev pub width_octets : Width → ℕ
width_octets width.One = 1
width_octets width.Two = 2
width_octets width.Four = 4
